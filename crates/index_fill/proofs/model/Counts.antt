-- The tables, when all fields are through.
use Prim.Native.Nat.{ℕ, ◌+◌}
use mathlib.Core.Path.{◌≡◌, refl, sym, ◌∙◌}
use mathlib.Core.Bool.{Bool, true, false, cond, ◌||◌}
use mathlib.Core.List.{List, [], ◌∷◌, map}
use native.Mathlib.Omega.{arith}
use borrow.Author.Tests.{ne_eqb}
use lib.Dec.{eqb}
use lib.ListN.{length, get_or}
use Rattle.le.specs.Le.{at16}
use Rattle.description.specs.Fields.{tag_at, of_tag}
use Rattle.definition.specs.Data.{member}
use Rattle.layout.specs.declared.Tables.{Tables}
use Rattle.index_fill.specs.model.Model.{first_at, one_more, tables_after, tables_from}
use Rattle.index_fill.proofs.model.Slots.{placed_in}

-- the place of the first, where there was none before
abbrev first_of : List ℕ → ℕ → ℕ → ℕ
first_of ps count at = cond (eqb count 0) (get_or ps 0 at) at

-- what the tables t become
unfoldable pub counted : List ℕ → List ℕ → Tables → Tables
counted s ps t =
    record {
      chunks = t.chunks;
      signatures = t.signatures;
      entry = t.entry;
      slots = t.slots;
      float = t.float;
      handle = t.handle;
      owns = t.owns;
      layout = t.layout;
      natives_at = first_of (of_tag 5 s ps) t.natives t.natives_at;
      natives = t.natives + length (of_tag 5 s ps);
      shared_at = first_of (of_tag 6 s ps) t.shared t.shared_at;
      shared = t.shared + length (of_tag 6 s ps);
      inits = t.inits + length (of_tag 8 s ps);
      past_placed = t.past_placed || member t.slots (placed_in s ps);
      queue_at = t.queue_at;
    }

first-turn : (b : Bool) (p : ℕ) (ps : List ℕ) (n at : ℕ) → first_of ps (one_more b n) (first_at b n p at) ≡ first_of (cond b (p ∷ ps) ps) n at
first-turn true p ps n at = rw (ne_eqb (n + 1) 0 (λ q. omega arith))
first-turn false p ps n at = refl

count_turn : (b : Bool) (p : ℕ) (ps : List ℕ) (n : ℕ) → one_more b n + length ps ≡ n + length (cond b (p ∷ ps) ps)
count_turn true p ps n = omega arith
count_turn false p ps n = refl

or_assoc : (a b c : Bool) → (a || b) || c ≡ a || (b || c)
or_assoc true b c = refl
or_assoc false b c = refl

past-turn : (b : Bool) (s : List ℕ) (p : ℕ) (ps : List ℕ) (past : Bool) (n : ℕ)
    → cond b (past || eqb (at16 s (p + 3)) n) past || member n (map (λ p. at16 s (p + 3)) ps) ≡ past || member n (map (λ p. at16 s (p + 3)) (cond b (p ∷ ps) ps))
unfolding member
past-turn true s p ps past n = or_assoc past (eqb (at16 s (p + 3)) n) (member n (map (λ p. at16 s (p + 3)) ps))
past-turn false s p ps past n = refl

or-false : (b : Bool) → b || false ≡ b
or-false true = refl
or-false false = refl

nothing : (b : Bool) (n : ℕ) → n ≡ cond b n n
nothing true n = refl
nothing false n = refl

pub tables-are : (s ps : List ℕ) (t : Tables) → tables_from s ps t ≡ counted s ps t
unfolding tables_from counted of_tag member tables_after
tables-are s [] t =
    let n : t.natives ≡ t.natives + 0 = omega arith in
    let m : t.shared ≡ t.shared + 0 = omega arith in
    let k : t.inits ≡ t.inits + 0 = omega arith in
    λ i.
    record {
      chunks = t.chunks;
      signatures = t.signatures;
      entry = t.entry;
      slots = t.slots;
      float = t.float;
      handle = t.handle;
      owns = t.owns;
      layout = t.layout;
      natives_at = nothing (eqb t.natives 0) t.natives_at i;
      natives = n i;
      shared_at = nothing (eqb t.shared 0) t.shared_at i;
      shared = m i;
      inits = k i;
      past_placed = sym (or-false t.past_placed) i;
      queue_at = t.queue_at;
    }
tables-are s (p ∷ ps) t =
    tables-are s ps (tables_after (tag_at s p) s p t)
    ∙ (λ i.
    record {
      chunks = t.chunks;
      signatures = t.signatures;
      entry = t.entry;
      slots = t.slots;
      float = t.float;
      handle = t.handle;
      owns = t.owns;
      layout = t.layout;
      natives_at = first-turn (eqb (tag_at s p) 5) p (of_tag 5 s ps) t.natives t.natives_at i;
      natives = count_turn (eqb (tag_at s p) 5) p (of_tag 5 s ps) t.natives i;
      shared_at = first-turn (eqb (tag_at s p) 6) p (of_tag 6 s ps) t.shared t.shared_at i;
      shared = count_turn (eqb (tag_at s p) 6) p (of_tag 6 s ps) t.shared i;
      inits = count_turn (eqb (tag_at s p) 8) p (of_tag 8 s ps) t.inits i;
      past_placed = past-turn (eqb (tag_at s p) 7) s p (of_tag 7 s ps) t.past_placed t.slots i;
      queue_at = t.queue_at;
    })
