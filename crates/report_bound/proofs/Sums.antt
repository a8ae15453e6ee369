-- What the walk sums up is the bound of the module.
use Prim.Native.Nat.{ℕ, ◌+◌, ◌*◌, ◌<◌, ◌≤◌}
use native.Mathlib.Omega.{arith}
use mathlib.Core.Path.{◌≡◌, refl}
use mathlib.Core.Bool.{Bool, true, false, cond, ◌&&◌}
use mathlib.Core.List.{List, [], ◌∷◌}
use lib.Dec.{eqb, ltb}
use lib.ListN.{length}
use borrow.Author.Tests.{eqb-true, eqb-false, eq-eqb, ne_eqb}
use Rattle.description.specs.declared.Header.{Header}
use Rattle.description.specs.Fields.{tag_at, next_at, fields_from, header_of, chunk_of, instr_of, param_of}
use Rattle.description.proofs.Walk.{next-after, fields-turn, fields-end}
use Rattle.definition.specs.Module.{Module, Line, line_of, code_after, signed_params, chunk_from, chunks_from, module_from, module_of}
use Rattle.form_laws.proofs.Each.{row-length}
use Rattle.form_laws.proofs.Front.{code-chunk, code-instr, chunks-chunk, chunks-other}
use Rattle.report_bound.specs.declared.Within.{Within}
use Rattle.report_bound.specs.Most.{instr_most, code_most, signature_most, chunk_most, chunks_most, most_report}
use Rattle.report_bound.specs.Walk.{chunk_within, instr_within, within_after, field_most}

-- before the first chunk
abbrev pub outside : Within
outside = record { seen = 0; reachable = false; entry = false; locals = 0; stack = 0; straight = false; height = 0 }

-- what the fields can add
unfoldable pub fields_most : List ℕ → Header → Within → List ℕ → ℕ
fields_most s h w [] = 0
fields_most s h w (p ∷ ps) = field_most s p h w + fields_most s h (within_after s p h w) ps

-- code of the chunk that is walked
unfoldable code_in : Within → List Line → ℕ
code_in w code = cond w.reachable (code_most w.locals w.stack w.entry w.straight w.height code) 0

code-none : (w : Within) → code_in w [] ≡ 0
unfolding code_in code_most
code-none w = go w.reachable
  where
    go : (b : Bool) → ◌≡◌ {A = ℕ} (cond b 0 0) 0
    go true = refl
    go false = refl

code-more : (s : List ℕ) (w : Within) (p : ℕ) (code : List Line)
    → code_in w (line_of s p ∷ code)
    ≡ cond w.reachable (instr_most w.locals w.stack w.height w.entry (instr_of s p)) 0 + code_in (instr_within (instr_of s p) w) code
unfolding code_in code_most line_of instr_within
code-more s w p code = both-or-none w.reachable _ _
  where
    both-or-none : (b : Bool) (m n : ℕ) → cond b (m + n) 0 ≡ cond b m 0 + cond b n 0
    both-or-none true m n = refl
    both-or-none false m n = refl

module _ (s : List ℕ) (h : Header) (m : Module) (signed : m.signatures ≡ h.signatures) (first : m.entry ≡ h.entry) where
  chunk-is : (p n : ℕ) (code : List Line)
      → chunk_most m (chunk_from s n p (ltb n h.signatures) code)
      ≡ signature_most (signed_params s p (ltb n h.signatures)) (ltb n h.signatures) + code_in (chunk_within s p h n) code
  unfolding chunk_most chunk_from chunk_within code_in
  chunk-is p n code = rw (row-length (param_of s p) 0 (signed_params s p (ltb n h.signatures)), signed, first)

  -- all that the fields add: the code up to the next chunk, and the chunks
  abbrev Sum : Within → List ℕ → Type 0
  Sum w ps = fields_most s h w ps ≡ code_in w (code_after s ps) + chunks_most m (chunks_from s h.signatures w.seen ps)

  module _ (w : Within) (p : ℕ) (ps : List ℕ) where
    at-chunk : tag_at s p ≡ 2 → Sum (chunk_within s p h w.seen) ps → Sum w (p ∷ ps)
    unfolding fields_most chunks_most field_most within_after chunk_within
    at-chunk e k =
        rw (code-chunk s p ps e, chunks-chunk s p ps h.signatures w.seen e, eq-eqb (tag_at s p) 2 e)
        (omega (arith, k, code-none w, chunk-is p w.seen (code_after s ps)))

    at-instr : tag_at s p ≡ 3 → Sum (instr_within (instr_of s p) w) ps → Sum w (p ∷ ps)
    unfolding fields_most field_most within_after instr_within
    at-instr e k =
        rw (code-instr s p ps e, chunks-other s p ps h.signatures w.seen (λ q. omega arith), ne_eqb (tag_at s p) 2 (λ q. omega arith), eq-eqb (tag_at s p) 3 e)
        (omega (arith, k, code-more s w p (code_after s ps)))

    at_other : (tag_at s p ≡ 2 → ⊥) → (tag_at s p ≡ 3 → ⊥) → Sum w ps → Sum w (p ∷ ps)
    unfolding fields_most field_most within_after code_after
    at_other two three k =
        rw (chunks-other s p ps h.signatures w.seen two, ne_eqb (tag_at s p) 2 two, ne_eqb (tag_at s p) 3 three) (omega (arith, k))

  sums : (w : Within) (ps : List ℕ) → Sum w ps
  unfolding fields_most code_after chunks_from chunks_most
  sums w [] = omega (arith, code-none w)
  sums w (p ∷ ps) = go (eqb (tag_at s p) 2) (eqb (tag_at s p) 3) refl refl (λ u. sums u ps)
    where
      go : (b c : Bool) → eqb (tag_at s p) 2 ≡ b → eqb (tag_at s p) 3 ≡ c → ((u : Within) → Sum u ps) → Sum w (p ∷ ps)
      go true c eb ec k = at-chunk w p ps (eqb-true (tag_at s p) 2 eb) (k (chunk_within s p h w.seen))
      go false true eb ec k = at-instr w p ps (eqb-true (tag_at s p) 3 ec) (k (instr_within (instr_of s p) w))
      go false false eb ec k = at_other w p ps (eqb-false (tag_at s p) 2 eb) (eqb-false (tag_at s p) 3 ec) (k w)

pub walk-sum : (s : List ℕ) → 7 + 52 * (header_of s 0).slots + fields_most s (header_of s 0) outside (fields_from s 0) ≡ most_report (module_of s)
unfolding most_report module_of module_from code_in
walk-sum s = omega (arith, sums s (header_of s 0) (module_of s) refl refl outside (fields_from s 0))

-- ---- the sum so far, and what is still to come
-- n is summed up before the field at p, and the walk has seen no more chunks than bytes
pub record Summing (s : List ℕ) (p n : ℕ) (w : Within) : Type 0 where
  pub small : n ≤ 8388608 * (p + 1)
  pub few : w.seen ≤ p
  pub gives : n + fields_most s (header_of s 0) w (fields_from s p) ≡ most_report (module_of s)

pub sum-start : (s : List ℕ) → (header_of s 0).slots ≤ 65535 → Summing s 0 (7 + 52 * (header_of s 0).slots) outside
sum-start s h = record { small = omega arith; few = omega arith; gives = walk-sum s }

seen_few : (s : List ℕ) (p : ℕ) (h : Header) (w : Within) → (within_after s p h w).seen ≤ w.seen + 1
unfolding within_after chunk_within instr_within
seen_few s p h w = go (eqb (tag_at s p) 2) (eqb (tag_at s p) 3)
  where
    go : (b c : Bool) → (cond b (chunk_within s p h w.seen) (cond c (instr_within (instr_of s p) w) w)).seen ≤ w.seen + 1
    go true c = omega arith
    go false true = omega arith
    go false false = omega arith

pub sum_more : (s : List ℕ) (p n x : ℕ) (w : Within) → p < length s → Summing s p n w → x ≡ field_most s p (header_of s 0) w → x ≤ 8388608
    → Summing s (next_at s p) (n + x) (within_after s p (header_of s 0) w)
unfolding fields_most
sum_more s p n x w l k e b =
    record {
      small = omega (arith, k.small, next-after s p);
      few = omega (arith, k.few, seen_few s p (header_of s 0) w, next-after s p);
      gives = omega (arith, e, rw (fields-turn s p l) at k.gives);
    }

pub sum-end : (s : List ℕ) (p n : ℕ) (w : Within) → length s ≤ p → Summing s p n w → n ≡ most_report (module_of s)
unfolding fields_most
sum-end s p n w l k = omega (arith, rw (fields-end s p l) at k.gives)
