-- The rule of a visit: both modes give the same, its ways are among those of its instruction, and a chunk begins at its first.
use Prim.Native.Nat.{ℕ, zero, suc, ◌+◌, ◌<◌}
use native.Mathlib.Omega.{arith}
use native.Mathlib.Nat.{add-zero, zero-add}
use mathlib.Core.Path.{◌≡◌, refl, sym, ◌∙◌, ap}
use mathlib.Core.Logic.{◌⊎◌, inl, inr, ◌≢◌}
use mathlib.Core.Bool.{Bool, true, false, cond}
use mathlib.Core.Option.{Option, none, some}
use mathlib.Core.List.Memᴰ
use mathlib.Core.List.{List, [], ◌∷◌, Memᴰ}
use lib.ListN.{length, get_or, replicate, length-set, length-replicate}
use lib.Seq.{get_or-set_same, get_or-set_other}
use lib.Dec.{eqb}
use borrow.Author.Tests.{eqb-true}
use Rattle.masks.specs.declared.Mask.{Mask}
use Rattle.masks.specs.Mask.{same as same_mask}
use Rattle.definition.specs.Res.{Res, ok}
use Rattle.definition.specs.Machine.{Effect}
use Rattle.definition.specs.Module.{Chunk, Line}
use Rattle.definition.specs.State.{State, Facts, Gift}
use Rattle.definition.specs.Outputs.{Visit, arg, instr}
use Rattle.definition.specs.Wants.{unfit}
use Rattle.definition.specs.Ways.{branch, narrowed_on, along, on_way, leaving_by, leaving}
use Rattle.definition.specs.Leaves.{Known, line_at, visit_of, always, gives, unless, height_fault, visited, leaves}
use Rattle.definition.specs.Start.{start, filled, state_fault, inspected, after_chunk}
use Rattle.form_laws.proofs.Each.{suc-out}
use Rattle.masks.proofs.Both.{never}
use Rattle.machine_laws.proofs.Bind.{none≢some}

-- ---- the effect of an accepted visit
unless-use : {A B : Type 0} (n : ℕ) (r : Res A) (a : A) → unless n r ≡ ok a → (n ≡ 0 → r ≡ ok a → B) → B
unless-use zero r a h k = k refl h
unless-use (suc n) r a h k = never (cc)

-- no refusal but for what validation asks, and its effect
pub record Accepted (v : Bool) (x : Visit) (e : Effect State Gift) : Type 0 where
  pub fits : always x ≡ 0
  pub proven : cond v (unfit x) 0 ≡ 0
  pub low : height_fault x ≡ 0
  pub is : record { ways = leaving x; gives = gives x } ≡ e

pub accepted : (k : Known) (v : Bool) (c : Chunk) (f : Facts) (i : ℕ) (s : State) (e : Effect State Gift) → leaves k v c f i s ≡ ok e
    → Accepted v (visit_of k c f i s) e
unfolding leaves visited
accepted k v c f i s e h =
    let x = visit_of k c f i s in
    unless-use (always x) _ e h λ p h₁.
    unless-use (cond v (unfit x) 0) _ e h₁ λ q h₂.
    unless-use (height_fault x) _ e h₂ λ u h₃.
    record { fits = p; proven = q; low = u; is = cc }

pub agree : (k : Known) (c : Chunk) (f : Facts) (i : ℕ) (s : State) (e e' : Effect State Gift)
    → leaves k true c f i s ≡ ok e → leaves k false c f i s ≡ ok e' → e ≡ e'
agree k c f i s e e' h h' = sym (accepted k true c f i s e h).is ∙ (accepted k false c f i s e' h').is

-- ---- the ways
one_of : (x y t : ℕ) → Memᴰ t (x ∷ y ∷ []) → (t ≡ x) ⊎ (t ≡ y)
one_of x y t h = go (Memᴰ.cases_cons h)
  where
    go : (t ≡ x) ⊎ Memᴰ t (y ∷ []) → (t ≡ x) ⊎ (t ≡ y)
    go (inl e) = inl e
    go (inr h) = inr (Memᴰ.eq_of_singleton h)

pub branch_in : (condition jumps stays : Mask) (next target to : ℕ) → Memᴰ to (branch condition jumps stays next target)
    → (to ≡ next) ⊎ (to ≡ target)
unfolding branch
branch_in condition jumps stays next target to h = go (same_mask condition jumps) (same_mask condition stays) h
  where
    go : (a b : Bool) → Memᴰ to (cond a (target ∷ []) (cond b (next ∷ []) (next ∷ target ∷ []))) → (to ≡ next) ⊎ (to ≡ target)
    go true b h = inr (Memᴰ.eq_of_singleton h)
    go false true h = inl (Memᴰ.eq_of_singleton h)
    go false false h = one_of next target to h

-- what leaves along the ways, and back: each way that is not cut
module _ (v : Visit) (x : State) where
  abbrev goes : ℕ → Option State
  goes to = along x (narrowed_on v to)

  abbrev Left : List ℕ → ℕ → State → Type 0
  Left tos t y = Memᴰ {A = ℕ × State} (t, y) (leaving_by v x tos)

  pub leaving-in : (tos : List ℕ) (t : ℕ) (y : State) → Left tos t y → Memᴰ t tos × (goes t ≡ some y)
  unfolding leaving_by on_way
  leaving-in [] t y h = absurd (Memᴰ.not-nil h)
  leaving-in (to ∷ tos) t y h = go (leaving-in tos t y) (goes to) refl h
    where
      one : (z : State) → goes to ≡ some z → (Left tos t y → Memᴰ t tos × (goes t ≡ some y)) → (◌≡◌ {A = ℕ × State} (t, y) (to, z)) ⊎ Left tos t y
          → Memᴰ t (to ∷ tos) × (goes t ≡ some y)
      one z e below (inl p) =
          (Memᴰ.head (ap (λ (o : ℕ × State). o.0) p), ap goes (ap (λ (o : ℕ × State). o.0) p) ∙ e ∙ ap some (sym (ap (λ (o : ℕ × State). o.1) p)))
      one z e below (inr h) = let (a, b) = below h in (Memᴰ.tail a, b)

      go : (Left tos t y → Memᴰ t tos × (goes t ≡ some y)) → (o : Option State) → goes to ≡ o
          → Memᴰ {A = ℕ × State} (t, y) (on_way to o (leaving_by v x tos)) → Memᴰ t (to ∷ tos) × (goes t ≡ some y)
      go below none e h = let (a, b) = below h in (Memᴰ.tail a, b)
      go below (some z) e h = one z e below (Memᴰ.cases_cons h)

  pub in-leaving : (tos : List ℕ) (t : ℕ) (y : State) → goes t ≡ some y → Memᴰ t tos → Left tos t y
  unfolding leaving_by on_way
  in-leaving [] t y e h = absurd (Memᴰ.not-nil h)
  in-leaving (to ∷ tos) t y e h = go (in-leaving tos t y e) (Memᴰ.cases_cons h)
    where
      later : (o : Option State) → Left tos t y → Memᴰ {A = ℕ × State} (t, y) (on_way to o (leaving_by v x tos))
      later none m = m
      later (some z) m = Memᴰ.tail m

      go : (Memᴰ t tos → Left tos t y) → (t ≡ to) ⊎ Memᴰ t tos
          → Memᴰ {A = ℕ × State} (t, y) (on_way to (goes to) (leaving_by v x tos))
      go below (inl p) = rw (← p, e) (Memᴰ.head refl)
      go below (inr m) = later (goes to) (below m)

-- ---- the first instruction
rep-none : (n i : ℕ) → get_or (replicate {A = Option State} n none) i none ≡ none
rep-none zero i = refl
rep-none (suc n) zero = refl
rep-none (suc n) (suc i) = rep-none n i

suc≢zero : (i : ℕ) → suc i ≢ 0
suc≢zero i e = omega arith

pub first-only : (c : Chunk) (f : Facts) (i : ℕ) (s : State) → get_or (start c f) i none ≡ some s → i ≡ 0
unfolding start
first-only c f zero s e = refl
first-only c f (suc i) s e =
    absurd (none≢some (sym (rep-none (length c.code) (suc i)) ∙ (rw (get_or-set_other, suc≢zero) at e)))

pub start-length : (c : Chunk) (f : Facts) → length (start c f) ≡ length c.code
unfolding start
start-length c f = simp (length-set, length-replicate)

-- an empty stack, the chunk's inputs, and Unit in the other locals
abbrev pub begun : Chunk → Facts → State
begun c f = record { stack = []; locals = filled c.locals (get_or f.inputs c.number []) }

pub start_first : (c : Chunk) (f : Facts) → 0 < length c.code → get_or (start c f) 0 none ≡ some (begun c f)
unfolding start
start_first c f h =
    get_or-set_same (replicate (length c.code) none) 0 (some (begun c f)) none (rw (length-replicate {A = Option State} (length c.code) none) h)

-- ---- after a chunk's validation no state is at fault
inspected-none : (c : Chunk) (i : ℕ) (ss : List (Option State)) → inspected c i ss ≡ none → (j : ℕ) (s : State) → get_or ss j none ≡ some s
    → state_fault (line_at c (i + j)) (some s) ≡ 0
unfolding inspected
inspected-none c i [] h j s r = absurd (none≢some r)
inspected-none c i (o ∷ ss) h j s r = go (eqb (state_fault (line_at c i) o) 0) refl h j r (inspected-none c (suc i) ss)
  where
    go : (b : Bool) → eqb (state_fault (line_at c i) o) 0 ≡ b → cond b (inspected c (suc i) ss) (some (state_fault (line_at c i) o, i)) ≡ none
        → (j : ℕ) → get_or (o ∷ ss) j none ≡ some s
        → (inspected c (suc i) ss ≡ none → (j : ℕ) (s : State) → get_or ss j none ≡ some s → state_fault (line_at c (suc i + j)) (some s) ≡ 0)
        → state_fault (line_at c (i + j)) (some s) ≡ 0
    go false e h j r below = absurd (none≢some (sym h))
    go true e h zero r below = rw (add-zero i, ← r) (eqb-true _ 0 e)
    go true e h (suc j) r below = rw (suc-out i j) (below h j s r)

pub after_none : (c : Chunk) (st : List (Option State)) → after_chunk c st ≡ none → (i : ℕ) (s : State) → get_or st i none ≡ some s
    → state_fault (line_at c i) (some s) ≡ 0
unfolding after_chunk
after_none c st h i s r = rw zero-add at (inspected-none c 0 st h i s r)
