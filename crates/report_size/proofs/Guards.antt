-- The guards of a visit, counted.
use Prim.Native.Nat.{ℕ, suc, ◌+◌, ◌-◌, ◌<◌, ◌≤◌}
use native.Mathlib.Omega.{arith}
use mathlib.Core.Path.{◌≡◌, ap, ◌∙◌}
use mathlib.Core.Bool.{Bool, true, false, cond}
use mathlib.Core.List.{List, [], ◌∷◌}
use lib.ListN.{length}
use Rattle.definition.specs.declared.Ask.{Ask}
use Rattle.definition.specs.declared.Ask.TheVariants.{Nothing, First, Both, Every, Below, Writes, WritesIndexed, Never}
use Rattle.definition.specs.declared.Want.{Want}
use Rattle.definition.specs.declared.Check.{Check}
use Rattle.definition.specs.declared.Check.TheVariants.{Fine, Guard, Unproven}
use Rattle.definition.specs.Wants.{Asked, Guarded, guard_of, guards_in}
use Rattle.form_laws.proofs.Each.{row-length}
use Rattle.visit.specs.declared.RowVisit.{RowVisit}
use Rattle.checks.specs.asked.Proving.{places_by, found_in, asked_from, asked_in}
use Rattle.checks.proofs.asked.Checked.{asked-turn, asked-end}
use Rattle.report_size.specs.recorded.Guard.{is_guard}

one_more : (p : ℕ) (c : Check) (gs : List Guarded) (b : Bool) → is_guard c ≡ b → length (guard_of p c gs) ≡ cond b 1 0 + length gs
unfolding is_guard guard_of
one_more p Fine gs false e = omega arith
one_more p Unproven gs false e = omega arith
one_more p (Guard m) gs true e = omega arith
one_more p Fine gs true e = cc
one_more p Unproven gs true e = cc
one_more p (Guard m) gs false e = cc

-- no more than there are places
one-most : (p : ℕ) (c : Check) (gs : List Guarded) → length (guard_of p c gs) ≤ suc (length gs)
unfolding guard_of
one-most p Fine gs = omega arith
one-most p Unproven gs = omega arith
one-most p (Guard m) gs = omega arith

guards-most : (l : List Asked) → length (guards_in l) ≤ length l
unfolding guards_in
guards-most [] = omega arith
guards-most (x ∷ xs) = omega (arith, one-most x.place x.found (guards_in xs), guards-most xs)

places-most : (v : RowVisit) (a : Ask) → v.height ≤ 64 → (places_by v a).end - (places_by v a).from ≤ 64
unfolding places_by
places-most v Below h = omega arith
places-most v Nothing h = omega arith
places-most v First h = omega arith
places-most v Both h = omega arith
places-most v Every h = omega arith
places-most v Writes h = omega arith
places-most v WritesIndexed h = omega arith
places-most v Never h = omega arith

pub few-guards : (s ws : List ℕ) (v : RowVisit) (w : Want) → v.height ≤ 64 → length (guards_in (asked_in s ws v w)) ≤ 64
unfolding asked_in asked_from
few-guards s ws v w h =
    omega (arith, guards-most (asked_in s ws v w), row-length {A = Asked} (λ (k : ℕ). record { place = k; found = found_in s ws v w k }) (places_by v w.ask).from ((places_by v w.ask).end - (places_by v w.ask).from), places-most v w.ask h)

-- one place more
module _ (s ws : List ℕ) (v : RowVisit) (w : Want) (p e : ℕ) where
  pub guards-turn : p < e → (b : Bool) → is_guard (found_in s ws v w p) ≡ b
      → length (guards_in (asked_from s ws v w p e)) ≡ cond b 1 0 + length (guards_in (asked_from s ws v w (p + 1) e))
  unfolding guards_in
  guards-turn h b g = ap (λ (l : List Asked). length (guards_in l)) (asked-turn s ws v w p e h) ∙ one_more p (found_in s ws v w p) _ b g

  pub guards-end : e ≤ p → length (guards_in (asked_from s ws v w p e)) ≡ 0
  unfolding guards_in
  guards-end h = ap (λ (l : List Asked). length (guards_in l)) (asked-end s ws v w p e h)
