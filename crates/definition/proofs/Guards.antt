-- The guards of a visit stand in rising order, and no stack place has two (document 02, One; reading D5).
use Prim.Native.Nat.{ℕ, suc, ◌+◌, ◌-◌, ◌≤◌}
use native.Mathlib.Omega.{arith}
use mathlib.Core.Path.{◌≡◌, refl}
use mathlib.Core.Bool.{true, false}
use mathlib.Core.List.{List, [], ◌∷◌, map}
use lib.Dec.{ltb}
use borrow.Author.Tests.{lt-ltb}
use lib.ListN.{length}
use Rattle.masks.specs.Mask.{of}
use Rattle.cells.specs.declared.Cell.{Cell}
use Rattle.definition.specs.declared.Ask.{Ask}
use Rattle.definition.specs.declared.Ask.TheVariants.{Nothing, First, Both, Every, Below, Writes, WritesIndexed, Never}
use Rattle.definition.specs.declared.Want.{Want}
use Rattle.definition.specs.declared.Check.{Check}
use Rattle.definition.specs.declared.Check.TheVariants.{Fine, Guard, Unproven}
use Rattle.definition.specs.Outputs.{Visit}
use Rattle.definition.specs.Wants.{Asked, Guarded, guard_of, guards_in, guards, require, returned, operand_checks, checks_by, checks, want_of}
use Rattle.definition.specs.Report.{guard_before, guards_rise, OnceFrom}

once-below : (n m : ℕ) (gs : List Guarded) → n ≤ m → OnceFrom m gs → OnceFrom n gs
once-below n m [] l h = tt
once-below n m (g ∷ gs) l h = (omega (arith, l, h.0), h.1)

-- a place, asked before all those behind it
once_more : (p : ℕ) (c : Check) (gs : List Guarded) → OnceFrom (suc p) gs → OnceFrom p (guard_of p c gs)
unfolding guard_of
once_more p Fine gs h = once-below p (suc p) gs (omega arith) h
once_more p Unproven gs h = once-below p (suc p) gs (omega arith) h
once_more p (Guard m) gs h = (omega arith, h)

alone-once : (p : ℕ) (c : Check) → OnceFrom 0 (guard_of p c [])
alone-once p c = once-below 0 p (guard_of p c []) (omega arith) (once_more p c [] tt)

module _ (v : Visit) (w : Want) where
  operands-once : (k : ℕ) (cs : List Cell) → OnceFrom (length v.below + k) (guards_in (operand_checks v w k cs))
  unfolding guards_in operand_checks
  operands-once k [] = tt
  operands-once k (c ∷ cs) =
      let p = length v.below + k in
      let gs = guards_in (operand_checks v w (suc k) cs) in
      once_more p _ gs (once-below (suc p) (length v.below + suc k) gs (omega arith) (operands-once (suc k) cs))

  all_once : OnceFrom 0 (guards_in (operand_checks v w 0 v.args))
  all_once = once-below 0 (length v.below + 0) (guards_in (operand_checks v w 0 v.args)) (omega arith) (operands-once 0 v.args)

  checks-once : (a : Ask) → OnceFrom 0 (guards_in (checks_by v w a))
  unfolding checks_by guards_in
  checks-once Nothing = all_once
  checks-once First = all_once
  checks-once Both = all_once
  checks-once Every = all_once
  checks-once Below = alone-once (length v.below - 1) (require (returned v).mask w.first)
  checks-once Writes = all_once
  checks-once WritesIndexed = all_once
  checks-once Never = alone-once 0 Unproven

-- THEOREM (reading D5): a stack place has at most one guard, however many requirements it meets
pub guards-once : (v : Visit) → OnceFrom 0 (guards v)
unfolding guards checks
guards-once v = checks-once v (want_of v) (want_of v).ask

once-rises : (n : ℕ) (gs : List Guarded) → OnceFrom n gs → guards_rise gs ≡ true
unfolding guards_rise guard_before
once-rises n [] h = refl
once-rises n (g ∷ []) h = refl
once-rises n (g ∷ (k ∷ gs)) h =
    let b : ltb g.place k.place ≡ true = lt-ltb g.place k.place h.1.0 in
    rw b (once-rises (suc g.place) (k ∷ gs) h.1)

-- THEOREM (document 02, One): the guards of a visit rise by stack place, then by mask
pub guards-rise : (v : Visit) → guards_rise (guards v) ≡ true
guards-rise v = once-rises 0 (guards v) (guards-once v)

-- ---- by computation
abbrev at : ℕ → ℕ → Guarded
at p m = record { place = p; mask = of m }

abbrev asked : ℕ → Check → Asked
asked p c = record { place = p; found = c }

guards-cases : guards_in (asked 0 (Guard (of 512)) ∷ asked 1 Fine ∷ asked 2 (Guard (of 8)) ∷ asked 3 (Guard (of 16)) ∷ []) ≡ at 0 512 ∷ at 2 8 ∷ at 3 16 ∷ []
unfolding guards_in guard_of
guards-cases = refl

-- places rising, falling; one place with masks rising, falling, the same; a fault behind a first pair
order-cases :
    map guards_rise
    ([]
    ∷ (at 7 4 ∷ [])
    ∷ (at 0 8 ∷ at 1 4 ∷ [])
    ∷ (at 1 4 ∷ at 0 8 ∷ [])
    ∷ (at 3 4 ∷ at 3 8 ∷ [])
    ∷ (at 3 8 ∷ at 3 4 ∷ [])
    ∷ (at 3 4 ∷ at 3 4 ∷ [])
    ∷ (at 0 4 ∷ at 1 4 ∷ at 2 4 ∷ [])
    ∷ (at 0 4 ∷ at 2 4 ∷ at 1 4 ∷ [])
    ∷ [])
    ≡ true ∷ true ∷ true ∷ false ∷ true ∷ false ∷ false ∷ true ∷ false ∷ []
unfolding guards_rise guard_before
order-cases = refl
