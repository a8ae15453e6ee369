-- The fields of one tag so far stay within bounds.
use mathlib.Core.Bool.{Bool, true, false, cond}
use Prim.Native.Nat.{ℕ, ◌≤◌}
use native.Mathlib.Omega.{arith}
use lib.Dec.{eqb}
use Rattle.definition.specs.declared.Scan.{Scan}
use Rattle.definition.specs.Form.{so_far}

pub so-far-le : (t : Scan) (tag n : ℕ) → t.count ≤ n → so_far t tag ≤ n
unfolding so_far
so-far-le t tag n h = go (eqb t.place tag)
  where
    go : (b : Bool) → cond b t.count 0 ≤ n
    go true = h
    go false = omega arith
