-- The mask of a composite kind has its lowest bit at 8 to 11.
use Prim.Native.Nat.{ℕ, zero, suc, ◌≤◌, ◌<◌}
use native.Mathlib.Omega.{arith}
use lib.Count.{count_trailing_zeros}
use lib.Dec.{lit<, lit≤}
use borrow.Author.Tests.{le-ltb}
use Rattle.masks.specs.Mask.{body}

pub kind-index : (k : ℕ) → (8 ≤ count_trailing_zeros 16 (body k).bits) × (count_trailing_zeros 16 (body k).bits < 12)
unfolding body count_trailing_zeros
kind-index zero = (lit≤ tt, lit< tt)
kind-index (suc zero) = (lit≤ tt, lit< tt)
kind-index (suc (suc zero)) = (lit≤ tt, lit< tt)
kind-index (suc (suc (suc zero))) = (lit≤ tt, lit< tt)
kind-index (suc (suc (suc (suc k)))) = rw (le-ltb (suc (suc (suc (suc k)))) 4 (omega arith)) (lit≤ tt, lit< tt)
