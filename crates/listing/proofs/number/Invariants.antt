use Rattle.listing.proofs.Laid.{Rest}
use Rattle.listing.specs.Decimal.{decimal, digits_from}
use Prim.Native.Nat.{◌-◌, ◌^◌}
use mathlib.Core.Path.{◌≡◌}
use Rattle.listing.proofs.number.Given as goal

abbrev pub invariant-loop-k : goal.invariant-loop-k
invariant-loop-k l = (l.p ≡ 10 ^ (9 - l.k)) × Rest l.initial.buf l.at (decimal l.n) l.buf l.to (digits_from (9 - l.k) l.p l.n)
