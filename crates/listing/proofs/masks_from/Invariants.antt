use Rattle.listing.proofs.Laid.{Rest}
use Rattle.listing.specs.Listing.{masks_from}
use Prim.Native.Nat.{◌+◌, ◌*◌, ◌-◌}
use Rattle.listing.proofs.masks_from.Given as goal

abbrev pub invariant-loop-k : goal.invariant-loop-k
invariant-loop-k l = Rest l.initial.buf l.at (masks_from l.s l.q l.n) l.buf l.to (masks_from l.s (l.q + 49 * l.k) (l.n - l.k))
