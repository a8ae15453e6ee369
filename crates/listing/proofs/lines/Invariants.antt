use Prim.Native.Nat.{◌-◌}
use lib.ListN.{length}
use Rattle.listing.proofs.Laid.{Rest}
use Rattle.listing.proofs.Turns.{lines_from}
use Rattle.listing.proofs.lines.Given as goal

abbrev pub invariant-loop-p : goal.invariant-loop-p
invariant-loop-p l = Rest l.initial.buf 0 (lines_from l.steps l.s 0) l.buf l.to (lines_from l.steps l.s l.p)

abbrev pub decreases-loop-p : goal.decreases-loop-p
decreases-loop-p l = length l.s - l.p
