use Rattle.listing.proofs.Laid.{Rest}
use lib.ListN.{drop}
use Rattle.listing.proofs.append.Given as goal

abbrev pub invariant-loop-byte : goal.invariant-loop-byte
invariant-loop-byte l = Rest l.initial.buf l.at l.from l.buf l.to (drop l.byte-index l.from)
