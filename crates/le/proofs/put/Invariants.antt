use lib.Seq.{paste}
use mathlib.Core.Path.{◌≡◌}
use Rattle.le.proofs.put.Given as goal

-- the first k bytes are written
abbrev pub invariant-loop-k : goal.invariant-loop-k
invariant-loop-k g l = l.buf ≡ paste l.initial.buf l.at l.bytes l.k
