use Prim.Native.Nat.{ℕ, ◌<◌}
use Rattle.resumable.specs.Resumable.{LowReached}
use Rattle.resumable.proofs.low_before.Given as goal

abbrev pub invariant-loop-c : goal.invariant-loop-c
invariant-loop-c l = (k : ℕ) → k < l.c → LowReached l.s l.ws k
