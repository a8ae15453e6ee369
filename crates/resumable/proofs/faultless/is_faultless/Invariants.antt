use Prim.Native.Nat.{ℕ, ◌<◌}
use Rattle.resumable.specs.faultless.Fine.{FineIn}
use Rattle.resumable.proofs.faultless.is_faultless.Given as goal

abbrev pub invariant-loop-c : goal.invariant-loop-c
invariant-loop-c l = (k : ℕ) → k < l.c → FineIn l.s l.ws k
