use Prim.Native.Nat.{ℕ, ◌<◌}
use mathlib.Core.Path.{◌≡◌}
use mathlib.Core.Bool.{cond}
use Rattle.layout.specs.Indexed.{chunk_at}
use Rattle.resumable.specs.faultless.Fine.{FineAt}
use Rattle.resumable.proofs.faultless.chunk_fine.Given as goal

abbrev pub invariant-loop-i : goal.invariant-loop-i
invariant-loop-i l =
    ((k : ℕ) → k < l.i → FineAt l.s l.ws l.c k) × (l.ch ≡ chunk_at l.s l.ws l.c) × (l.count ≡ cond l.ch.reachable l.ch.count 0)
