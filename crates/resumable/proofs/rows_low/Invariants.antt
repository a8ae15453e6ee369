use Prim.Native.Nat.{ℕ, ◌+◌, ◌*◌, ◌<◌, ◌≤◌}
use mathlib.Core.Path.{◌≡◌}
use mathlib.Core.Bool.{cond}
use lib.ListN.{get_or}
use Rattle.layout.specs.Indexed.{chunk_at}
use Rattle.resumable.proofs.rows_low.Given as goal

abbrev pub invariant-loop-i : goal.invariant-loop-i
invariant-loop-i l =
    ((k : ℕ) → k < l.i → get_or l.ws (l.ch.rows + k * l.ch.size) 0 ≤ l.ch.stack + 1)
    × (l.ch ≡ chunk_at l.s l.ws l.c) × (l.count ≡ cond l.ch.reachable l.ch.count 0)
