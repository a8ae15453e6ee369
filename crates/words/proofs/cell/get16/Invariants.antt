use lib.ListN.{get_or, length}
use mathlib.Core.Path.{◌≡◌}
use Prim.Native.Nat.{ℕ, ◌+◌, ◌<◌}
use Rattle.words.proofs.cell.get16.Given as goal

abbrev pub invariant-loop-k : goal.invariant-loop-k
invariant-loop-k l = ((j : ℕ) → j < l.k → get_or l.a j 0 ≡ get_or l.ws (l.at + j) 0) × (length l.a ≡ 16)
