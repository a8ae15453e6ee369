use Prim.Native.Nat.{ℕ}
use lib.ListN.{get_or}
use Rattle.words.proofs.Cells.{decoded}
use Rattle.words.proofs.cell.cell_of.Goals as goal

pub returns : goal.returns
returns c = decoded (λ (k : ℕ). get_or c.args.w k 0) _ _ _ _ _ _ _ _ c.before.before.before.before.before.before.before.width_of.ensures c.extent_of.ensures c.extent_of-2.ensures c.extent_of-3.ensures c.extent_of-4.ensures c.owned_of.ensures c.origin_of.ensures c.predicate_of.ensures
