-- `report_write::put_branch` meets its contract.
use mathlib.Core.Path.{ap}
use Prim.Native.Nat.{ℕ}
use mathlib.Core.List.{[], ◌∷◌}
use Rattle.le.specs.Le.{le16}
use Rattle.le.proofs.Laws.{and_then}
use Rattle.report_cells.proofs.Laws.{said}
use Rattle.definition.specs.Report.{field, branch_bytes}
use Rattle.report_write.proofs.put_branch.Goals as goal

pub returns : goal.returns
unfolding branch_bytes field le16
returns c =
    and_then c.put_head-at.ensures
    (and_then c.put_place-at.ensures (said c.put8.ensures (ap (λ (v : ℕ). v ∷ []) c.branch_value.ensures)))
