-- `report_size::recorded::false_inspection` meets its contract.
use Rattle.std.proofs.Common.{◌≡◌, eqb}
use mathlib.Core.Path.{sym, ap, ◌∙◌}
use mathlib.Core.Bool.{Bool, cond}
use borrow.Author.Tests.{eq-eqb, ne_eqb}
use Rattle.masks.specs.Names.{ENUM, STRUCT}
use Rattle.report_size.proofs.recorded.Told.{false-by}
use Rattle.ops.specs.Numbers.{op_is_enum}
use Rattle.report_size.proofs.recorded.false_inspection.Goals as goal
use Rattle.report_size.proofs.recorded.false_inspection.Goals.{then-op-eq-IS_ENUM, else-op-eq-IS_ENUM}

pub returns : goal.returns
returns c =
    let a = c.args in
    let k : c.if-op-eq-IS_ENUM.inspected ≡ cond (eqb a.op op_is_enum) ENUM STRUCT =
    elim c.if-op-eq-IS_ENUM.branch [
      | then-op-eq-IS_ENUM w ↦ w.inspected-is ∙ sym (ap (λ (b : Bool). cond b ENUM STRUCT) (eq-eqb a.op op_is_enum w.if-op-eq-IS_ENUM.true))
      | else-op-eq-IS_ENUM w ↦ w.inspected-is ∙ sym (ap (λ (b : Bool). cond b ENUM STRUCT) (ne_eqb a.op op_is_enum w.if-op-eq-IS_ENUM.false))
    ] in
    false-by a.ws.now a.row a.op c.is_recorded.result c.top_mask-m.result c.is_recorded.ensures
    c.top_mask-m.ensures c.if-op-eq-IS_ENUM.inspected c.has.result k c.has.ensures
