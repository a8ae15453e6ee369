-- `row_join::resetting::reset_cell` meets its contract.
use Rattle.row_join.proofs.joining.Left.{reset-at}
use mathlib.Core.Path.{ap, sym, ◌∙◌}
use mathlib.Core.Bool.{Bool, cond}
use Rattle.cells.specs.Cell.{unit_cell}
use Rattle.row_join.proofs.resetting.reset_cell.Goals as goal

pub returns-then-streams-k : goal.returns-then-streams-k
returns-then-streams-k c = ap (λ (t : Bool). cond t c.args.reply unit_cell) (sym c.if-streams-k.true) ∙ reset-at c.args.streams c.args.reply c.args.k

pub returns : goal.returns
returns c = c.unit.ensures ∙ ap (λ (t : Bool). cond t c.args.reply unit_cell) (sym c.if-streams-k.false) ∙ reset-at c.args.streams c.args.reply c.args.k
