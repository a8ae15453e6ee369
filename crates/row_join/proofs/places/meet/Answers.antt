-- `row_join::places::meet` meets its contract, by the two cases of its test.
use mathlib.Core.Path.{ap, ◌∙◌}
use Rattle.cells.specs.declared.Cell.{Cell}
use Rattle.cells.specs.Cell.{joined_cell}
use Rattle.row_join.proofs.places.meet.Goals as goal

pub returns-then-fresh : goal.returns-then-fresh
returns-then-fresh c = rw c.if-fresh.true

pub returns : goal.returns
returns c =
    rw c.if-fresh.false
    (c.join.ensures ∙ ap (λ (x : Cell). joined_cell x c.args.new) c.load-old.ensures)
