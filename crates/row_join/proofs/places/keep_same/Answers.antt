-- `row_join::places::keep_same` meets its contract: the words are copied, are there already, or are joined.
use Rattle.row_join.proofs.places.Laws.{arrived-copied, arrived-there}
use Rattle.row_join.specs.places.Arrive.{kept_cell}
use mathlib.Core.Path.{sym, ◌∙◌}
use Rattle.row_join.proofs.places.keep_same.Goals as goal

pub returns-then-fresh : goal.returns-then-fresh
returns-then-fresh c =
    let a = c.args in
    rw c.if-fresh.true
    (arrived-copied a.from a.to a.ws.now _ c.requires c.copy16.ensures)

pub returns-then-same16 : goal.returns-then-same16
returns-then-same16 c =
    let a = c.args in
    rw c.if-fresh.false
    (arrived-there a.from a.to a.ws.now (sym c.same16.ensures ∙ c.if-same16.true))

pub returns : goal.returns
unfolding kept_cell
returns c = rw c.if-fresh.false c.before.before.join_kept.ensures
