-- `row_join::places::keep_one` meets its contract: a cell that nothing touches is kept as it is.
use Rattle.row_join.proofs.places.Laws.{untouched-kept}
use mathlib.Core.Path.{sym, ◌∙◌}
use Rattle.row_join.proofs.places.keep_one.Goals as goal

pub returns-then-untouched : goal.returns-then-untouched
returns-then-untouched c =
    let a = c.args in
    rw (untouched-kept a.ws.now a.from a.forget a.narrow (sym c.untouched.ensures ∙ c.if-untouched.true))
    c.keep_same.ensures
