-- `rows::keep_locals` meets its contract, by whether the local that is given is one of them.
use Rattle.row_join.proofs.joining.Left.{locals-beside}
use Rattle.words.specs.Rows.{cells_at}
use Rattle.words.proofs.RowLaws.{cells_at-length}
use Rattle.row_join.proofs.joining.keep_locals.Goals as goal

pub returns-then-n-skip : goal.returns-then-n-skip
returns-then-n-skip c =
    let a = c.args in
    rw (← locals-beside a.set a.forget a.n (cells_at a.ws.now a.from a.n) (cells_at-length a.ws.now a.from a.n) c.if-n-skip.true)
    c.keep_all.ensures
