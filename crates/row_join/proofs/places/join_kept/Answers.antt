-- `row_join::places::join_kept` meets its contract.
use Rattle.row_join.proofs.places.join_kept.Goals as goal

pub returns : goal.returns
returns c =
    rw (← c.load.ensures, ← c.kept-c.ensures)
    c.join_one.ensures
