-- `row_join::places::join_one` meets its contract: what is stored is read back.
use Rattle.row_join.proofs.places.Laws.{arrived-stored}
use Rattle.row_join.proofs.places.join_one.Goals as goal

pub returns : goal.returns
returns c =
    let a = c.args in
    arrived-stored a.fresh a.to a.new a.ws.now _ c.meet-j.result c.requires c.meet-j.ensures c.store.ensures.0 c.store.ensures.1
