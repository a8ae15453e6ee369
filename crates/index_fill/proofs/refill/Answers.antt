use Rattle.index_fill.proofs.Walking.{first-slots, anew}
use Rattle.index_fill.proofs.refill.Goals as goal

pub unmark-requires : goal.unmark-requires
unmark-requires c = first-slots _ _ _ _ c.requires.good c.requires.queue_in_bounds c.first_tables.ensures

pub returns : goal.returns
returns c =
    let x = anew _ _ _ _ _ _ c.requires.good c.requires.queue_in_bounds c.first_tables.ensures c.unmark.ensures c.walk.ensures.1 in
    (c.walk.ensures.0, x.0, x.1)
