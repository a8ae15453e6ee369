-- `start::rebuild` meets its contract.
use Rattle.start.proofs.Settled.{reply-room, put-indexed, few-slots, all-rebuilt}
use Rattle.start.proofs.rebuild.Goals as goal

pub store-requires : goal.store-requires
store-requires c = reply-room _ _ c.requires.indexed

pub suspend_all-requires : goal.suspend_all-requires
suspend_all-requires c = record { indexed = put-indexed _ _ c.requires.indexed _ _ c.store.ensures; t_value = c.requires.t_value }

pub bounded-requires : goal.bounded-requires
bounded-requires c = few-slots _ _ _ c.requires.indexed c.requires.t_value

pub returns : goal.returns
returns c = all-rebuilt _ _ _ _ _ _ _ _ c.requires.indexed c.requires.sites_suspend c.requires.s_in_bounds c.requires.t_value c.requires.s_value c.reply_of-reply.ensures c.store.ensures c.suspend_all.ensures c.maximum.ensures c.bounded.ensures
