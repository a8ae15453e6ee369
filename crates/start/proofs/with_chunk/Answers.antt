-- `start::with_chunk` meets its contract.
use Rattle.start.proofs.Replies.{field_fits, sites-next, sites-end}
use mathlib.Core.Path.{refl}
use Rattle.start.proofs.with_chunk.Goals as goal

pub loop-i-init : goal.loop-i-init
loop-i-init c = refl

pub field_of-requires : goal.field_of-requires
field_of-requires c = record { indexed = c.requires.indexed; c_in_bounds = c.requires.c_in_bounds; ch_value = c.requires.ch_value; i_lt_count = c.loop-i-test.true }

pub with_site-reply-requires : goal.with_site-reply-requires
with_site-reply-requires c = record { field_bound = field_fits _ _ c.requires.indexed _ _ c.requires.c_in_bounds _ c.requires.ch_value c.loop-i-test.true _ c.field_of.ensures; owns_value = c.requires.owns_value }

pub loop-i-preserved : goal.loop-i-preserved
loop-i-preserved c = sites-next _ _ c.requires.indexed _ _ c.requires.c_in_bounds _ c.requires.ch_value c.loop-i-test.true _ _ _ _ c.field_of.ensures c.with_site-reply.ensures c.loop-i.invariant

pub returns : goal.returns
returns c = sites-end _ _ _ _ _ c.requires.ch_value c.loop-i-test.false _ _ c.loop-i.invariant
