use Rattle.index_fill.specs.model.Model.{slot_words}
use borrow.Author.Tests.{ne_eqb}
use Rattle.index_fill.proofs.fill_slot.Goals as goal

pub returns-in-7 : goal.returns-in-7
unfolding slot_words
returns-in-7 c = rw (c.in-7.is, ← c.u16_at.ensures) c.mark.ensures

pub returns-then-not-keep : goal.returns-then-not-keep
unfolding slot_words
returns-then-not-keep c = rw (c.in-8.is, c.if-not-keep.true, ← c.init_mask.ensures) c.init.ensures

pub returns-else-not-keep : goal.returns-else-not-keep
unfolding slot_words
returns-else-not-keep c = rw (c.in-8.is, c.if-not-keep.false)

pub returns-in_default : goal.returns-in_default
unfolding slot_words
returns-in_default c = rw (ne_eqb _ _ c.in_default.in_default-own.rest.0.1, ne_eqb _ _ c.in_default.in_default-own.rest.1)
