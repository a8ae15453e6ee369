use Rattle.index_fill.specs.model.Model.{init_words}
use borrow.Author.Tests.{lt-ltb, le-ltb}
use Rattle.index_fill.proofs.init.Goals as goal

pub returns-then-slot-t : goal.returns-then-slot-t
unfolding init_words
returns-then-slot-t c = rw (lt-ltb _ _ c.if-slot-t.true, c.slot_at-at.ensures)

pub returns-else-slot-t : goal.returns-else-slot-t
unfolding init_words
returns-else-slot-t c = rw (le-ltb _ _ c.if-slot-t.false)
