use borrow.Author.Tests.{le-leb, lt-leb}
use Rattle.form.specs.room.Room.{with_room}
use Rattle.form.proofs.room.with_room.Goals as goal

pub returns-then-words-w : goal.returns-then-words-w
unfolding with_room
returns-then-words-w c = rw (le-leb _ _ c.if-words-w.true, c.nowhere.ensures)

pub returns : goal.returns
unfolding with_room
returns c = rw (lt-leb _ _ c.if-words-w.false)
