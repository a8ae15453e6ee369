-- `answers::in_field` meets its contract.
use borrow.Author.Tests.{lt-ltb, le-ltb}
use Rattle.answers.specs.Answers.{in_field}
use Rattle.answers.proofs.in_field.Goals as goal

pub returns-then-number-lt3 : goal.returns-then-number-lt3
unfolding in_field
returns-then-number-lt3 c = rw (lt-ltb _ _ c.if-number-lt3.true) c.nowhere.ensures

pub returns : goal.returns
unfolding in_field
returns c = rw (le-ltb _ _ c.if-number-lt3.false)
