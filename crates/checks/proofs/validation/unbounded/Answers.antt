-- `checks::validation::unbounded` meets its contract.
use borrow.Author.Rules.{rules}
use Rattle.definition.specs.Wants.{is_unknown}
use Rattle.checks.proofs.validation.unbounded.Goals as goal

pub returns-in-Unknown : goal.returns-in-Unknown
unfolding is_unknown
returns-in-Unknown c = rw c.in-Unknown.is

pub returns-in_default : goal.returns-in_default
unfolding is_unknown
returns-in_default c = search rules
