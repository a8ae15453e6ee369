-- `checks::validation::is_never` meets its contract.
use borrow.Author.Rules.{rules}
use Rattle.checks.specs.asked.Proving.{is_never}
use Rattle.checks.proofs.validation.is_never.Goals as goal

pub returns : goal.returns
unfolding is_never
returns c = search rules
