-- `checks::validation::is_proven` meets its contract.
use borrow.Author.Rules.{rules}
use Rattle.definition.specs.Wants.{is_proven}
use Rattle.checks.proofs.validation.is_proven.Goals as goal

pub returns : goal.returns
unfolding is_proven
returns c = search rules
