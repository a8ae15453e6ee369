-- `checks::refusals::boxed_part` meets its contract.
use borrow.Author.Rules.{rules}
use Rattle.definition.specs.Leaves.{hopeless}
use Rattle.checks.proofs.refusals.boxed_part.Goals as goal

pub returns-in-PartOf : goal.returns-in-PartOf
unfolding hopeless
returns-in-PartOf c = rw c.in-PartOf.is

pub returns-in-Never : goal.returns-in-Never
unfolding hopeless
returns-in-Never c = rw c.in-Never.is

pub returns-in_default : goal.returns-in_default
unfolding hopeless
returns-in_default c = search rules
