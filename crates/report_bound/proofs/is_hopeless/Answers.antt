-- `report_bound::is_hopeless` meets its contract.
use Rattle.definition.specs.Leaves.{hopeless}
use borrow.Author.Rules.{rules}
use Rattle.report_bound.proofs.is_hopeless.Goals as goal

pub returns-in-PartOf : goal.returns-in-PartOf
unfolding hopeless
returns-in-PartOf c = rw c.in-PartOf.is

pub returns-in-Never : goal.returns-in-Never
unfolding hopeless
returns-in-Never c = search rules

pub returns-in_default : goal.returns-in_default
unfolding hopeless
returns-in_default c = search rules
