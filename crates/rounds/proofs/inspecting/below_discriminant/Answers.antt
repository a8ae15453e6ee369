-- `below_discriminant` meets its contract.
use Rattle.definition.specs.Start.{under_eight}
use borrow.Author.Rules.{rules}
use Rattle.rounds.proofs.inspecting.below_discriminant.Goals as goal

pub returns-in-None : goal.returns-in-None
unfolding under_eight
returns-in-None c = search rules

pub returns-in-Some : goal.returns-in-Some
unfolding under_eight
returns-in-Some c = cc
