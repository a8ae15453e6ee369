-- `flows::Predicate::negated` meets its contract.
use Rattle.flows.proofs.Predicate.negated.Goals as goal

pub returns-in-Tests : goal.returns-in-Tests
returns-in-Tests c = rw c.in-Tests.is
