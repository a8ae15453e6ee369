-- `flows::larger` meets its contract.
use Rattle.flows.proofs.larger.Goals as goal

pub returns-in-Absent : goal.returns-in-Absent
returns-in-Absent c = cc
