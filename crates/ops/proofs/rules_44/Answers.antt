-- `ops::rules_44` meets its contract.
use native.Mathlib.Omega.{arith}
use Rattle.ops.specs.Ops.{rules, rule_of}
use Rattle.ops.proofs.Beyond.{beyond}
use Rattle.ops.proofs.rules_44.Goals as goal

pub turns-requires : goal.turns-requires
turns-requires c = tt

pub turns-requires-in-45 : goal.turns-requires-in-45
turns-requires-in-45 c = tt

pub turns-requires-in-46 : goal.turns-requires-in-46
turns-requires-in-46 c = tt

pub turns-requires-in-47 : goal.turns-requires-in-47
turns-requires-in-47 c = tt

pub plain-requires : goal.plain-requires
plain-requires c = tt

pub plain-requires-in-49 : goal.plain-requires-in-49
plain-requires-in-49 c = tt

pub leaves-requires : goal.leaves-requires
leaves-requires c = tt

pub every-requires : goal.every-requires
every-requires c = tt

pub every-requires-in-52 : goal.every-requires-in-52
every-requires-in-52 c = tt

pub every-requires-in-53 : goal.every-requires-in-53
every-requires-in-53 c = tt

pub every-requires-in-54 : goal.every-requires-in-54
every-requires-in-54 c = tt

pub no_rule-requires : goal.no_rule-requires
no_rule-requires c = tt

pub returns-in-44 : goal.returns-in-44
unfolding rule_of rules
returns-in-44 c = rw c.in-44.is c.turns.ensures

pub returns-in-45 : goal.returns-in-45
unfolding rule_of rules
returns-in-45 c = rw c.in-45.is c.turns-in-45.ensures

pub returns-in-46 : goal.returns-in-46
unfolding rule_of rules
returns-in-46 c = rw c.in-46.is c.turns-in-46.ensures

pub returns-in-47 : goal.returns-in-47
unfolding rule_of rules
returns-in-47 c = rw c.in-47.is c.turns-in-47.ensures

pub returns-in-48 : goal.returns-in-48
unfolding rule_of rules
returns-in-48 c = rw c.in-48.is c.plain.ensures

pub returns-in-49 : goal.returns-in-49
unfolding rule_of rules
returns-in-49 c = rw c.in-49.is c.plain-in-49.ensures

pub returns-in-50 : goal.returns-in-50
unfolding rule_of rules
returns-in-50 c = rw c.in-50.is c.leaves.ensures

pub returns-in-51 : goal.returns-in-51
unfolding rule_of rules
returns-in-51 c = rw c.in-51.is c.every.ensures

pub returns-in-52 : goal.returns-in-52
unfolding rule_of rules
returns-in-52 c = rw c.in-52.is c.every-in-52.ensures

pub returns-in-53 : goal.returns-in-53
unfolding rule_of rules
returns-in-53 c = rw c.in-53.is c.every-in-53.ensures

pub returns-in-54 : goal.returns-in-54
unfolding rule_of rules
returns-in-54 c = rw c.in-54.is c.every-in-54.ensures

pub returns-in_default : goal.returns-in_default
returns-in_default c = absurd (omega (arith, beyond c.args.op 44 11 (omega arith) c.in_default.in_default-own.rest))
