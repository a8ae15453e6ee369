-- `ops::rules_33` meets its contract.
use native.Mathlib.Omega.{arith}
use Rattle.ops.specs.Ops.{rules, rule_of}
use Rattle.ops.proofs.Beyond.{beyond}
use Rattle.ops.proofs.rules_33.Goals as goal

pub plain-requires : goal.plain-requires
plain-requires c = tt

pub plain-requires-in-34 : goal.plain-requires-in-34
plain-requires-in-34 c = tt

pub plain-requires-in-35 : goal.plain-requires-in-35
plain-requires-in-35 c = tt

pub plain-requires-in-36 : goal.plain-requires-in-36
plain-requires-in-36 c = tt

pub plain-requires-in-37 : goal.plain-requires-in-37
plain-requires-in-37 c = tt

pub plain-requires-in-38 : goal.plain-requires-in-38
plain-requires-in-38 c = tt

pub plain-requires-in-39 : goal.plain-requires-in-39
plain-requires-in-39 c = tt

pub plain-requires-in-40 : goal.plain-requires-in-40
plain-requires-in-40 c = tt

pub plain-requires-in-41 : goal.plain-requires-in-41
plain-requires-in-41 c = tt

pub turns-requires : goal.turns-requires
turns-requires c = tt

pub turns-requires-in-43 : goal.turns-requires-in-43
turns-requires-in-43 c = tt

pub no_rule-requires : goal.no_rule-requires
no_rule-requires c = tt

pub returns-in-33 : goal.returns-in-33
unfolding rule_of rules
returns-in-33 c = rw c.in-33.is c.plain.ensures

pub returns-in-34 : goal.returns-in-34
unfolding rule_of rules
returns-in-34 c = rw c.in-34.is c.plain-in-34.ensures

pub returns-in-35 : goal.returns-in-35
unfolding rule_of rules
returns-in-35 c = rw c.in-35.is c.plain-in-35.ensures

pub returns-in-36 : goal.returns-in-36
unfolding rule_of rules
returns-in-36 c = rw c.in-36.is c.plain-in-36.ensures

pub returns-in-37 : goal.returns-in-37
unfolding rule_of rules
returns-in-37 c = rw c.in-37.is c.plain-in-37.ensures

pub returns-in-38 : goal.returns-in-38
unfolding rule_of rules
returns-in-38 c = rw c.in-38.is c.plain-in-38.ensures

pub returns-in-39 : goal.returns-in-39
unfolding rule_of rules
returns-in-39 c = rw c.in-39.is c.plain-in-39.ensures

pub returns-in-40 : goal.returns-in-40
unfolding rule_of rules
returns-in-40 c = rw c.in-40.is c.plain-in-40.ensures

pub returns-in-41 : goal.returns-in-41
unfolding rule_of rules
returns-in-41 c = rw c.in-41.is c.plain-in-41.ensures

pub returns-in-42 : goal.returns-in-42
unfolding rule_of rules
returns-in-42 c = rw c.in-42.is c.turns.ensures

pub returns-in-43 : goal.returns-in-43
unfolding rule_of rules
returns-in-43 c = rw c.in-43.is c.turns-in-43.ensures

pub returns-in_default : goal.returns-in_default
returns-in_default c = absurd (omega (arith, beyond c.args.op 33 11 (omega arith) c.in_default.in_default-own.rest))
