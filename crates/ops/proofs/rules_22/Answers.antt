-- `ops::rules_22` meets its contract.
use native.Mathlib.Omega.{arith}
use Rattle.ops.specs.Ops.{rules, rule_of}
use Rattle.ops.proofs.Beyond.{beyond}
use Rattle.ops.proofs.rules_22.Goals as goal

pub leaves-requires : goal.leaves-requires
leaves-requires c = tt

pub plain-requires : goal.plain-requires
plain-requires c = tt

pub plain-requires-in-24 : goal.plain-requires-in-24
plain-requires-in-24 c = tt

pub leaves-requires-in-25 : goal.leaves-requires-in-25
leaves-requires-in-25 c = tt

pub leaves-requires-in-26 : goal.leaves-requires-in-26
leaves-requires-in-26 c = tt

pub leaves-requires-in-27 : goal.leaves-requires-in-27
leaves-requires-in-27 c = tt

pub plain-requires-in-28 : goal.plain-requires-in-28
plain-requires-in-28 c = tt

pub leaves-requires-in-29 : goal.leaves-requires-in-29
leaves-requires-in-29 c = tt

pub answers-requires : goal.answers-requires
answers-requires c = tt

pub leaves-requires-in-31 : goal.leaves-requires-in-31
leaves-requires-in-31 c = tt

pub answers-requires-in-32 : goal.answers-requires-in-32
answers-requires-in-32 c = tt

pub no_rule-requires : goal.no_rule-requires
no_rule-requires c = tt

pub returns-in-22 : goal.returns-in-22
unfolding rule_of rules
returns-in-22 c = rw c.in-22.is c.leaves.ensures

pub returns-in-23 : goal.returns-in-23
unfolding rule_of rules
returns-in-23 c = rw c.in-23.is c.plain.ensures

pub returns-in-24 : goal.returns-in-24
unfolding rule_of rules
returns-in-24 c = rw c.in-24.is c.plain-in-24.ensures

pub returns-in-25 : goal.returns-in-25
unfolding rule_of rules
returns-in-25 c = rw c.in-25.is c.leaves-in-25.ensures

pub returns-in-26 : goal.returns-in-26
unfolding rule_of rules
returns-in-26 c = rw c.in-26.is c.leaves-in-26.ensures

pub returns-in-27 : goal.returns-in-27
unfolding rule_of rules
returns-in-27 c = rw c.in-27.is c.leaves-in-27.ensures

pub returns-in-28 : goal.returns-in-28
unfolding rule_of rules
returns-in-28 c = rw c.in-28.is c.plain-in-28.ensures

pub returns-in-29 : goal.returns-in-29
unfolding rule_of rules
returns-in-29 c = rw c.in-29.is c.leaves-in-29.ensures

pub returns-in-30 : goal.returns-in-30
unfolding rule_of rules
returns-in-30 c = rw c.in-30.is c.answers.ensures

pub returns-in-31 : goal.returns-in-31
unfolding rule_of rules
returns-in-31 c = rw c.in-31.is c.leaves-in-31.ensures

pub returns-in-32 : goal.returns-in-32
unfolding rule_of rules
returns-in-32 c = rw c.in-32.is c.answers-in-32.ensures

pub returns-in_default : goal.returns-in_default
returns-in_default c = absurd (omega (arith, beyond c.args.op 22 11 (omega arith) c.in_default.in_default-own.rest))
