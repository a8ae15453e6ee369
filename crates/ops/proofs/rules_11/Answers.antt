-- `ops::rules_11` meets its contract.
use native.Mathlib.Omega.{arith}
use Rattle.ops.specs.Ops.{rules, rule_of}
use Rattle.ops.proofs.Beyond.{beyond}
use Rattle.ops.proofs.rules_11.Goals as goal

pub every-requires : goal.every-requires
every-requires c = tt

pub every-requires-in-12 : goal.every-requires-in-12
every-requires-in-12 c = tt

pub every-requires-in-13 : goal.every-requires-in-13
every-requires-in-13 c = tt

pub compares-requires : goal.compares-requires
compares-requires c = tt

pub compares-requires-in-15 : goal.compares-requires-in-15
compares-requires-in-15 c = tt

pub compares-requires-in-16 : goal.compares-requires-in-16
compares-requires-in-16 c = tt

pub compares-requires-in-17 : goal.compares-requires-in-17
compares-requires-in-17 c = tt

pub compares-requires-in-18 : goal.compares-requires-in-18
compares-requires-in-18 c = tt

pub compares-requires-in-19 : goal.compares-requires-in-19
compares-requires-in-19 c = tt

pub plain-requires : goal.plain-requires
plain-requires c = tt

pub leaves-requires : goal.leaves-requires
leaves-requires c = tt

pub no_rule-requires : goal.no_rule-requires
no_rule-requires c = tt

pub returns-in-11 : goal.returns-in-11
unfolding rule_of rules
returns-in-11 c = rw c.in-11.is c.every.ensures

pub returns-in-12 : goal.returns-in-12
unfolding rule_of rules
returns-in-12 c = rw c.in-12.is c.every-in-12.ensures

pub returns-in-13 : goal.returns-in-13
unfolding rule_of rules
returns-in-13 c = rw c.in-13.is c.every-in-13.ensures

pub returns-in-14 : goal.returns-in-14
unfolding rule_of rules
returns-in-14 c = rw c.in-14.is c.compares.ensures

pub returns-in-15 : goal.returns-in-15
unfolding rule_of rules
returns-in-15 c = rw c.in-15.is c.compares-in-15.ensures

pub returns-in-16 : goal.returns-in-16
unfolding rule_of rules
returns-in-16 c = rw c.in-16.is c.compares-in-16.ensures

pub returns-in-17 : goal.returns-in-17
unfolding rule_of rules
returns-in-17 c = rw c.in-17.is c.compares-in-17.ensures

pub returns-in-18 : goal.returns-in-18
unfolding rule_of rules
returns-in-18 c = rw c.in-18.is c.compares-in-18.ensures

pub returns-in-19 : goal.returns-in-19
unfolding rule_of rules
returns-in-19 c = rw c.in-19.is c.compares-in-19.ensures

pub returns-in-20 : goal.returns-in-20
unfolding rule_of rules
returns-in-20 c = rw c.in-20.is c.plain.ensures

pub returns-in-21 : goal.returns-in-21
unfolding rule_of rules
returns-in-21 c = rw c.in-21.is c.leaves.ensures

pub returns-in_default : goal.returns-in_default
returns-in_default c = absurd (omega (arith, beyond c.args.op 11 11 (omega arith) c.in_default.in_default-own.rest))
