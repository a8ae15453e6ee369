-- `ops::rules_0` meets its contract.
use native.Mathlib.Omega.{arith}
use Rattle.ops.specs.Ops.{rules, rule_of}
use Rattle.ops.proofs.Beyond.{beyond}
use Rattle.ops.proofs.rules_0.Goals as goal

pub plain-requires : goal.plain-requires
plain-requires c = tt

pub plain-requires-in-1 : goal.plain-requires-in-1
plain-requires-in-1 c = tt

pub leaves-requires : goal.leaves-requires
leaves-requires c = tt

pub reads-requires : goal.reads-requires
reads-requires c = tt

pub writes-requires : goal.writes-requires
writes-requires c = tt

pub reads-requires-in-5 : goal.reads-requires-in-5
reads-requires-in-5 c = tt

pub writes-requires-in-6 : goal.writes-requires-in-6
writes-requires-in-6 c = tt

pub turns-requires : goal.turns-requires
turns-requires c = tt

pub every-requires : goal.every-requires
every-requires c = tt

pub every-requires-in-9 : goal.every-requires-in-9
every-requires-in-9 c = tt

pub every-requires-in-10 : goal.every-requires-in-10
every-requires-in-10 c = tt

pub no_rule-requires : goal.no_rule-requires
no_rule-requires c = tt

pub returns-in-0 : goal.returns-in-0
unfolding rule_of rules
returns-in-0 c = rw c.in-0.is c.plain.ensures

pub returns-in-1 : goal.returns-in-1
unfolding rule_of rules
returns-in-1 c = rw c.in-1.is c.plain-in-1.ensures

pub returns-in-2 : goal.returns-in-2
unfolding rule_of rules
returns-in-2 c = rw c.in-2.is c.leaves.ensures

pub returns-in-3 : goal.returns-in-3
unfolding rule_of rules
returns-in-3 c = rw c.in-3.is c.reads.ensures

pub returns-in-4 : goal.returns-in-4
unfolding rule_of rules
returns-in-4 c = rw c.in-4.is c.writes.ensures

pub returns-in-5 : goal.returns-in-5
unfolding rule_of rules
returns-in-5 c = rw c.in-5.is c.reads-in-5.ensures

pub returns-in-6 : goal.returns-in-6
unfolding rule_of rules
returns-in-6 c = rw c.in-6.is c.writes-in-6.ensures

pub returns-in-7 : goal.returns-in-7
unfolding rule_of rules
returns-in-7 c = rw c.in-7.is c.turns.ensures

pub returns-in-8 : goal.returns-in-8
unfolding rule_of rules
returns-in-8 c = rw c.in-8.is c.every.ensures

pub returns-in-9 : goal.returns-in-9
unfolding rule_of rules
returns-in-9 c = rw c.in-9.is c.every-in-9.ensures

pub returns-in-10 : goal.returns-in-10
unfolding rule_of rules
returns-in-10 c = rw c.in-10.is c.every-in-10.ensures

pub returns-in_default : goal.returns-in_default
returns-in_default c = absurd (omega (arith, beyond c.args.op 0 11 (omega arith) c.in_default.in_default-own.rest))
