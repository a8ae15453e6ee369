-- `ops::rules_55` meets its contract.
use native.Mathlib.Omega.{arith}
use mathlib.Core.Path.{sym, ◌∙◌}
use lib.ListN.{get_or-eq_default}
use Rattle.ops.specs.Ops.{no_rule, rules, rule_of}
use Rattle.ops.proofs.Beyond.{beyond}
use Rattle.ops.proofs.rules_55.Goals as goal

pub every-requires : goal.every-requires
every-requires c = tt

pub every-requires-in-56 : goal.every-requires-in-56
every-requires-in-56 c = tt

pub plain-requires : goal.plain-requires
plain-requires c = tt

pub plain-requires-in-58 : goal.plain-requires-in-58
plain-requires-in-58 c = tt

pub plain-requires-in-59 : goal.plain-requires-in-59
plain-requires-in-59 c = tt

pub plain-requires-in-60 : goal.plain-requires-in-60
plain-requires-in-60 c = tt

pub plain-requires-in-61 : goal.plain-requires-in-61
plain-requires-in-61 c = tt

pub plain-requires-in-62 : goal.plain-requires-in-62
plain-requires-in-62 c = tt

pub plain-requires-in-63 : goal.plain-requires-in-63
plain-requires-in-63 c = tt

pub plain-requires-in-64 : goal.plain-requires-in-64
plain-requires-in-64 c = tt

pub plain-requires-in-65 : goal.plain-requires-in-65
plain-requires-in-65 c = tt

pub no_rule-requires : goal.no_rule-requires
no_rule-requires c = tt

pub returns-in-55 : goal.returns-in-55
unfolding rule_of rules
returns-in-55 c = rw c.in-55.is c.every.ensures

pub returns-in-56 : goal.returns-in-56
unfolding rule_of rules
returns-in-56 c = rw c.in-56.is c.every-in-56.ensures

pub returns-in-57 : goal.returns-in-57
unfolding rule_of rules
returns-in-57 c = rw c.in-57.is c.plain.ensures

pub returns-in-58 : goal.returns-in-58
unfolding rule_of rules
returns-in-58 c = rw c.in-58.is c.plain-in-58.ensures

pub returns-in-59 : goal.returns-in-59
unfolding rule_of rules
returns-in-59 c = rw c.in-59.is c.plain-in-59.ensures

pub returns-in-60 : goal.returns-in-60
unfolding rule_of rules
returns-in-60 c = rw c.in-60.is c.plain-in-60.ensures

pub returns-in-61 : goal.returns-in-61
unfolding rule_of rules
returns-in-61 c = rw c.in-61.is c.plain-in-61.ensures

pub returns-in-62 : goal.returns-in-62
unfolding rule_of rules
returns-in-62 c = rw c.in-62.is c.plain-in-62.ensures

pub returns-in-63 : goal.returns-in-63
unfolding rule_of rules
returns-in-63 c = rw c.in-63.is c.plain-in-63.ensures

pub returns-in-64 : goal.returns-in-64
unfolding rule_of rules
returns-in-64 c = rw c.in-64.is c.plain-in-64.ensures

pub returns-in-65 : goal.returns-in-65
unfolding rule_of rules
returns-in-65 c = rw c.in-65.is c.plain-in-65.ensures

pub returns-in_default : goal.returns-in_default
unfolding rule_of rules
returns-in_default c = c.no_rule.ensures ∙ sym (get_or-eq_default rules no_rule (beyond c.args.op 55 11 (omega arith) c.in_default.in_default-own.rest))
