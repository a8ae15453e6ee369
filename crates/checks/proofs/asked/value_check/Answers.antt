-- `checks::asked::value_check` meets its contract.
use native.Mathlib.Omega.{arith}
use mathlib.Core.Path.{ap, ◌∙◌}
use borrow.Author.Tests.{eq-eqb, ne_eqb}
use Rattle.definition.specs.declared.Check.TheVariants.{Fine}
use Rattle.definition.specs.Module.{module_of}
use Rattle.definition.specs.Wants.{at_index, write_check}
use Rattle.visit.specs.Held.{facts_in}
use Rattle.slots.proofs.Faults.{listed}
use Rattle.checks.proofs.asked.value_check.Goals as goal

pub write_check-requires : goal.write_check-requires
write_check-requires c = record { indexed = c.requires.indexed; t_value = c.requires.t_value; end_le_slots = omega (arith, c.slots_of.ensures, c.requires.slots_bound) }

pub returns-then-p-v : goal.returns-then-p-v
unfolding at_index
returns-then-p-v c =
    let a = c.args in
    let r = c.slots_of in
    rw (eq-eqb a.p a.v.start c.if-p-v.true)
    (c.write_check.ensures
    ∙ ap (write_check (module_of a.s.now) (facts_in a.s.now a.ws.now) a.m Fine)
    (listed a.v.ins a.v.rule.slots r.result r.ensures.0 r.ensures.1))

pub returns : goal.returns
unfolding at_index
returns c = rw (ne_eqb c.args.p c.args.v.start c.if-p-v.false)
