-- `form::code_steps::instr_step` meets its contract.
use native.Mathlib.Omega.{arith}
use Rattle.definition.specs.Form.{instr_step}
use Rattle.form.proofs.code_steps.instr_step.Goals as goal

pub overflow_add-next-3 : goal.overflow_add-next-3
overflow_add-next-3 c = omega (arith, c.requires.1.cells, c.requires.1.locals, c.requires.1.stack)

pub overflow_add-next-4 : goal.overflow_add-next-4
overflow_add-next-4 c = omega (arith, c.requires.1.cells, c.requires.1.locals, c.requires.1.stack)

pub overflow_cast-scan : goal.overflow_cast-scan
overflow_cast-scan c = omega (arith, c.requires.1.instrs)

pub returns : goal.returns
unfolding instr_step
returns c = rw (c.in_field.ensures, c.before-last.ensures, c.instr_fault-n.ensures, c.len_at.ensures, c.instr_at-i.ensures) at c.or_stop.ensures
