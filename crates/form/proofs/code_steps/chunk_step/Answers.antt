-- `form::code_steps::chunk_step` meets its contract.
use native.Mathlib.Omega.{arith}
use Rattle.definition.specs.Form.{chunk_step}
use Rattle.form.proofs.code_steps.chunk_step.Goals as goal

pub overflow_add-next-2 : goal.overflow_add-next-2
overflow_add-next-2 c = omega (arith, c.requires.1.cells)

pub overflow_add-next-3 : goal.overflow_add-next-3
overflow_add-next-3 c = omega (arith, c.requires.1.cells)

pub returns : goal.returns
unfolding chunk_step
returns c = cc
