-- `form::field_steps::table_step` meets its contract.
use Rattle.form.proofs.code_steps.Bounds.{so-far-le}
use Prim.Native.Nat.{◌^◌}
use native.Mathlib.Omega.{arith}
use Rattle.definition.specs.Form.{table_step}
use Rattle.form.proofs.field_steps.table_step.Goals as goal

pub overflow_add-more : goal.overflow_add-more
overflow_add-more c = omega (arith, c.requires.1.count, so-far-le c.args.scan c.args.tag (2 ^ 31) c.requires.1.count)

pub returns : goal.returns
unfolding table_step
returns c = cc
