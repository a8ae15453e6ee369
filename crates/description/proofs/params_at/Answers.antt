-- `description::params_at` meets its contract.
use Rattle.description.specs.Fields.{tags_at, params_at}
use native.Mathlib.Omega.{arith}
use borrow.Author.Rules.{rules}
use Rattle.description.proofs.params_at.Goals as goal

pub u8_at-requires : goal.u8_at-requires
u8_at-requires c = tt

pub overflow_add-result : goal.overflow_add-result
unfolding tags_at
overflow_add-result c = omega arith

pub returns : goal.returns
unfolding tags_at params_at
returns c = search rules
