-- `outputs::assigning::set_local` meets its contract.
use Rattle.definition.specs.Outputs.{setting}
use Rattle.outputs.proofs.assigning.Set.{set-none, set_told, set_value, set-yield}
use native.Mathlib.Omega.{arith}
use Rattle.visit.proofs.Visits.{looking-standing}
use Rattle.outputs.proofs.Parts.{field_room, callee-in, callee-called}
use Rattle.outputs.proofs.assigning.set_local.Goals as goal

pub operand-requires : goal.operand-requires
operand-requires c = record { standing = looking-standing _ _ _ c.requires.looking; k_bound = omega arith }

pub set_by_yield-requires : goal.set_by_yield-requires
set_by_yield-requires c = omega (arith, field_room _ _ _ c.requires.looking)

pub set_by_call-requires : goal.set_by_call-requires
set_by_call-requires c = record { looking = c.requires.looking; ch_value = c.requires.ch_value; a_in_bounds = callee-in _ _ _ c.requires.looking (callee-called _ _ _ c.requires.looking c.in-Calls.is) }

pub returns-in-SetsLocal : goal.returns-in-SetsLocal
returns-in-SetsLocal c = set_told _ _ c.in-SetsLocal.is (set_value _ _ _ c.requires.looking _ c.in-SetsLocal.is c.set_by_value.ensures.0 (cc))

pub returns-in-Yields : goal.returns-in-Yields
returns-in-Yields c = set_told _ _ c.in-Yields.is (set-yield _ _ _ c.requires.looking _ _ c.requires.ch_value c.in-Yields.is c.set_by_yield.ensures)

pub returns-in-Calls : goal.returns-in-Calls
returns-in-Calls c = set_told _ _ c.in-Calls.is c.set_by_call.ensures

pub returns-in-Still : goal.returns-in-Still
unfolding setting
returns-in-Still c = rw c.in-Still.is (set-none _ c.set_none.ensures)

pub returns-in-Returns : goal.returns-in-Returns
unfolding setting
returns-in-Returns c = rw c.in-Returns.is (set-none _ c.set_none-in-Returns.ensures)

pub returns-in-Resets : goal.returns-in-Resets
unfolding setting
returns-in-Resets c = rw c.in-Resets.is (set-none _ c.set_none-in-Resets.ensures)

pub returns-in-Stores : goal.returns-in-Stores
unfolding setting
returns-in-Stores c = rw c.in-Stores.is (set-none _ c.set_none-in-Stores.ensures)
