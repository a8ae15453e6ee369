-- `start::suspending::calls_suspending` meets its contract.
use Rattle.start.proofs.suspending.Looks.{callee-there, calls-next, calls-stop, calls-end}
use mathlib.Core.Path.{refl}
use Rattle.start.proofs.suspending.calls_suspending.Goals as goal

pub loop-i-init : goal.loop-i-init
loop-i-init c = refl

pub instr_of-requires : goal.instr_of-requires
instr_of-requires c = record { indexed = c.requires.indexed; c_in_bounds = c.requires.c_in_bounds; ch_value = c.requires.ch_value; i_lt_count = c.loop-i-test.true }

pub calls-requires : goal.calls-requires
calls-requires c = record { indexed = c.requires.indexed; a_in_bounds = callee-there _ _ _ _ _ _ c.requires.indexed c.requires.c_in_bounds c.requires.ch_value c.loop-i-test.true c.instr_of.ensures }

pub returns-then-calls : goal.returns-then-calls
returns-then-calls c = calls-stop _ _ _ _ _ c.requires.ch_value c.loop-i-test.true _ _ c.instr_of.ensures _ c.calls.ensures c.if-calls.true c.loop-i.invariant

pub loop-i-preserved : goal.loop-i-preserved
loop-i-preserved c = calls-next _ _ _ _ _ c.requires.ch_value c.loop-i-test.true _ _ c.instr_of.ensures _ c.calls.ensures c.if-calls.false c.loop-i.invariant

pub returns : goal.returns
returns c = calls-end _ _ _ _ _ c.requires.ch_value c.loop-i-test.false _ c.loop-i.invariant
