-- `start::suspending::suspend_more` meets its contract.
use Rattle.start.proofs.suspending.Looks.{looking-first, looking-next, looking-last, marked-indexed}
use Rattle.layout.proofs.Read.{chunks-are}
use native.Mathlib.Omega.{arith}
use Rattle.start.proofs.suspending.suspend_more.Goals as goal

pub loop-c-init : goal.loop-c-init
loop-c-init c = looking-first _ _

pub suspend_one-changed-requires : goal.suspend_one-changed-requires
suspend_one-changed-requires c = record { indexed = marked-indexed _ _ _ c.loop-c.invariant.marked c.requires.indexed; c_in_bounds = omega (arith, chunks-are _ _ c.requires.t_value) }

pub loop-c-preserved : goal.loop-c-preserved
loop-c-preserved c = looking-next _ _ _ _ _ _ _ c.loop-c.invariant c.requires.indexed (omega (arith, chunks-are _ _ c.requires.t_value)) c.suspend_one-changed.ensures

pub returns : goal.returns
returns c = looking-last _ _ _ _ _ c.loop-c.invariant (omega (arith, chunks-are _ _ c.requires.t_value))
