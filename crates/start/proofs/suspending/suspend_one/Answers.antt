-- `start::suspending::suspend_one` meets its contract.
use Rattle.start.proofs.suspending.Looks.{look_known, look-found, look_none}
use Rattle.layout.proofs.Read.{numbers-room}
use native.Mathlib.Omega.{arith}
use Rattle.start.proofs.suspending.suspend_one.Goals as goal

pub returns-then-ch : goal.returns-then-ch
returns-then-ch c = look_known _ _ c.requires.indexed _ c.requires.c_in_bounds _ c.chunk_at-ch.ensures c.if-ch.true

pub set_suspends-requires : goal.set_suspends-requires
set_suspends-requires c =
    let r = numbers-room _ _ c.requires.indexed _ c.requires.c_in_bounds in (omega (arith, c.requires.indexed.good.chunks_most), omega arith)

pub returns-then-calls_suspending : goal.returns-then-calls_suspending
returns-then-calls_suspending c =
    rw c.set_suspends.ensures
    (look-found _ _ c.requires.indexed _ c.requires.c_in_bounds _ c.chunk_at-ch.ensures c.if-ch.false _ c.calls_suspending.ensures c.if-calls_suspending.true)

pub returns : goal.returns
returns c = look_none _ _ c.requires.indexed _ c.requires.c_in_bounds _ c.chunk_at-ch.ensures c.if-ch.false _ c.calls_suspending.ensures c.if-calls_suspending.false
