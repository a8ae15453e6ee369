-- `start::suspending::calls` meets its contract.
use Rattle.start.proofs.suspending.Looks.{suspends-is}
use borrow.Author.Tests.{eq-eqb, ne_eqb}
use Rattle.start.proofs.suspending.calls.Goals as goal

pub chunk_at-callee-requires : goal.chunk_at-callee-requires
chunk_at-callee-requires c = record { indexed = c.requires.indexed; c_in_bounds = c.requires.a_in_bounds c.if-ins-eq-CALL.true }

pub returns-then-ins-eq-CALL : goal.returns-then-ins-eq-CALL
returns-then-ins-eq-CALL c = rw (eq-eqb _ _ c.if-ins-eq-CALL.true) (suspends-is _ _ _ _ (c.requires.a_in_bounds c.if-ins-eq-CALL.true) c.chunk_at-callee.ensures)

pub returns : goal.returns
returns c = rw (ne_eqb _ _ c.if-ins-eq-CALL.false)
