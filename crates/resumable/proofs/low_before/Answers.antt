-- `resumable::low_before` meets its contract. Invariant: the chunks before c are low.
use native.Mathlib.Omega.{arith}
use borrow.Author.Count.{below_none, below_more}
use Rattle.run_state.specs.Course.{LowBefore}
use Rattle.resumable.specs.Resumable.{LowReached}
use Rattle.resumable.proofs.Decides.{yes, no, refuted}
use Rattle.resumable.proofs.low_before.Goals as goal

pub loop-c-init : goal.loop-c-init
loop-c-init c = below_none _

pub rows_low-requires : goal.rows_low-requires
rows_low-requires c = record { indexed = c.requires.indexed; c_in_bounds = omega (arith, c.loop-c-test.true, c.requires.n_in_bounds) }

pub returns-then-not-rows_low : goal.returns-then-not-rows_low
unfolding LowBefore LowReached
returns-then-not-rows_low c = no (λ low. refuted c.rows_low.ensures (c.if-not-rows_low.true) (low c.loop-c.c c.loop-c-test.true))

pub loop-c-preserved : goal.loop-c-preserved
loop-c-preserved c = below_more _ _ c.loop-c.invariant (c.rows_low.ensures.sound (c.if-not-rows_low.false))

pub returns : goal.returns
unfolding LowBefore LowReached
returns c = yes (λ k l. c.loop-c.invariant k (omega (arith, c.loop-c-test.false)))
