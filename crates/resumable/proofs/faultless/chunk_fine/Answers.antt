-- `resumable::faultless::chunk_fine` meets its contract. Invariant: the instructions before i are fine.
use native.Mathlib.Omega.{arith}
use borrow.Author.Count.{below_none, below_more}
use Rattle.report_size.proofs.Here.{count-recordable, counted-here}
use Rattle.resumable.specs.faultless.Fine.{FineAt, FineIn}
use Rattle.resumable.proofs.Decides.{yes, no, refuted}
use Rattle.resumable.proofs.faultless.chunk_fine.Goals as goal

pub chunk_at-ch-requires : goal.chunk_at-ch-requires
chunk_at-ch-requires c = record { indexed = c.requires.ended.prepared.indexed; c_in_bounds = c.requires.c_in_bounds }

pub loop-i-init : goal.loop-i-init
loop-i-init c = (below_none _, c.chunk_at-ch.ensures, c.recorded_count-count.ensures)

pub is_fine-requires : goal.is_fine-requires
is_fine-requires c =
    let a = c.args in
    let i = c.loop-i.invariant in
    record { ended = c.requires.ended; t_value = c.requires.t_value; here = counted-here a.s.now a.ws.now a.c _ i.1 _ i.2 c.requires.c_in_bounds c.loop-i.i c.loop-i-test.true }

pub returns-then-not-is_fine : goal.returns-then-not-is_fine
unfolding FineIn
returns-then-not-is_fine c =
    let a = c.args in
    let i = c.loop-i.invariant in
    no (λ all.
    refuted {P = FineAt a.s.now a.ws.now a.c c.loop-i.i} c.is_fine.ensures (c.if-not-is_fine.true)
    (all c.loop-i.i (omega (arith, c.loop-i-test.true, count-recordable a.s.now a.ws.now a.c _ i.1 _ i.2))))

pub loop-i-preserved : goal.loop-i-preserved
loop-i-preserved c =
    let i = c.loop-i.invariant in
    (below_more _ _ i.0 (c.is_fine.ensures.sound (c.if-not-is_fine.false)), i.1, i.2)

pub returns : goal.returns
unfolding FineIn
returns c =
    let a = c.args in
    let i = c.loop-i.invariant in
    yes (λ k l. i.0 k (omega (arith, c.loop-i-test.false, count-recordable a.s.now a.ws.now a.c _ i.1 _ i.2)))
