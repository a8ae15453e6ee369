-- `resumable::faultless::is_faultless` meets its contract. Invariant: the chunks before c are fine.
use native.Mathlib.Omega.{arith}
use borrow.Author.Count.{below_none, below_more}
use Rattle.layout.proofs.Read.{chunks-are}
use Rattle.resumable.proofs.Decides.{yes, no, refuted}
use Rattle.resumable.proofs.faultless.Fine.{faultless-all, faultless-in}
use Rattle.resumable.proofs.faultless.is_faultless.Goals as goal

pub loop-c-init : goal.loop-c-init
loop-c-init c = below_none _

pub chunk_fine-requires : goal.chunk_fine-requires
chunk_fine-requires c =
    let a = c.args in
    record { ended = c.requires.ended; t_value = c.requires.t_value; c_in_bounds = omega (arith, c.loop-c-test.true, chunks-are a.s.now a.t c.requires.t_value) }

pub returns-then-not-chunk_fine : goal.returns-then-not-chunk_fine
returns-then-not-chunk_fine c =
    let a = c.args in
    no (λ f. refuted c.chunk_fine.ensures (c.if-not-chunk_fine.true) (faultless-in a.s.now a.ws.now f c.loop-c.c))

pub loop-c-preserved : goal.loop-c-preserved
loop-c-preserved c =
    below_more _ _ c.loop-c.invariant (c.chunk_fine.ensures.sound (c.if-not-chunk_fine.false))

pub returns : goal.returns
returns c =
    let a = c.args in
    yes (faultless-all a.s.now a.ws.now (λ k l. c.loop-c.invariant k (omega (arith, c.loop-c-test.false, chunks-are a.s.now a.t c.requires.t_value))))
