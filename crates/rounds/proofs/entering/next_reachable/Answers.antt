-- `next_reachable` meets its contract: no chunk that it passed is reachable.
use native.Mathlib.Omega.{arith}
use borrow.Author.Tests.{ltb-true}
use Rattle.layout.proofs.Read.{chunks-are}
use Rattle.rounds.proofs.entering.Reach.{skip-one, found_here, found_none}
use Rattle.rounds.proofs.entering.next_reachable.Goals as goal

pub loop-c-init : goal.loop-c-init
loop-c-init c = λ k l m. absurd (omega arith)

pub chunk_at-ch-requires : goal.chunk_at-ch-requires
chunk_at-ch-requires c =
    record { indexed = c.requires.indexed; c_in_bounds = omega (arith, ltb-true, chunks-are _ _ c.requires.t_value) }

pub returns-then-ch : goal.returns-then-ch
returns-then-ch c =
    found_here c.args.s.now c.args.ws.now c.args.t c.requires.t_value c.args.from c.loop-c.c c.loop-c.auto.c c.loop-c.invariant
    c.chunk_at-ch.result c.chunk_at-ch.ensures (omega (arith, ltb-true)) c.if-ch.true

pub loop-c-preserved : goal.loop-c-preserved
loop-c-preserved c =
    skip-one c.args.s.now c.args.ws.now c.args.t c.requires.t_value c.args.from c.loop-c.c c.loop-c.auto.c c.loop-c.invariant
    c.chunk_at-ch.result c.chunk_at-ch.ensures c.if-ch.false

pub returns : goal.returns
returns c =
    found_none c.args.s.now c.args.ws.now c.args.t c.requires.t_value c.args.from c.loop-c.c c.loop-c.auto.c c.loop-c.invariant
    (omega arith) (omega arith)
