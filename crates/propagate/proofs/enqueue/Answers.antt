-- `propagate::enqueue` meets its contract: the entry is put last, or the queue is full.
use mathlib.Core.Path.{refl}
use Rattle.propagate.specs.Steps.{Enqueued}
use Rattle.propagate.proofs.enqueue.Goals as goal

pub returns-then-q-ws : goal.returns-then-q-ws
unfolding Enqueued
returns-then-q-ws c = (c.if-q-ws.true, c.push.ensures.0, c.push.ensures.1)

pub returns : goal.returns
unfolding Enqueued
returns c = (c.if-q-ws.false, refl, refl)
