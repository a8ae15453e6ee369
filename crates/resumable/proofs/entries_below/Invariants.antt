use Rattle.ring.specs.Ring.{QueueReady}
use Rattle.resumable.specs.Resumable.{EntriesBelow}
use Rattle.resumable.proofs.entries_below.Given as goal

abbrev pub invariant-loop-rest : goal.invariant-loop-rest
invariant-loop-rest l =
    QueueReady l.ws l.base l.rest × (EntriesBelow l.ws l.base l.rest l.count → EntriesBelow l.ws l.base l.initial.rest l.count)
    × (EntriesBelow l.ws l.base l.initial.rest l.count → EntriesBelow l.ws l.base l.rest l.count)

abbrev pub decreases-loop-rest : goal.decreases-loop-rest
decreases-loop-rest l = l.rest.count
