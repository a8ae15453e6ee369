use mathlib.Core.Path.{◌≡◌}
use Rattle.flows.specs.Flow.{no_flow}
use Rattle.definition.specs.Data.{flow_in}
use Rattle.visit.specs.Held.{facts_in}
use Rattle.visit.specs.Slots.{list_of}
use Rattle.slots.proofs.Walk.{from}
use Rattle.slots.proofs.flow_in.Given as goal

abbrev pub invariant-loop-k : goal.invariant-loop-k
invariant-loop-k l = flow_in (facts_in l.s l.ws) l.f (from l.k l.k-end) ≡ flow_in (facts_in l.s l.ws) no_flow (list_of l.fn.r)
