use mathlib.Core.Path.{◌≡◌}
use Rattle.definition.specs.Module.{module_of}
use Rattle.definition.specs.Data.{width_in, data_width}
use Rattle.visit.specs.Held.{facts_in}
use Rattle.visit.specs.Slots.{list_of}
use Rattle.slots.proofs.Walk.{from}
use Rattle.slots.proofs.width_in.Given as goal

abbrev pub invariant-loop-k : goal.invariant-loop-k
invariant-loop-k l =
    width_in (module_of l.s) (facts_in l.s l.ws) l.w (from l.k l.k-end)
    ≡ width_in (module_of l.s) (facts_in l.s l.ws) (data_width (module_of l.s) (facts_in l.s l.ws) l.fn.r.first) (list_of l.fn.r)
