use mathlib.Core.Path.{◌≡◌}
use Rattle.masks.specs.Names.{NONE}
use Rattle.definition.specs.Module.{module_of}
use Rattle.definition.specs.Data.{kinds_in}
use Rattle.visit.specs.Held.{facts_in}
use Rattle.visit.specs.Slots.{list_of}
use Rattle.slots.proofs.Walk.{from}
use Rattle.slots.proofs.kinds_in.Given as goal

abbrev pub invariant-loop-k : goal.invariant-loop-k
invariant-loop-k l =
    kinds_in (module_of l.s) (facts_in l.s l.ws) l.m (from l.k l.k-end) ≡ kinds_in (module_of l.s) (facts_in l.s l.ws) NONE (list_of l.fn.r)
