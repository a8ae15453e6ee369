use mathlib.Core.Path.{◌≡◌}
use Rattle.definition.specs.Module.{module_of}
use Rattle.definition.specs.Data.{any_body}
use Rattle.visit.specs.Slots.{list_of}
use Rattle.slots.proofs.Walk.{from}
use Rattle.slots.proofs.crossing.any_placed.Given as goal

abbrev pub invariant-loop-k : goal.invariant-loop-k
invariant-loop-k l = any_body (module_of l.s) (from l.k l.k-end) ≡ any_body (module_of l.s) (list_of l.fn.r)
