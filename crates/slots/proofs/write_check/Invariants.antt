use mathlib.Core.Path.{◌≡◌}
use Rattle.definition.specs.declared.Check.TheVariants.{Fine}
use Rattle.definition.specs.Module.{module_of}
use Rattle.definition.specs.Wants.{write_check}
use Rattle.visit.specs.Held.{facts_in}
use Rattle.visit.specs.Slots.{list_of}
use Rattle.slots.proofs.Walk.{from}
use Rattle.slots.proofs.write_check.Given as goal

abbrev pub invariant-loop-k : goal.invariant-loop-k
invariant-loop-k l =
    write_check (module_of l.s) (facts_in l.s l.ws) l.value l.c (from l.k l.k-end) ≡ write_check (module_of l.s) (facts_in l.s l.ws) l.value Fine (list_of l.fn.r)
