use Prim.Native.Nat.{◌-◌}
use mathlib.Core.Path.{◌≡◌}
use Rattle.run_state.specs.Course.{FactsOnly}
use Rattle.visit.specs.Held.{live_in}
use Rattle.definition.specs.Leaves.{write_slots}
use Rattle.definition.specs.Module.{row, module_of}
use Rattle.fact_join.proofs.give_writes.Given as goal

abbrev pub invariant-loop-k : goal.invariant-loop-k
invariant-loop-k l =
    FactsOnly l.s l.initial.ws l.ws
    × (write_slots (module_of l.s) (live_in l.s l.ws l.moved) (row (λ j. j) l.k (l.end - l.k)) l.value ≡ write_slots (module_of l.s) (live_in l.s l.initial.ws l.changed) (row (λ j. j) l.initial.k (l.end - l.initial.k)) l.value)
