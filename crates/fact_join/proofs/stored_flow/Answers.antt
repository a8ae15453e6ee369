-- `fact_join::stored_flow` meets its contract. Of a bare flow only the owner is left out.
use Rattle.std.specs.Prelude.{false}
use mathlib.Core.Path.{ap}
use Rattle.flows.specs.declared.Flow.{Flow}
use Rattle.definition.specs.Leaves.{stored_flow}
use Rattle.flows.specs.Flow.{bare}
use Rattle.fact_join.proofs.stored_flow.Goals as goal

pub returns : goal.returns
unfolding bare stored_flow
returns c = ap (λ (f : Flow). record { bodies = f.bodies; owned = false; origin = f.origin; predicate = f.predicate }) c.bare-f.ensures
