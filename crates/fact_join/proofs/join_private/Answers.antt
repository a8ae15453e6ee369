-- `fact_join::join_private` meets its contract. The mask and the width stay, the flow is joined.
use mathlib.Core.Path.{refl, ap, ap₂, ◌∙◌}
use Rattle.cells.specs.declared.Cell.{Cell}
use Rattle.flows.specs.Flow.{joined_flow}
use Rattle.flows.specs.declared.Flow.{Flow}
use Rattle.fact_join.proofs.Slots.{flowed-put}
use Rattle.fact_join.proofs.join_private.Goals as goal

pub returns : goal.returns
returns c =
    let a = c.args in
    flowed-put a.ws.now _ a.at a.flow _ c.join-j.result c.requires
    (c.join-j.ensures ∙ ap₂ (λ (f g : Flow). joined_flow f g) (ap (λ (x : Cell). x.flow) c.load-c.ensures) c.stored_flow.ensures)
    (ap (λ (x : Cell). x.mask) c.load-c.ensures)
    refl
    c.store.ensures.0
    c.store.ensures.1
