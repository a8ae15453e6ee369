use Rattle.definition.specs.Leaves.{gives}
use Rattle.visit.specs.Held.{live_in, visit_in}
use Rattle.step.proofs.Steps.{adds_none, adds-all, nothing_written}
use Rattle.step.proofs.Faults.{entry-is}
use mathlib.Core.Path.{◌∙◌}
use Rattle.step.proofs.give_in_rounds.Goals as goal

pub returns-then-r : goal.returns-then-r
returns-then-r c =
    let a = c.args in
    (nothing_written _ _, adds_none a.s.now a.ws.now _ _ (gives (visit_in a.s.now a.ws.now a.v)) c.if-r.true)

pub give-requires : goal.give-requires
give-requires c =
    record { looking = c.requires.visiting.looking; t_value = c.requires.visiting.tables; ch_value = c.requires.visiting.chunk; chunk_bound = c.requires.chunk_bound; value = entry-is _ _ _ c.requires.visiting.looking _ c.requires.visiting.tables; v_value = c.requires.v_value }

pub returns : goal.returns
returns c =
    let a = c.args in (
      c.give.ensures.0,
      c.give.ensures.1 ∙ adds-all a.s.now a.ws.now a.r.validating (live_in a.s.now a.ws.now a.r.changed) (gives (visit_in a.s.now a.ws.now a.v)) c.if-r.false,
    )
