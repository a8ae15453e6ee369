use Rattle.step.proofs.Faults.{entry-is}
use Rattle.visit.specs.Held.{visit_in}
use Rattle.definition.specs.Wants.{unfit}
use mathlib.Core.Bool.{Bool, cond}
use mathlib.Core.Path.{sym, ap, ◌∙◌}
use Rattle.step.proofs.unproven.Goals as goal

pub proven-requires : goal.proven-requires
proven-requires c =
    record { looking = c.requires.visiting.looking; t_value = c.requires.visiting.tables; ch_value = c.requires.visiting.chunk; value = entry-is _ _ _ c.requires.visiting.looking _ c.requires.visiting.tables; v_value = c.requires.v_value }

pub returns-then-validating : goal.returns-then-validating
returns-then-validating c =
    let a = c.args in
    c.proven.ensures ∙ ap (λ (b : Bool). cond b (unfit (visit_in a.s.now a.ws.now a.v)) 0) (sym c.if-validating.true)

pub returns : goal.returns
returns c =
    let a = c.args in
    ap (λ (b : Bool). cond b (unfit (visit_in a.s.now a.ws.now a.v)) 0) (sym c.if-validating.false)
