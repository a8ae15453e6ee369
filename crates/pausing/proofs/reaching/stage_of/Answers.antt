-- `pausing::reaching::stage_of` meets its contract.
use mathlib.Core.Path.{◌≡◌, ap, ◌∙◌}
use Rattle.std.specs.Prelude.{Ok}
use Rattle.run.specs.declared.RunTo.TheVariants.{Due, Over}
use Rattle.pausing.proofs.reaching.Functions.{due-ready, stage-due, stage-halt, stage-over}
use Rattle.pausing.proofs.reaching.stage_of.Goals as goal

pub pause-requires : goal.pause-requires
pause-requires c =
    let a : c.args.ran ≡ Ok c.in-Ok-Due.field-0 = c.in-Ok-Due.is in
    let d : c.in-Ok-Due.field-0 ≡ Due c.in-Ok-Due.r = rw a at c.in-Ok-Due.field-0-is in
    let z = due-ready _ _ _ c.in-Ok-Due.r (a ∙ ap Ok d) c.requires.ran_ready in
    record { between = z.0; count_nonzero = z.1; t_value = c.requires.t_value }

pub returns-in-Ok-Due : goal.returns-in-Ok-Due
returns-in-Ok-Due c =
    let a : c.args.ran ≡ Ok c.in-Ok-Due.field-0 = c.in-Ok-Due.is in
    let d : c.in-Ok-Due.field-0 ≡ Due c.in-Ok-Due.r = rw a at c.in-Ok-Due.field-0-is in
    stage-due _ _ _ _ _ _ c.in-Ok-Due.r (a ∙ ap Ok d) c.pause.ensures

pub returns-in-Err : goal.returns-in-Err
returns-in-Err c =
    stage-halt _ _ _ _ c.in-Err.refusal c.in-Err.is

pub returns-in-Ok-Over : goal.returns-in-Ok-Over
returns-in-Ok-Over c =
    let a : c.args.ran ≡ Ok c.in-Ok-Over.field-0 = c.in-Ok-Over.is in
    let d : c.in-Ok-Over.field-0 ≡ Over c.in-Ok-Over.steps = rw a at c.in-Ok-Over.field-0-is in
    stage-over _ _ _ _ c.in-Ok-Over.steps (a ∙ ap Ok d)
