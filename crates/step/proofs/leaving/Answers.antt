use Rattle.step.proofs.Frames.{alike_of}
use Rattle.step.proofs.Faults.{start_small}
use Rattle.step.proofs.leaving.Goals as goal

pub made_at-made-requires : goal.made_at-made-requires
made_at-made-requires c = record { looking = c.requires.visiting.looking; t_value = c.requires.visiting.tables; ch_value = c.requires.visiting.chunk; v_value = c.requires.v_value }

pub set_local-set-requires : goal.set_local-set-requires
set_local-set-requires c = record { looking = c.requires.visiting.looking; ch_value = c.requires.visiting.chunk; v_value = c.requires.v_value }

pub height_after-requires : goal.height_after-requires
height_after-requires c =
    start_small _ _ _ c.requires.visiting.looking

pub returns : goal.returns
returns c =
    alike_of _ _ _ c.requires.visiting.looking _ c.requires.visiting.chunk _ c.made_at-made.ensures c.set_local-set.ensures c.resets.ensures c.height_after.ensures
