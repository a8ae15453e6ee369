use Rattle.step.proofs.Faults.{start_small, fault-always, fault-unfit, fault-high, fault-none}
use mathlib.Core.Path.{sym, ◌∙◌}
use Rattle.step.proofs.fault.Goals as goal

pub always_fault-n-requires : goal.always_fault-n-requires
always_fault-n-requires c = record { looking = c.requires.looking; t_value = c.requires.tables }

pub returns-then-n-ne0 : goal.returns-then-n-ne0
returns-then-n-ne0 c =
    fault-always _ _ _ c.requires.looking _ _ c.always_fault-n.ensures c.if-n-ne0.true

pub unproven-m-requires : goal.unproven-m-requires
unproven-m-requires c =
    record { visiting = c.requires; v_value = sym c.always_fault-n.ensures ∙ c.if-n-ne0.false }

pub returns-then-m-ne0 : goal.returns-then-m-ne0
returns-then-m-ne0 c =
    fault-unfit _ _ _ c.requires.looking _ (sym c.always_fault-n.ensures ∙ c.if-n-ne0.false) _ c.unproven-m.ensures c.if-m-ne0.true

pub height_after-requires : goal.height_after-requires
height_after-requires c =
    start_small _ _ _ c.requires.looking

pub returns-then-ch-height_after : goal.returns-then-ch-height_after
returns-then-ch-height_after c =
    fault-high _ _ _ c.requires.looking _ (sym c.always_fault-n.ensures ∙ c.if-n-ne0.false) (sym c.unproven-m.ensures ∙ c.if-m-ne0.false) _ c.requires.chunk (rw c.height_after.ensures at c.if-ch-height_after.true)

pub returns-else-ch-height_after : goal.returns-else-ch-height_after
returns-else-ch-height_after c =
    fault-none _ _ _ c.requires.looking _ (sym c.always_fault-n.ensures ∙ c.if-n-ne0.false) (sym c.unproven-m.ensures ∙ c.if-m-ne0.false) _ c.requires.chunk (rw c.height_after.ensures at c.if-ch-height_after.false)
