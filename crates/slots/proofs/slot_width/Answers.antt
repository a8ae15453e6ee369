-- `slots::slot_width` meets its contract.
use Rattle.masks.specs.declared.Mask.{Mask}
use Rattle.widths.specs.Width.{scalar_width}
use Rattle.layout.specs.declared.Tables.{Tables}
use Rattle.layout.specs.Indexed.{tables_of}
use mathlib.Core.Path.{sym, ap, ◌∙◌}
use Rattle.definition.specs.Data.{data_width}
use Rattle.slots.proofs.slot_width.Goals as goal

pub returns-then-slot_placed : goal.returns-then-slot_placed
unfolding data_width
returns-then-slot_placed c = rw (sym c.slot_placed.ensures ∙ c.if-slot_placed.true)

pub returns : goal.returns
unfolding data_width tables_of
returns c =
    let a = c.args in
    rw (sym c.slot_placed.ensures ∙ c.if-slot_placed.false)
    (c.scalar_width.ensures
    ∙ ap (λ (m : Mask). scalar_width m a.t.float) c.slot_mask.ensures
    ∙ ap (scalar_width _) (ap (λ (x : Tables). x.float) c.requires.t_value))
