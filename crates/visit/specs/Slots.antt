-- The slots that a data instruction names, as first and end; the definition's list of them.
use Rattle.std.specs.Prelude.{ℕ, ◌-◌, List}
use Rattle.definition.specs.Module.{row}
use Rattle.visit.specs.declared.slot_range.Slots.{Slots}

unfoldable pub list_of : Slots → List ℕ
list_of r = row (λ k. k) r.first (r.end - r.first)
