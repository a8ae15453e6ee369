-- An access refused, by the slots first to end.
use Rattle.std.specs.Prelude.{ℕ, Bool, not, cond, ◌&&◌, ltb, leb, length}
use Rattle.definition.specs.Module.{Module}
use Rattle.definition.specs.Data.{is_body, any_body}
use Rattle.visit.specs.declared.slot_range.Slots.{Slots}
use Rattle.visit.specs.Slots.{list_of}

unfoldable pub crossed_by : Module → Slots → Bool
crossed_by m r = leb (length m.shared) r.first && (not (is_body m r.first) && any_body m (list_of r))

unfoldable pub access_fault : Module → Slots → Bool → ℕ
access_fault m r fine = cond (ltb m.slots r.end) 13 (cond (crossed_by m r) 14 (cond fine 0 13))
