-- What is asked of a visit, by the stack places that the code looks at.
use Rattle.std.specs.Prelude.{ℕ, ◌-◌, ◌≡◌, Bool, true, false, List, length}
use Rattle.masks.specs.declared.Mask.{Mask}
use Rattle.words.specs.Layout.{cell_at}
use Rattle.definition.specs.declared.Ask.{Ask}
use Rattle.definition.specs.declared.Ask.TheVariants.{Nothing, First, Both, Every, Below, Writes, WritesIndexed, Never}
use Rattle.definition.specs.declared.Want.{Want}
use Rattle.definition.specs.declared.Check.{Check}
use Rattle.definition.specs.Module.{row}
use Rattle.definition.specs.Outputs.{Visit}
use Rattle.definition.specs.Wants.{require, want_of, operand_check, Asked}
use Rattle.definition.specs.Leaves.{always}
use Rattle.layout.specs.Layout.{place_at}
use Rattle.visit.specs.declared.RowVisit.{RowVisit}
use Rattle.visit.specs.Held.{Looking, visit_in}
use Rattle.checks.specs.declared.asked.Places.{Places}

unfoldable pub is_never : Ask → Bool
is_never Never = true
is_never Nothing = false
is_never First = false
is_never Both = false
is_never Every = false
is_never Below = false
is_never Writes = false
is_never WritesIndexed = false

-- the places that are asked about: the operands, or the value below them
unfoldable pub places_by : RowVisit → Ask → Places
places_by v Below = record { from = v.start - 1; end = v.start }
places_by v Nothing = record { from = v.start; end = v.height }
places_by v First = record { from = v.start; end = v.height }
places_by v Both = record { from = v.start; end = v.height }
places_by v Every = record { from = v.start; end = v.height }
places_by v Writes = record { from = v.start; end = v.height }
places_by v WritesIndexed = record { from = v.start; end = v.height }
places_by v Never = record { from = v.start; end = v.height }

-- what is found at the place p, whose mask this is
unfoldable pub found_by : Visit → Want → Ask → ℕ → Mask → Check
found_by v w Below p m = require m w.first
found_by v w Nothing p m = operand_check v w Nothing (p - length v.below) m
found_by v w First p m = operand_check v w First (p - length v.below) m
found_by v w Both p m = operand_check v w Both (p - length v.below) m
found_by v w Every p m = operand_check v w Every (p - length v.below) m
found_by v w Writes p m = operand_check v w Writes (p - length v.below) m
found_by v w WritesIndexed p m = operand_check v w WritesIndexed (p - length v.below) m
found_by v w Never p m = operand_check v w Never (p - length v.below) m

unfoldable pub found_in : List ℕ → List ℕ → RowVisit → Want → ℕ → Check
found_in s ws v w p = found_by (visit_in s ws v) w w.ask p (cell_at ws (place_at v.row p)).mask

-- the places from p up to e, each with what is found there; and all that are asked about
unfoldable pub asked_from : List ℕ → List ℕ → RowVisit → Want → ℕ → ℕ → List Asked
asked_from s ws v w p e = row (λ k. record { place = k; found = found_in s ws v w k }) p (e - p)

unfoldable pub asked_in : List ℕ → List ℕ → RowVisit → Want → List Asked
asked_in s ws v w = asked_from s ws v w (places_by v w.ask).from (places_by v w.ask).end

-- a visit that nothing refuses whatever the mode, with what is asked of it
pub record Asking (s ws : List ℕ) (v : RowVisit) (w : Want) : Type 0 where
  pub looking : Looking s ws v
  pub fine : always (visit_in s ws v) ≡ 0
  pub want : w ≡ want_of (visit_in s ws v)
