-- What the row of an instruction says beside its record: the top of its stack, an inspection that says false, a test that is known.
use Rattle.std.specs.Prelude.{ℕ, ◌-◌, ◌^◌, ◌<◌, ◌≤◌, Bool, not, cond, ◌&&◌, ◌||◌, List, eqb, length, get_or}
use Rattle.masks.specs.Mask.{same}
use Rattle.masks.specs.Names.{FALSE, TRUE}
use Rattle.cells.specs.declared.Cell.{Cell}
use Rattle.ops.specs.Ops.{rule_of}
use Rattle.words.specs.Rows.{cells_at}
use Rattle.definition.specs.Start.{last}
use Rattle.definition.specs.Report.{says_false, is_test}
use Rattle.layout.specs.Layout.{place_at, stack_at}

-- the row is there, as far as its stack goes
pub record RowInside (ws : List ℕ) (row : ℕ) : Type 0 where
  pub room : place_at row (get_or ws row 0 - 1) ≤ length ws
  pub small : place_at row (get_or ws row 0) < 2 ^ 62

abbrev pub recorded : List ℕ → ℕ → Bool
recorded ws row = not (eqb (get_or ws row 0) 0)

unfoldable pub top_in : List ℕ → ℕ → Cell
top_in ws row = last (cells_at ws (stack_at row) (get_or ws row 0 - 1))

-- an inspection that always says false
unfoldable pub false_in : List ℕ → ℕ → ℕ → Bool
false_in ws row op = recorded ws row && says_false (rule_of op).others (top_in ws row)

-- a test that always goes one way, and which
unfoldable pub decided_in : List ℕ → ℕ → ℕ → Bool
decided_in ws row op =
    recorded ws row && (is_test (rule_of op).exit && (same (top_in ws row).mask FALSE || same (top_in ws row).mask TRUE))

unfoldable pub way_in : List ℕ → ℕ → ℕ
way_in ws row = cond (same (top_in ws row).mask TRUE) 1 0
