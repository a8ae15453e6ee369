-- The state of an instruction, and the facts between chunks.
use Rattle.std.specs.Prelude.{ℕ, Bool, true, false, not, ◌&&◌, List, [], ◌∷◌, eqb, length}
use Rattle.masks.specs.declared.Mask.{Mask}
use Rattle.flows.specs.declared.Flow.{Flow}
use Rattle.cells.specs.declared.Cell.{Cell}
use Rattle.cells.specs.Cell.{join_cell, same_cell}
use Rattle.definition.specs.Res.{Res, ok, bad}
use Rattle.definition.specs.Machine.{Joined}

-- the stack from its lowest place on
pub record State : Type 0 where
  pub stack : List Cell
  pub locals : List Cell

unfoldable pub join_cells : List Cell → List Cell → List Cell
join_cells [] ys = []
join_cells (x ∷ xs) [] = x ∷ xs
join_cells (x ∷ xs) (y ∷ ys) = join_cell x y ∷ join_cells xs ys

unfoldable pub same_cells : List Cell → List Cell → Bool
same_cells [] [] = true
same_cells [] (y ∷ ys) = false
same_cells (x ∷ xs) [] = false
same_cells (x ∷ xs) (y ∷ ys) = same_cell x y && same_cells xs ys

unfoldable pub join_states : State → State → State
join_states x y = record { stack = join_cells x.stack y.stack; locals = join_cells x.locals y.locals }

unfoldable pub same_states : State → State → Bool
same_states x y = same_cells x.stack y.stack && same_cells x.locals y.locals

-- `Facts::join`; 18 where the heights differ
unfoldable pub join_if : Bool → State → State → Res (Joined State)
join_if true x y = ok (record { value = join_states x y; changed = not (same_states x (join_states x y)) })
join_if false x y = bad 18

unfoldable pub join : State → State → Res (Joined State)
join x y = join_if (eqb (length x.stack) (length y.stack) && eqb (length x.locals) (length y.locals)) x y

-- what the rules read: a chunk's inputs and results, and of each slot the private mask and flow
pub record Facts : Type 0 where
  pub inputs : List (List Cell)
  pub results : List Cell
  pub masks : List Mask
  pub flows : List Flow

-- a round's facts: with this round's writes, and whether something changed
pub record Live : Type 0 where
  pub known : Facts
  pub writes : List Mask
  pub changed : Bool

-- what a visit gives to the facts
pub data Gift : Type 0 where
  nothing : Gift
  -- arguments to a callee
  arguments : ℕ → List Cell → Gift
  -- a value to the chunk's result
  returned : ℕ → Cell → Gift
  -- a value written to the slots
  written : List ℕ → Cell → Gift
