-- What is looked for after a chunk was validated, as the code looks for it: by the instruction, in the words of its row.
use Rattle.std.specs.Prelude.{ℕ, ◌+◌, ◌<◌, ◌≤◌, ◌≡◌, not, cond, ◌&&◌, List, eqb, length, get_or, Result, Ok, Err}
use Rattle.std.proofs.Math.Option.{Option, none, some}
use Rattle.answers.specs.declared.Refusal.{Refusal}
use Rattle.masks.specs.Mask.{has, same}
use Rattle.masks.specs.Names.{STRUCT, ENUM}
use Rattle.extents.specs.Extent.{extent_minimum}
use Rattle.flows.specs.Flow.{absent}
use Rattle.cells.specs.declared.Cell.{Cell}
use Rattle.ops.specs.Ops.{rule_of}
use Rattle.definition.specs.Module.{row, module_of}
use Rattle.definition.specs.State.{State}
use Rattle.definition.specs.Start.{last, under_eight, inspection_fault, after_chunk}
use Rattle.form_laws.specs.Good.{chunk_no}
use Rattle.run_state.specs.Course.{states_in}
use Rattle.layout.specs.Layout.{place_at}
use Rattle.ops.specs.Numbers.{op_is_struct}

-- ---- which instructions inspect: 40 for ENUM, 41 for STRUCT
abbrev pub enum_fault : Cell → ℕ
enum_fault c = cond (has c.mask ENUM && under_eight (extent_minimum (get_or c.flow.bodies 3 absent))) 16 0

abbrev pub struct_fault : Cell → ℕ
struct_fault c = cond (has c.mask STRUCT && not (same c.mask STRUCT)) 17 0

-- the fault of a receiver, for either
unfoldable pub receiver_fault : ℕ → Cell → ℕ
receiver_fault op c = cond (eqb op op_is_struct) (struct_fault c) (enum_fault c)

-- ---- in the words of a row
-- the fault of an instruction with this state
unfoldable pub op_fault : ℕ → Option State → ℕ
op_fault op none = 0
op_fault op (some s) = inspection_fault (rule_of op).others (last s.stack)

-- ---- a chunk's first fault
unfoldable pub fault_told : Result (Unit {0}) Refusal → Option (ℕ × ℕ)
fault_told (Ok u) = none
fault_told (Err f) = some (f.number, f.instruction)

pub record Inspected (s ws : List ℕ) (c steps : ℕ) (r : Result (Unit {0}) Refusal) : Type 0 where
  pub fault : after_chunk (chunk_no (module_of s) c) (states_in s ws c) ≡ fault_told r
  pub place : (f : Refusal) → r ≡ Err f → f.chunk ≡ c
  pub same-steps : (f : Refusal) → r ≡ Err f → f.steps ≡ steps

-- the words of a row that are read
pub record RowRead (ws : List ℕ) (row : ℕ) : Type 0 where
  pub room : place_at row (get_or ws row 0) ≤ length ws + 16
  pub small : row < 4294967296
