-- What each function here leaves: the facts after a write, and of a slot's cell the words that changed.
use Rattle.std.specs.Prelude.{ℕ, ◌+◌, ◌*◌, ◌/◌, ◌%◌, ◌≡◌, Bool, not, List, get_or, set}
use Rattle.masks.specs.declared.Mask.{Mask}
use Rattle.masks.specs.Mask.{of, union, same}
use Rattle.masks.specs.Names.{NONE}
use Rattle.flows.specs.declared.Flow.{Flow}
use Rattle.flows.specs.Flow.{join_flow, same_flow}
use Rattle.words.specs.Layout.{cell_at}
use Rattle.words.specs.Rows.{Outside}
use Rattle.definition.specs.State.{Live}
use Rattle.definition.specs.Leaves.{stored_flow}
use Rattle.visit.specs.Held.{live_in}
use Rattle.run_state.specs.Course.{FactsOnly}

-- only facts have changed, and r says whether they did so far in this round
pub record FactsAfter (s ws v : List ℕ) (r : Bool) (x : Live) : Type 0 where
  pub frame : FactsOnly s ws v
  pub live : live_in s v r ≡ x

-- this round's writes to the slot whose cell is at this word
abbrev pub writes_at : List ℕ → ℕ → Mask
writes_at ws at = of (get_or ws (at + 15) 0 % 65536)

abbrev pub mark_at : List ℕ → ℕ → ℕ
mark_at ws at = get_or ws (at + 15) 0 / 65536

-- a word whose low 16 bits are put anew
unfoldable pub with_low : List ℕ → ℕ → ℕ → List ℕ
with_low ws at low = set ws at (get_or ws at 0 / 65536 * 65536 + low)

-- kinds written to the slot
pub record Written (at : ℕ) (k : Mask) (ws v : List ℕ) : Type 0 where
  pub out : Outside (at + 15) (at + 16) ws v
  pub mark : mark_at v at ≡ mark_at ws at
  pub writes : writes_at v at ≡ union (writes_at ws at) k

-- a flow joined into the slot's
pub record Flowed (at : ℕ) (f : Flow) (ws v : List ℕ) (b : Bool) : Type 0 where
  pub out : Outside at (at + 15) ws v
  pub mask : (cell_at v at).mask ≡ (cell_at ws at).mask
  pub flow : (cell_at v at).flow ≡ join_flow (cell_at ws at).flow (stored_flow f)
  pub changed : b ≡ not (same_flow (cell_at ws at).flow (join_flow (cell_at ws at).flow (stored_flow f)))

-- the writes go into the slot's kinds
pub record Merged (at : ℕ) (ws v : List ℕ) (b : Bool) : Type 0 where
  pub out : Outside at (at + 16) ws v
  pub mark : mark_at v at ≡ mark_at ws at
  pub mask : (cell_at v at).mask ≡ union (cell_at ws at).mask (writes_at ws at)
  pub flow : (cell_at v at).flow ≡ (cell_at ws at).flow
  pub writes : writes_at v at ≡ NONE
  pub changed : b ≡ not (same (cell_at ws at).mask (union (cell_at ws at).mask (writes_at ws at)))
