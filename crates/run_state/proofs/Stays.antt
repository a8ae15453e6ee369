-- What stays after a write to the rows of one chunk and the queue, and after a write to the facts.
use Prim.Native.Nat.{ℕ, ◌+◌, ◌*◌, ◌%◌, ◌<◌, ◌≤◌}
use native.Mathlib.Omega.{arith}
use mathlib.Core.Path.{◌≡◌, ap, ◌∙◌}
use mathlib.Core.Bool.{Bool}
use mathlib.Core.List.{List}
use lib.ListN.{length, get_or}
use Rattle.masks.specs.Mask.{of}
use Rattle.cells.specs.declared.Cell.{Cell}
use Rattle.words.specs.Layout.{cell_at}
use Rattle.words.proofs.Laws.{cell_at-same}
use Rattle.words.specs.Rows.{cells_at}
use Rattle.words.proofs.RowLaws.{cells_at-same}
use Rattle.definition.specs.Module.{Module, module_of}
use Rattle.form_laws.specs.Good.{chunk_no}
use Rattle.layout.specs.Layout.{area_of, slot_at, input_at, result_at, rows_at}
use Rattle.layout.specs.Indexed.{Indexed, suspends_at}
use Rattle.layout.proofs.Apart.{by_order, area-apart, areas-behind, slots-first, inputs-begin, result-begins, result-next, rows-in-area, rows_in, rows_end}
use Rattle.layout.specs.Kept.{Steady}
use Rattle.layout.proofs.Kept.{indexed-steady, suspends-steady}
use Rattle.visit.specs.Held.{facts_in, writes_in, live_in, known_in}
use Rattle.run_state.specs.Course.{states_in, Prepared, Low, RowsOnly, FactsOnly}
use Rattle.run_state.proofs.Rows.{row_same, by-offset, SameRow, states-kept, low-kept}

-- ---- the reply, and which chunks suspend
module _ (s ws v : List ℕ) (k : Steady (module_of s) ws v) (front : (j : ℕ) → j < 64 → get_or v j 0 ≡ get_or ws j 0) where
  known-stays : known_in s v ≡ known_in s ws
  unfolding known_in
  known-stays =
      λ i. record {
        code = module_of s;
        suspends = row_same (suspends_at v) (suspends_at ws) 0 (length (module_of s).chunks) (λ n a b. suspends-steady s ws v n k (omega arith)) i;
        reply = cell_at-same v ws 0 0 (λ j l. front (0 + j) (omega arith)) i;
      }

  prepared-stays : Prepared s ws → Prepared s v
  prepared-stays p =
      record {
        indexed = indexed-steady s ws v k p.indexed;
        room = omega (arith, p.room, k.kept.long);
        admitted = p.admitted;
        known = known-stays ∙ p.known;
      }

-- the result stands behind the inputs
pub inputs_end : (m : Module) (n : ℕ) → input_at m n 0 + 16 * length (chunk_no m n).params ≡ result_at m n
unfolding input_at result_at
inputs_end m n = omega arith

-- ---- rows of the chunk n, and the queue
module _ (s : List ℕ) (n : ℕ) (h : n < length (module_of s).chunks) (ws v : List ℕ) (r : RowsOnly s n ws v) where
  -- the words before the areas
  rows-front : (j : ℕ) → j < 16 * area_of (module_of s) n → get_or v j 0 ≡ get_or ws j 0
  rows-front j l = r.under j (omega (arith, result-begins (module_of s) n, result-next (module_of s) n))

  -- the inputs and the result of the chunk k
  rows-facts : (k j : ℕ) → k < length (module_of s).chunks → 16 * area_of (module_of s) k ≤ j → j < rows_at (module_of s) k → get_or v j 0 ≡ get_or ws j 0
  rows-facts k j l a b =
      by_order k n
      (λ o. rows-front j (omega (arith, rows-in-area (module_of s) k, area-apart (module_of s) k n o (omega arith))))
      (λ e. r.under j (omega (arith, ap (rows_at (module_of s)) e)))
      (λ o. r.above j
      (omega (arith, rows_end (module_of s) n, area-apart (module_of s) n k o (omega arith)))
      (omega (arith, rows_in (module_of s) k l)))

  pub rows-live : Indexed s ws → (changed : Bool) → live_in s v changed ≡ live_in s ws changed
  unfolding live_in facts_in writes_in
  rows-live x changed =
      λ i. record {
        known =
            record {
              inputs = row_same _ _ 0 (module_of s).signatures (λ k a b. inputs k (omega (arith, x.good.signatures))) i;
              results = row_same _ _ 0 (module_of s).signatures (λ k a b. result k (omega (arith, x.good.signatures))) i;
              masks = row_same _ _ 0 (module_of s).slots (λ k a b. ap (λ (c : Cell). c.mask) (cell k (omega arith))) i;
              flows = row_same _ _ 0 (module_of s).slots (λ k a b. ap (λ (c : Cell). c.flow) (cell k (omega arith))) i;
            };
        writes = row_same _ _ 0 (module_of s).slots (λ k a b. ap (λ (w : ℕ). of (w % 65536)) (slot k 15 (omega arith) (omega arith))) i;
        changed = changed;
      }
    where
      slot : (k j : ℕ) → k < (module_of s).slots → j < 16 → get_or v (slot_at (module_of s) k + j) 0 ≡ get_or ws (slot_at (module_of s) k + j) 0
      slot k j l o = rows-front _ (omega (arith, slots-first (module_of s) k n l))

      cell : (k : ℕ) → k < (module_of s).slots → cell_at v (slot_at (module_of s) k) ≡ cell_at ws (slot_at (module_of s) k)
      cell k l = cell_at-same v ws _ _ (λ j o. slot k j l (omega arith))

      result : (k : ℕ) → k < length (module_of s).chunks → cell_at v (result_at (module_of s) k) ≡ cell_at ws (result_at (module_of s) k)
      result k l =
          cell_at-same v ws _ _ (λ j o.
          rows-facts k _ l (omega (arith, result-begins (module_of s) k)) (omega (arith, result-next (module_of s) k)))

      inputs : (k : ℕ) → k < length (module_of s).chunks
          → cells_at v (input_at (module_of s) k 0) (length (chunk_no (module_of s) k).params) ≡ cells_at ws (input_at (module_of s) k 0) (length (chunk_no (module_of s) k).params)
      inputs k l =
          cells_at-same v ws _ _ _ (λ j o.
          rows-facts k _ l (omega (arith, inputs-begin (module_of s) k 0))
          (omega (arith, inputs_end (module_of s) k, result-next (module_of s) k)))

  pub rows-prepared : Prepared s ws → Prepared s v
  rows-prepared = prepared-stays s ws v r.steady (λ j l. rows-front j (omega (arith, areas-behind (module_of s) n)))

-- ---- the facts
module _ (s ws v : List ℕ) (r : FactsOnly s ws v) where
  pub facts-prepared : Prepared s ws → Prepared s v
  facts-prepared = prepared-stays s ws v r.steady r.front

  facts-rows : (n : ℕ) → n < length (module_of s).chunks → (i : ℕ) → i < length (chunk_no (module_of s) n).code → SameRow s n ws v i
  facts-rows n h i l = by-offset ws v _ _ (λ k o. r.rows n i k h l o)

  pub facts-states : (n : ℕ) → n < length (module_of s).chunks → Low s ws n → states_in s v n ≡ states_in s ws n
  facts-states n h low = states-kept s n ws v low (facts-rows n h)

  pub facts-low : (n : ℕ) → n < length (module_of s).chunks → Low s ws n → Low s v n
  facts-low n h low = low-kept s n ws v low (facts-rows n h)
