-- Arguments and results that are joined into the facts.
use Prim.Native.Nat.{ℕ, ◌+◌, ◌*◌, ◌-◌, ◌<◌, ◌≤◌}
use native.Mathlib.Omega.{arith}
use mathlib.Core.Path.{◌≡◌, refl, sym, ap, ap₂, ◌∙◌}
use mathlib.Core.Bool.{Bool, false, not, ◌&&◌, ◌||◌, and-true}
use mathlib.Core.List.{List, [], ◌∷◌, ◌++◌}
use mathlib.Core.Logic.{inl, inr}
use lib.ListN.{length, get_or}
use Rattle.cells.specs.declared.Cell.{Cell}
use Rattle.cells.specs.Cell.{join_cell, same_cell}
use Rattle.words.specs.Layout.{cell_at}
use Rattle.words.specs.Rows.{cells_at}
use Rattle.words.proofs.RowLaws.{cells_at-length, cells_at-append, cell_at-outside, cells_at-outside}
use Rattle.definition.specs.Module.{module_of}
use Rattle.definition.specs.State.{arguments, returned, join_cells, same_cells}
use Rattle.definition.specs.Outputs.{no_cell}
use Rattle.definition.specs.Leaves.{absorb}
use Rattle.form_laws.specs.Good.{chunk_no}
use Rattle.layout.specs.Layout.{input_at, result_at}
use Rattle.layout.specs.Indexed.{Indexed}
use Rattle.layout.proofs.Apart.{inputs-begin, result-begins, result-next}
use Rattle.row_join.specs.places.Arrive.{Arrived, arrive, moves}
use Rattle.row_join.proofs.places.Laws.{same_cells-whole}
use Rattle.visit.specs.Held.{facts_in, live_in}
use Rattle.run_state.proofs.Stays.{inputs_end}
use Rattle.fact_join.proofs.Lists.{places_same, places-joined, places-moved}
use Rattle.fact_join.proofs.Frames.{either, live-eq, InArea, area-only, area-masks, area-flows, area_writes, area-inputs, area-result}
use Rattle.fact_join.specs.Taken.{FactsAfter}

-- ---- fewer cells arrive than there are places
join_front : (os xs bs : List Cell) → length os ≡ length xs → join_cells (os ++ bs) xs ≡ join_cells os xs ++ bs
unfolding join_cells
join_front [] [] [] h = refl
join_front [] [] (b ∷ bs) h = refl
join_front [] (x ∷ xs) bs h = absurd (omega arith)
join_front (a ∷ os) [] bs h = absurd (omega arith)
join_front (a ∷ os) (x ∷ xs) bs h = ap (λ (l : List Cell). join_cell a x ∷ l) (join_front os xs bs (omega arith))

same-front : (os xs bs : List Cell) → length os ≡ length xs → same_cells (os ++ bs) (join_cells os xs ++ bs) ≡ same_cells os (join_cells os xs)
unfolding same_cells join_cells
same-front [] [] bs h = same_cells-whole bs
same-front [] (x ∷ xs) bs h = absurd (omega arith)
same-front (a ∷ os) [] bs h = absurd (omega arith)
same-front (a ∷ os) (x ∷ xs) bs h = ap (λ (t : Bool). same_cell a (join_cell a x) && t) (same-front os xs bs (omega arith))

module _ (to t p : ℕ) (xs : List Cell) (ws v : List ℕ) (b : Bool) (x : Arrived false to t xs ws v b) (l : t ≤ p) where
  split : (w : List ℕ) → cells_at w to p ≡ cells_at w to t ++ cells_at w (to + 16 * t) (p - t)
  split w = let e : p ≡ t + (p - t) = omega arith in ap (cells_at w to) e ∙ cells_at-append w to t (p - t)

  long : length (cells_at ws to t) ≡ length xs
  long = cells_at-length ws to t ∙ sym x.count

  joined : join_cells (cells_at ws to p) xs ≡ join_cells (cells_at ws to t) xs ++ cells_at ws (to + 16 * t) (p - t)
  joined = ap (λ (os : List Cell). join_cells os xs) (split ws) ∙ join_front (cells_at ws to t) xs (cells_at ws (to + 16 * t) (p - t)) long

  pub arrived-among : cells_at v to p ≡ join_cells (cells_at ws to p) xs
  unfolding arrive
  arrived-among = split v ∙ ap₂ ◌++◌ x.cells (cells_at-outside x.out (to + 16 * t) (p - t) (inr (omega arith))) ∙ sym joined

  pub changed-among : b ≡ not (same_cells (cells_at ws to p) (join_cells (cells_at ws to p) xs))
  unfolding moves
  changed-among =
      x.changed
      ∙ ap not (sym (ap₂ same_cells (split ws) joined ∙ same-front (cells_at ws to t) xs (cells_at ws (to + 16 * t) (p - t)) long))

-- ---- one cell
module _ (to : ℕ) (c : Cell) (ws v : List ℕ) (b : Bool) (x : Arrived false to 1 (c ∷ []) ws v b) where
  pub one-arrived : cell_at v to ≡ join_cell (cell_at ws to) c
  unfolding arrive join_cells cells_at
  one-arrived = ap (λ (l : List Cell). get_or l 0 c) x.cells

  pub one-changed : b ≡ not (same_cell (cell_at ws to) (join_cell (cell_at ws to) c))
  unfolding moves join_cells same_cells cells_at
  one-changed = x.changed ∙ ap not (and-true (same_cell (cell_at ws to) (join_cell (cell_at ws to) c)))

-- ---- the facts take them in
pub signed : (s ws : List ℕ) → Indexed s ws → (k : ℕ) → k < (module_of s).signatures → k < length (module_of s).chunks
signed s ws i k h = omega (arith, i.good.signatures)

-- the arguments xs of a call of the chunk n
module _ (s ws v : List ℕ) (n t : ℕ) (xs : List Cell) (changed b : Bool) (i : Indexed s ws) (h : n < (module_of s).signatures)
    (l : t ≤ length (chunk_no (module_of s) n).params) (x : Arrived false (input_at (module_of s) n 0) t xs ws v b) where
  before-result : input_at (module_of s) n 0 + 16 * t ≤ result_at (module_of s) n
  before-result = omega (arith, l, inputs_end (module_of s) n)

  call-area : InArea s n ws v
  call-area =
      record {
        at = input_at (module_of s) n 0;
        len = 16 * t;
        there = signed s ws i n h;
        low = inputs-begin (module_of s) n 0;
        high = omega (arith, before-result, result-next (module_of s) n);
        out = x.out;
      }

  call-inputs : (facts_in s v).inputs ≡ (absorb (module_of s) (live_in s ws changed) (arguments n xs)).known.inputs
  unfolding facts_in live_in absorb
  call-inputs =
      places-joined _ _ n h join_cells [] xs _ (λ k o d. area-inputs s ws v n call-area k (signed s ws i k o) d)
      (arrived-among _ t _ xs ws v b x l)

  call-results : (facts_in s v).results ≡ (facts_in s ws).results
  unfolding facts_in
  call-results =
      places_same _ _ _
      (λ k o. either k n
      (λ d. area-result s ws v n call-area k (signed s ws i k o) d)
      (λ e. rw e (cell_at-outside x.out (result_at (module_of s) n) (inr before-result))))

  call-changed : changed || b ≡ (absorb (module_of s) (live_in s ws changed) (arguments n xs)).changed
  unfolding facts_in live_in absorb
  call-changed = ap (λ (r : Bool). changed || r) (changed-among _ t _ xs ws v b x l ∙ places-moved _ _ n h join_cells [] xs same_cells)

  pub arguments-taken : FactsAfter s ws v (changed || b) (absorb (module_of s) (live_in s ws changed) (arguments n xs))
  unfolding live_in absorb
  arguments-taken =
      record {
        frame = area-only s ws v n call-area;
        live =
            live-eq _ _ call-inputs call-results
            (area-masks s ws v n call-area)
            (area-flows s ws v n call-area)
            (area_writes s ws v n call-area)
            call-changed;
      }

-- the value c given back by the chunk n
module _ (s ws v : List ℕ) (n : ℕ) (c : Cell) (changed b : Bool) (i : Indexed s ws) (h : n < (module_of s).signatures)
    (x : Arrived false (result_at (module_of s) n) 1 (c ∷ []) ws v b) where
  return-area : InArea s n ws v
  return-area =
      record {
        at = result_at (module_of s) n;
        len = 16 * 1;
        there = signed s ws i n h;
        low = result-begins (module_of s) n;
        high = omega (arith, result-next (module_of s) n);
        out = x.out;
      }

  return-inputs : (facts_in s v).inputs ≡ (facts_in s ws).inputs
  unfolding facts_in
  return-inputs =
      places_same _ _ _
      (λ k o. either k n
      (λ d. area-inputs s ws v n return-area k (signed s ws i k o) d)
      (λ e. rw e (cells_at-outside x.out _ _ (inl (omega (arith, inputs_end (module_of s) n))))))

  return-results : (facts_in s v).results ≡ (absorb (module_of s) (live_in s ws changed) (returned n c)).known.results
  unfolding facts_in live_in absorb
  return-results =
      places-joined _ _ n h join_cell no_cell c _ (λ k o d. area-result s ws v n return-area k (signed s ws i k o) d)
      (one-arrived _ c ws v b x)

  return-changed : changed || b ≡ (absorb (module_of s) (live_in s ws changed) (returned n c)).changed
  unfolding facts_in live_in absorb
  return-changed = ap (λ (r : Bool). changed || r) (one-changed _ c ws v b x ∙ places-moved _ _ n h join_cell no_cell c same_cell)

  pub result-taken : FactsAfter s ws v (changed || b) (absorb (module_of s) (live_in s ws changed) (returned n c))
  unfolding live_in absorb
  result-taken =
      record {
        frame = area-only s ws v n return-area;
        live =
            live-eq _ _ return-inputs return-results
            (area-masks s ws v n return-area)
            (area-flows s ws v n return-area)
            (area_writes s ws v n return-area)
            return-changed;
      }
