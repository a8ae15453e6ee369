-- Writes to the facts, to the inputs and the result of a chunk or to the cell of a slot: what else they leave as it is.
use Prim.Native.Nat.{ℕ, ◌+◌, ◌*◌, ◌/◌, ◌%◌, ◌<◌, ◌≤◌}
use native.Mathlib.Omega.{arith}
use mathlib.Core.Path.{◌≡◌, refl, ap, ◌∙◌}
use mathlib.Core.List.{List}
use mathlib.Core.Logic.{inl, inr}
use lib.ListN.{length, get_or}
use Rattle.masks.specs.Mask.{of}
use Rattle.cells.specs.declared.Cell.{Cell}
use Rattle.words.specs.Layout.{cell_at}
use Rattle.words.proofs.Laws.{cell_at-same}
use Rattle.words.specs.Rows.{cells_at, Outside}
use Rattle.words.proofs.RowLaws.{cells_at-same}
use Rattle.definition.specs.Module.{Module, module_of}
use Rattle.definition.specs.State.{Live}
use Rattle.form_laws.specs.Good.{chunk_no}
use Rattle.layout.specs.Layout.{area_of, slot_at, input_at, result_at, rows_at, row_at}
use Rattle.layout.proofs.Apart.{by_order, area-apart, areas-behind, numbers-first, slots-first, slots_apart, slots-behind, slots-in, row_before, row-begins, rows-begin, rows_in, rows-in-area, inputs-begin, result-begins, result-next}
use Rattle.layout.proofs.Kept.{steady-refl, steady-trans, steady-free, facts-free}
use Rattle.visit.specs.Held.{facts_in, writes_in}
use Rattle.run_state.specs.Course.{FactsOnly}
use Rattle.fact_join.proofs.Lists.{places_same}

pub facts-refl : (s ws : List ℕ) → FactsOnly s ws ws
facts-refl s ws =
    record { steady = steady-refl (module_of s) ws; front = λ j h. refl; rows = λ n i k h l o. refl; queue = λ j h. refl }

pub facts-trans : (s ws v u : List ℕ) → FactsOnly s ws v → FactsOnly s v u → FactsOnly s ws u
facts-trans s ws v u a b =
    record {
      steady = steady-trans (module_of s) ws v u a.steady b.steady;
      front = λ j h. b.front j h ∙ a.front j h;
      rows = λ n i k h l o. b.rows n i k h l o ∙ a.rows n i k h l o;
      queue = λ j h. b.queue j h ∙ a.queue j h;
    }

-- facts are their lists
pub live-eq : (x y : Live) → x.known.inputs ≡ y.known.inputs → x.known.results ≡ y.known.results → x.known.masks ≡ y.known.masks
    → x.known.flows ≡ y.known.flows → x.writes ≡ y.writes → x.changed ≡ y.changed → x ≡ y
live-eq x y a b c d e f =
    λ i. record { known = record { inputs = a i; results = b i; masks = c i; flows = d i }; writes = e i; changed = f i }

-- another one, or this
pub either : {P : Type 0} (k n : ℕ) → ((k ≡ n → ⊥) → P) → (k ≡ n → P) → P
either k n other this = by_order k n (λ l. other (λ e. omega arith)) this (λ l. other (λ e. omega arith))

-- ---- a write of some words among the inputs and the result of the chunk n
pub record InArea (s : List ℕ) (n : ℕ) (ws v : List ℕ) : Type 0 where
  pub at : ℕ
  pub len : ℕ
  pub there : n < length (module_of s).chunks
  pub low : 16 * area_of (module_of s) n ≤ at
  pub high : at + len ≤ rows_at (module_of s) n
  pub out : Outside at (at + len) ws v

module _ (s ws v : List ℕ) (n : ℕ) (x : InArea s n ws v) where
  pub area-only : FactsOnly s ws v
  area-only =
      record {
        steady = steady-free m x.at x.len ws v (facts-free m n x.at x.len x.there x.low x.high) x.out.length x.out.word;
        front = λ j l. x.out.word j (inl (omega (arith, areas-behind m n)));
        rows =
            λ k i j l r q. x.out.word (row_at m k i + j)
            (by_order k n
            (λ e. inl (omega (arith, row_before m k i n r e (omega arith))))
            (λ e. inr (omega (arith, rows-begin m n i, ap (λ (t : ℕ). row_at m t i) e)))
            (λ e. inr (omega (arith, rows-in-area m n, area-apart m n k e (omega arith), row-begins m k i))));
        queue = λ j l. x.out.word j (inr (omega (arith, rows_in m n x.there)));
      }
    where
      m : Module
      m = module_of s

  -- the slots stay
  area-slot : (k : ℕ) → k < (module_of s).slots → (j : ℕ) → j < 16 → get_or v (slot_at (module_of s) k + j) 0 ≡ get_or ws (slot_at (module_of s) k + j) 0
  area-slot k l j q = x.out.word _ (inl (omega (arith, slots-first (module_of s) k n l)))

  area-cell : (k : ℕ) → k < (module_of s).slots → cell_at v (slot_at (module_of s) k) ≡ cell_at ws (slot_at (module_of s) k)
  area-cell k l = cell_at-same v ws _ _ (λ j q. area-slot k l j (omega arith))

  pub area-masks : (facts_in s v).masks ≡ (facts_in s ws).masks
  unfolding facts_in
  area-masks = places_same _ _ _ (λ k l. ap (λ (c : Cell). c.mask) (area-cell k l))

  pub area-flows : (facts_in s v).flows ≡ (facts_in s ws).flows
  unfolding facts_in
  area-flows = places_same _ _ _ (λ k l. ap (λ (c : Cell). c.flow) (area-cell k l))

  pub area_writes : writes_in s v ≡ writes_in s ws
  unfolding writes_in
  area_writes = places_same _ _ _ (λ k l. ap (λ (w : ℕ). of (w % 65536)) (area-slot k l 15 (omega arith)))

  -- the inputs and the results of the other chunks stay
  area-other : (k : ℕ) → k < length (module_of s).chunks → (k ≡ n → ⊥) → (j : ℕ) → 16 * area_of (module_of s) k ≤ j → j < rows_at (module_of s) k
      → get_or v j 0 ≡ get_or ws j 0
  area-other k l d j a b =
      x.out.word j
      (by_order k n
      (λ e. inl (omega (arith, rows-in-area (module_of s) k, area-apart (module_of s) k n e (omega arith))))
      (λ e. absurd (d e))
      (λ e. inr (omega (arith, rows-in-area (module_of s) n, area-apart (module_of s) n k e (omega arith)))))

  pub area-inputs : (k : ℕ) → k < length (module_of s).chunks → (k ≡ n → ⊥)
      → cells_at v (input_at (module_of s) k 0) (length (chunk_no (module_of s) k).params) ≡ cells_at ws (input_at (module_of s) k 0) (length (chunk_no (module_of s) k).params)
  unfolding input_at rows_at
  area-inputs k l d = cells_at-same v ws _ _ _ (λ j q. area-other k l d _ (omega arith) (omega arith))

  pub area-result : (k : ℕ) → k < length (module_of s).chunks → (k ≡ n → ⊥)
      → cell_at v (result_at (module_of s) k) ≡ cell_at ws (result_at (module_of s) k)
  area-result k l d =
      cell_at-same v ws _ _ (λ j q. area-other k l d _ (omega (arith, result-begins (module_of s) k)) (omega (arith, result-next (module_of s) k)))

-- ---- a write to the cell of the slot k
module _ (s ws v : List ℕ) (k : ℕ) (h : k < (module_of s).slots) (o : Outside (slot_at (module_of s) k) (slot_at (module_of s) k + 16) ws v) where
  -- the words from the first area on stay, and those of the other slots
  slot-behind : (n j : ℕ) → 16 * area_of (module_of s) n ≤ j → get_or v j 0 ≡ get_or ws j 0
  slot-behind n j l = o.word j (inr (omega (arith, slots-first (module_of s) k n h)))

  pub slot-word : (n : ℕ) → (n ≡ k → ⊥) → (j : ℕ) → j < 16 → get_or v (slot_at (module_of s) n + j) 0 ≡ get_or ws (slot_at (module_of s) n + j) 0
  slot-word n d j l =
      o.word _
      (by_order n k
      (λ e. inl (omega (arith, slots_apart (module_of s) n k e)))
      (λ e. absurd (d e))
      (λ e. inr (omega (arith, slots_apart (module_of s) k n e))))

  pub slot-cell : (n : ℕ) → (n ≡ k → ⊥) → cell_at v (slot_at (module_of s) n) ≡ cell_at ws (slot_at (module_of s) n)
  slot-cell n d = cell_at-same v ws _ _ (λ j l. slot-word n d j (omega arith))

  pub slot-only : get_or v (slot_at (module_of s) k + 15) 0 / 65536 ≡ get_or ws (slot_at (module_of s) k + 15) 0 / 65536 → FactsOnly s ws v
  slot-only mark =
      record {
        steady =
            record {
              kept =
                  record {
                    long = o.length;
                    numbers = λ n j l i d. o.word _ (inl (omega (arith, numbers-first m n k l)));
                    fields = λ n i l j. slot-behind n _ (omega (arith, row-begins m n i));
                    marks =
                        λ n l. by_order n k
                        (λ e. ap (λ (w : ℕ). w / 65536) (slot-word n (λ q. omega arith) 15 (omega arith)))
                        (λ e. rw e mark)
                        (λ e. ap (λ (w : ℕ). w / 65536) (slot-word n (λ q. omega arith) 15 (omega arith)));
                  };
              suspends = λ n l. o.word _ (inl (omega (arith, numbers-first m n k l)));
            };
        front = λ j l. o.word j (inl (omega (arith, slots-behind m k)));
        rows = λ n i j l r q. slot-behind n _ (omega (arith, row-begins m n i));
        queue = λ j l. o.word j (inr (omega (arith, slots-in m k h)));
      }
    where
      m : Module
      m = module_of s

  pub slot-inputs : (facts_in s v).inputs ≡ (facts_in s ws).inputs
  unfolding facts_in
  slot-inputs = places_same _ _ _ (λ n l. cells_at-same v ws _ _ _ (λ j q. slot-behind n _ (omega (arith, inputs-begin (module_of s) n 0))))

  pub slot-results : (facts_in s v).results ≡ (facts_in s ws).results
  unfolding facts_in
  slot-results = places_same _ _ _ (λ n l. cell_at-same v ws _ _ (λ j q. slot-behind n _ (omega (arith, result-begins (module_of s) n))))
