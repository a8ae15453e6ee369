-- The end of a round, slot by slot: the writes go into the private masks.
use Prim.Native.Nat.{ℕ, zero, suc, ◌+◌, ◌-◌, ◌/◌, ◌%◌, ◌<◌, ◌≤◌}
use native.Mathlib.Omega.{arith}
use mathlib.Core.Path.{◌≡◌, refl, sym, ap, ap₂, ◌∙◌}
use mathlib.Core.Bool.{Bool, true, false, not, ◌&&◌, ◌||◌}
use mathlib.Core.List.{List, [], ◌∷◌, map}
use mathlib.Core.Logic.{inl, inr}
use lib.ListN.{length, get_or}
use borrow.Author.Count.{below_more}
use Rattle.masks.specs.declared.Mask.{Mask}
use Rattle.masks.specs.Mask.{of, union, same}
use Rattle.masks.specs.Names.{NONE}
use Rattle.cells.specs.declared.Cell.{Cell}
use Rattle.words.specs.Layout.{cell_at, decode, extent_of, owned_of, origin_of, predicate_of}
use Rattle.words.proofs.Cells.{off-is}
use Rattle.words.specs.Rows.{Outside}
use Rattle.words.proofs.RowLaws.{outside_trans, outside-widen}
use Rattle.definition.specs.Module.{row, module_of}
use Rattle.definition.specs.Leaves.{union_masks, same_masks, opened, closed, moved}
use Rattle.layout.specs.Layout.{slot_at}
use Rattle.visit.specs.Held.{facts_in, writes_in, live_in}
use Rattle.run_state.specs.Course.{FactsOnly}
use Rattle.fact_join.proofs.Lists.{places_same}
use Rattle.fact_join.proofs.Frames.{facts-refl, facts-trans, either, live-eq, slot-word, slot-cell, slot-only, slot-inputs, slot-results}
use Rattle.fact_join.proofs.Slots.{low-above, low_below, low-out, mask_low}
use Rattle.fact_join.specs.Taken.{Merged, writes_at, mark_at, with_low}

-- ---- the words
-- a flow is no part of the mask's bits
decode-flow : (g h : ℕ → ℕ) → g 0 / 65536 ≡ h 0 / 65536 → ((k : ℕ) → 0 < k → k < 15 → g k ≡ h k) → (decode g).flow ≡ (decode h).flow
unfolding decode
decode-flow g h e0 e =
    let e14 = e 14 (omega arith) (omega arith) in
    let t2 = three 2 (omega arith) (omega arith) in
    let t5 = three 5 (omega arith) (omega arith) in
    let t8 = three 8 (omega arith) (omega arith) in
    let t11 = three 11 (omega arith) (omega arith) in
    λ i. record {
      bodies = t2 i ∷ t5 i ∷ t8 i ∷ t11 i ∷ [];
      owned = owned_of (e0 i / 4 % 4);
      origin = origin_of (e0 i / 64 % 2) (e14 i % 65536);
      predicate = predicate_of (e0 i / 16 % 4) (e14 i / 65536);
    }
  where
    three : (k : ℕ) → 0 < k → suc (suc k) < 15 → extent_of (g k) (g (suc k)) (g (suc (suc k))) ≡ extent_of (h k) (h (suc k)) (h (suc (suc k)))
    three k p l = λ i. extent_of (e k p (omega arith) i) (e (suc k) (omega arith) (omega arith) i) (e (suc (suc k)) (omega arith) l i)

-- the low halves of a cell's first word and of its last are put anew
module _ (ws v u : List ℕ) (at : ℕ) (k : Mask) (room : at + 16 ≤ length ws) (small : k.bits < 65536) (d : v ≡ with_low ws at k.bits)
    (e : u ≡ with_low v (at + 15) 0) where
  first_out : Outside at (at + 1) ws v
  first_out = rw d (low-out ws at k.bits (omega arith) small)

  last_out : Outside (at + 15) (at + 15 + 1) v u
  last_out = rw e (low-out v (at + 15) 0 (omega (arith, first_out.length)) (omega arith))

  kept-first : get_or u at 0 ≡ get_or v at 0
  kept-first = last_out.word at (inl (omega arith))

  kept-last : get_or v (at + 15) 0 ≡ get_or ws (at + 15) 0
  kept-last = first_out.word (at + 15) (inr (omega arith))

  merged-mask : (cell_at u at).mask ≡ k
  merged-mask =
      mask_low u at
      ∙ ap of (ap (λ (w : ℕ). w % 65536) kept-first ∙ ap (λ (l : List ℕ). get_or l at 0 % 65536) d ∙ low_below ws at k.bits (omega arith) small)

  first_above : get_or u at 0 / 65536 ≡ get_or ws at 0 / 65536
  first_above =
      ap (λ (w : ℕ). w / 65536) kept-first ∙ ap (λ (l : List ℕ). get_or l at 0 / 65536) d ∙ low-above ws at k.bits (omega arith) small

  merged-flow : (cell_at u at).flow ≡ (cell_at ws at).flow
  unfolding cell_at
  merged-flow =
      decode-flow _ _ first_above
      (λ n p l. ap (λ (j : ℕ). get_or u j 0) (off-is at n)
      ∙ last_out.word (at + n) (inl (omega arith))
      ∙ first_out.word (at + n) (inr (omega arith))
      ∙ sym (ap (λ (j : ℕ). get_or ws j 0) (off-is at n)))

  pub merged-low : (b : Bool) → k ≡ union (cell_at ws at).mask (cell_at ws (at + 15)).mask → b ≡ not (same (cell_at ws at).mask k) → Merged at ws u b
  merged-low b q r =
      record {
        out =
            outside_trans (outside-widen at (at + 16) first_out (omega arith) (omega arith))
            (outside-widen at (at + 16) last_out (omega arith) (omega arith));
        mark =
            ap (λ (l : List ℕ). mark_at l at) e ∙ low-above v (at + 15) 0 (omega (arith, first_out.length)) (omega arith)
            ∙ ap (λ (w : ℕ). w / 65536) kept-last;
        mask = merged-mask ∙ union-is;
        flow = merged-flow;
        writes = ap (λ (l : List ℕ). writes_at l at) e ∙ ap of (low_below v (at + 15) 0 (omega (arith, first_out.length)) (omega arith));
        changed = r ∙ ap (λ (m : Mask). not (same (cell_at ws at).mask m)) union-is;
      }
    where
      union-is : k ≡ union (cell_at ws at).mask (writes_at ws at)
      union-is = q ∙ ap (union (cell_at ws at).mask) (mask_low ws (at + 15))

-- ---- lists of masks, place by place
union-rows : (f g : ℕ → Mask) (i n : ℕ) → union_masks (row f i n) (row g i n) ≡ row (λ j. union (f j) (g j)) i n
unfolding row union_masks
union-rows f g i zero = refl
union-rows f g i (suc n) = ap (λ (l : List Mask). union (f i) (g i) ∷ l) (union-rows f g (suc i) n)

none_rows : (f g : ℕ → Mask) (i n : ℕ) → ((j : ℕ) → i ≤ j → j < i + n → g j ≡ NONE) → row g i n ≡ map (λ m. NONE) (row f i n)
unfolding row
none_rows f g i zero h = refl
none_rows f g i (suc n) h = ap₂ ◌∷◌ (h i (omega arith) (omega arith)) (none_rows f g (suc i) n (λ j a b. h j (omega arith) (omega arith)))

differs-row : (f g : ℕ → Mask) (k n : ℕ) (r b : Bool) → k < n → b ≡ not (same (f k) (g k))
    → (r || b) || not (same_masks (row f (k + 1) (n - (k + 1))) (row g (k + 1) (n - (k + 1)))) ≡ r || not (same_masks (row f k (n - k)) (row g k (n - k)))
unfolding row same_masks
differs-row f g k n r b l e =
    let z : n - k ≡ suc (n - (k + 1)) = omega arith in
    let y : suc k ≡ k + 1 = omega arith in
    rw (e, z, y) (either_way r (same (f k) (g k)) _)
  where
    either_way : (r a d : Bool) → (r || not a) || not d ≡ r || not (a && d)
    either_way true a d = refl
    either_way false true d = refl
    either_way false false d = refl

-- ---- the slots below k are merged
abbrev mask_of : List ℕ → List ℕ → ℕ → Mask
mask_of s ws n = (cell_at ws (slot_at (module_of s) n)).mask

abbrev new_mask : List ℕ → List ℕ → ℕ → Mask
new_mask s ws n = union (cell_at ws (slot_at (module_of s) n)).mask (writes_at ws (slot_at (module_of s) n))

pub record Merging (s ws v : List ℕ) (k : ℕ) (changed r : Bool) : Type 0 where
  pub frame : FactsOnly s ws v
  pub inputs : (facts_in s v).inputs ≡ (facts_in s ws).inputs
  pub results : (facts_in s v).results ≡ (facts_in s ws).results
  pub flows : (n : ℕ) → (cell_at v (slot_at (module_of s) n)).flow ≡ (cell_at ws (slot_at (module_of s) n)).flow
  pub masks : (n : ℕ) → n < k → (cell_at v (slot_at (module_of s) n)).mask ≡ new_mask s ws n
  pub writes : (n : ℕ) → n < k → writes_at v (slot_at (module_of s) n) ≡ of 0
  -- the slots from k on are as they were, and say with r whether the facts moved
  pub ahead : (n : ℕ) → k ≤ n → cell_at v (slot_at (module_of s) n) ≡ cell_at ws (slot_at (module_of s) n)
  pub unmerged : (n : ℕ) → k ≤ n → writes_at v (slot_at (module_of s) n) ≡ writes_at ws (slot_at (module_of s) n)
  pub rest : r || not (same_masks (row (mask_of s ws) k ((module_of s).slots - k)) (row (new_mask s ws) k ((module_of s).slots - k))) ≡ moved (live_in s ws changed)

-- all of them
new-masks : (s ws : List ℕ) (changed : Bool) → row (new_mask s ws) 0 (module_of s).slots ≡ (closed (live_in s ws changed)).masks
unfolding closed live_in facts_in writes_in
new-masks s ws changed = sym (union-rows (mask_of s ws) (λ n. writes_at ws (slot_at (module_of s) n)) 0 (module_of s).slots)

pub merging-none : (s ws : List ℕ) (changed : Bool) → Merging s ws ws 0 changed changed
unfolding moved closed live_in facts_in writes_in
merging-none s ws changed =
    record {
      frame = facts-refl s ws;
      inputs = refl;
      results = refl;
      flows = λ n. refl;
      masks = λ n l. absurd (omega arith);
      writes = λ n l. absurd (omega arith);
      ahead = λ n l. refl;
      unmerged = λ n l. refl;
      rest =
          let z : (module_of s).slots - 0 ≡ (module_of s).slots = omega arith in
          rw z (ap (λ (l : List Mask). changed || not (same_masks (row (mask_of s ws) 0 (module_of s).slots) l)) (new-masks s ws changed));
    }

pub merging-more : (s ws v u : List ℕ) (k : ℕ) (changed r b : Bool) → k < (module_of s).slots → Merging s ws v k changed r
    → Merged (slot_at (module_of s) k) v u b → Merging s ws u (k + 1) changed (r || b)
merging-more s ws v u k changed r b h x y =
    record {
      frame = facts-trans s ws v u x.frame (slot-only s v u k h y.out y.mark);
      inputs = slot-inputs s v u k h y.out ∙ x.inputs;
      results = slot-results s v u k h y.out ∙ x.results;
      flows = λ n. either n k (λ d. ap (λ (c : Cell). c.flow) (same-cell n d)) (λ e. rw e y.flow) ∙ x.flows n;
      masks = below_more _ k (λ n l. ap (λ (c : Cell). c.mask) (same-cell n (λ e. omega arith)) ∙ x.masks n l) (y.mask ∙ now-new);
      writes = below_more _ k (λ n l. same_writes n (λ e. omega arith) ∙ x.writes n l) y.writes;
      ahead = λ n l. same-cell n (λ e. omega arith) ∙ x.ahead n (omega arith);
      unmerged = λ n l. same_writes n (λ e. omega arith) ∙ x.unmerged n (omega arith);
      rest = differs-row (mask_of s ws) (new_mask s ws) k (module_of s).slots r b h (y.changed ∙ ap₂ (λ (p q : Mask). not (same p q)) now-mask now-new) ∙ x.rest;
    }
  where
    same-cell : (n : ℕ) → (n ≡ k → ⊥) → cell_at u (slot_at (module_of s) n) ≡ cell_at v (slot_at (module_of s) n)
    same-cell n d = slot-cell s v u k h y.out n d

    same_writes : (n : ℕ) → (n ≡ k → ⊥) → writes_at u (slot_at (module_of s) n) ≡ writes_at v (slot_at (module_of s) n)
    same_writes n d = ap (λ (w : ℕ). of (w % 65536)) (slot-word s v u k h y.out n d 15 (omega arith))

    now-mask : mask_of s v k ≡ mask_of s ws k
    now-mask = ap (λ (c : Cell). c.mask) (x.ahead k (omega arith))

    now-new : new_mask s v k ≡ new_mask s ws k
    now-new = ap₂ union now-mask (x.unmerged k (omega arith))

-- all are
module _ (s ws v : List ℕ) (changed r : Bool) (x : Merging s ws v (module_of s).slots changed r) where
  pub merging-answer : r ≡ moved (live_in s ws changed)
  unfolding row same_masks
  merging-answer =
      let z : (module_of s).slots - (module_of s).slots ≡ 0 = omega arith in
      or-false r ∙ (rw z at x.rest)
    where
      or-false : (a : Bool) → a ≡ a || false
      or-false true = refl
      or-false false = refl

  all-merged : (facts_in s v).masks ≡ (closed (live_in s ws changed)).masks
  unfolding facts_in
  all-merged = places_same (new_mask s ws) (mask_of s v) (module_of s).slots x.masks ∙ new-masks s ws changed

  none_written : writes_in s v ≡ (opened (closed (live_in s ws changed))).writes
  unfolding writes_in opened
  none_written =
      none_rows (new_mask s ws) (λ n. writes_at v (slot_at (module_of s) n)) 0 (module_of s).slots (λ n a l. x.writes n (omega arith))
      ∙ ap (map (λ m. NONE)) (new-masks s ws changed)

  pub merging-facts : live_in s v false ≡ opened (closed (live_in s ws changed))
  unfolding live_in opened closed facts_in
  merging-facts =
      live-eq _ _ x.inputs x.results all-merged (places_same _ _ _ (λ n l. x.flows n)) none_written refl
