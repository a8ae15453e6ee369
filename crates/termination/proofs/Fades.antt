-- A gift leaves no more changes of the facts; a round that moved them leaves fewer.
use Prim.Native.Nat.{ℕ, zero, suc, ◌+◌, ◌<◌, ◌≤◌}
use native.Mathlib.Omega.{arith}
use mathlib.Core.Path.{◌≡◌, refl, sym, ap, ap₂, ◌∙◌, subst}
use mathlib.Core.Bool.{Bool, true, false, cond, not, ◌||◌, true≢false}
use mathlib.Core.List.{List, [], ◌∷◌, map}
use lib.Bits.{or_zero_r}
use lib.Dec.{ltb, leb}
use lib.ListN.{length, get_or, set, length-set, get_or-eq_default}
use borrow.Author.Tests.{ltb-true, ltb-false}
use Rattle.masks.proofs.Both.{both, never}
use Rattle.masks.specs.declared.Mask.{Mask}
use Rattle.masks.specs.Mask.{of, union, same}
use Rattle.masks.specs.Names.{NONE}
use Rattle.flows.specs.declared.Flow.{Flow}
use Rattle.flows.specs.Flow.{join_flow, same_flow, no_flow}
use Rattle.cells.specs.declared.Cell.{Cell}
use Rattle.cells.specs.Cell.{join_cell, same_cell}
use Rattle.join_laws.proofs.Masks.{union-joins, mask-equals}
use Rattle.machine_laws.proofs.All.{All, nil, cons, all-get}
use Rattle.definition.specs.Module.{Module}
use Rattle.definition.specs.State.{Facts, Live, Gift, nothing, arguments, returned, written, join_cells, same_cells}
use Rattle.definition.specs.Data.{is_body}
use Rattle.definition.specs.Outputs.{no_cell}
use Rattle.definition.specs.Leaves.{join_at, moved_at, stored_flow, with_flows, write_flow, write_mask, write_slot, write_slots, absorb, union_masks, same_masks, opened, closed, moved}
use Rattle.report_laws.proofs.Carried.{LiveHas, cell-none, write-mask, write-has}
use Rattle.termination.specs.Left.{total}
use Rattle.termination.specs.Measure.{mask_left, flow_left, cell_left, facts_left, one_if, changes_left}
use Rattle.termination.proofs.Totals.{total-set, total-past}
use Rattle.termination.proofs.Small.{SmallMask, SmallWidth, SmallFlow, SmallCell, union-small, small-laws}
use Rattle.termination.proofs.Drops.{Drop, drop-same, drop-and, drop-left, drop-right, mask-drop, masks-whole, flow-drop, cell-drop, cells-drop}

-- ---- one place of a list joined; past its end nothing may be new
at_drop : {A : Type 0} (left : A → ℕ) (b : Bool) (xs : List A) (n : ℕ) (d new : A) → Drop b (left new) (left (get_or xs n d)) → (length xs ≤ n → b ≡ true)
    → Drop b (total left (set xs n new)) (total left xs)
at_drop left b xs n d new p past = go (ltb n (length xs)) refl
  where
    go : (t : Bool) → ltb n (length xs) ≡ t → Drop b (total left (set xs n new)) (total left xs)
    go true e =
        let s = total-set left xs n new d (ltb-true n (length xs) e) in
        let m = p.most in
        record { most = omega arith; less = λ h. let l = p.less h in omega arith }
    go false e =
        let l = ltb-false n (length xs) e in
        let s = total-past left xs n new l in
        record { most = omega arith; less = λ h. absurd (true≢false (sym (past l) ∙ h)) }

masks-sound : (ms ns : List Mask) → same_masks ms ns ≡ true → ms ≡ ns
unfolding same_masks
masks-sound [] [] h = refl
masks-sound [] (n ∷ ns) h = never h
masks-sound (m ∷ ms) [] h = never h
masks-sound (m ∷ ms) (n ∷ ns) h = let (p, q) = both (same m n) (same_masks ms ns) h in ap₂ (λ a b. a ∷ b) (mask-equals.sound m n p) (masks-sound ms ns q)

-- a mask written to a mask that was written already
mask-more : (m w x : Mask) → SmallMask m → SmallMask w → SmallMask x
    → Drop (same (union m w) (union m (union w x))) (mask_left (union m (union w x))) (mask_left (union m w))
mask-more m w x p r q =
    subst (λ (z : Mask). Drop (same (union m w) z) (mask_left z) (mask_left (union m w))) (union-joins.assoc m w x) (mask-drop (union m w) x (union-small m w p r) q)

-- what a round would close its masks to, after one more write
write-drop : {ms ws : List Mask} (n : ℕ) (x : Mask) → SmallMask x → All SmallMask ms → All SmallMask ws
    → Drop (same_masks (union_masks ms ws) (union_masks ms (set ws n (union (get_or ws n NONE) x))))
    (total mask_left (union_masks ms (set ws n (union (get_or ws n NONE) x)))) (total mask_left (union_masks ms ws))
unfolding union_masks total same_masks
write-drop n x q nil b = drop-same refl
write-drop n x q (cons {x = m} {xs = ms} p a) nil = drop-same (masks-whole (m ∷ ms))
write-drop zero x q (cons {x = m} {xs = ms} p a) (cons {x = w} {xs = ws} r b) =
    drop-and (mask-more m w x p r q) (drop-same (masks-whole (union_masks ms ws)))
write-drop (suc n) x q (cons {x = m} p a) (cons {x = w} r b) = drop-and (drop-same (mask-equals.whole (union m w))) (write-drop n x q a b)

masks-none : (ms : List Mask) → union_masks ms (map (λ m. NONE) ms) ≡ ms
unfolding union_masks
masks-none [] = refl
masks-none (m ∷ ms) = ap₂ (λ a b. a ∷ b) (ap of (or_zero_r m.bits)) (masks-none ms)

below_more : (b c : Bool) {n k : ℕ} → n < k → n + one_if b ≤ k + one_if c
unfolding one_if
below_more true c l = omega arith
below_more false c l = omega arith

or-still : (a : Bool) → (a || false) ≡ a
or-still true = refl
or-still false = refl

-- ---- a write keeps the number of flows, and the results
pub slot-long : (m : Module) (f : Live) (n : ℕ) (c : Cell) → length (write_slot m f n c).known.flows ≡ length f.known.flows
unfolding write_slot write_flow write_mask with_flows join_at
slot-long m f n c = go (is_body m n) (leb (length m.shared) n)
  where
    go : (a b : Bool) → length (cond a (write_flow (write_mask f n c) n c) (cond b (write_mask f n c) f)).known.flows ≡ length f.known.flows
    go true b = length-set f.known.flows n _
    go false true = refl
    go false false = refl

pub slot-results : (m : Module) (f : Live) (n : ℕ) (c : Cell) → (write_slot m f n c).known.results ≡ f.known.results
unfolding write_slot write_flow write_mask with_flows
slot-results m f n c = go (is_body m n) (leb (length m.shared) n)
  where
    go : (a b : Bool) → (cond a (write_flow (write_mask f n c) n c) (cond b (write_mask f n c) f)).known.results ≡ f.known.results
    go true b = refl
    go false true = refl
    go false false = refl

module _ (most : ℕ) where
  -- ---- a round is closed and the next opened
  reopened : (f : Facts) → changes_left most (opened f) ≡ facts_left most f
  unfolding changes_left facts_left one_if closed moved opened
  reopened f = rw (masks-none f.masks, masks-whole f.masks) (omega arith)

  pub round-moves : (f : Live) → moved f ≡ true → changes_left most (opened (closed f)) < changes_left most f
  unfolding changes_left one_if
  round-moves f e = let r = reopened (closed f) in let h : ◌≡◌ {A = ℕ} (one_if (moved f)) (one_if true) = rw e in omega arith

  pub round-stays : (f : Live) → changes_left most (opened (closed f)) ≤ changes_left most f
  unfolding changes_left
  round-stays f = let r = reopened (closed f) in omega arith

  -- ---- a fact joined, with whether it is the same
  calm : (f : Live) (is : List (List Cell)) (rs : List Cell) (ws : List Flow) (b : Bool)
      → Drop b (facts_left most (record { inputs = is; results = rs; masks = union_masks f.known.masks f.writes; flows = ws })) (facts_left most (closed f))
      → changes_left most (record { known = record { inputs = is; results = rs; masks = f.known.masks; flows = ws }; writes = f.writes; changed = f.changed || not b })
      ≤ changes_left most f
  unfolding changes_left closed moved
  calm f is rs ws true p = rw (or-still f.changed) (let l = p.most in omega arith)
  calm f is rs ws false p = below_more _ _ (p.less refl)

  calm-mask : (f : Live) (us : List Mask) (b : Bool) → same_masks (union_masks f.known.masks f.writes) (union_masks f.known.masks us) ≡ b
      → Drop b (total mask_left (union_masks f.known.masks us)) (total mask_left (union_masks f.known.masks f.writes))
      → changes_left most (record { known = f.known; writes = us; changed = f.changed }) ≤ changes_left most f
  unfolding changes_left facts_left closed moved
  calm-mask f us true e p = rw (← masks-sound _ _ e) (omega arith)
  calm-mask f us false e p = let l = p.less refl in below_more _ _ (omega arith)

  -- ---- what a gift leaves: a result and a flow are of places that are there
  abbrev Has : Live → Type 0
  Has = LiveHas (SmallCell most) (SmallFlow most) SmallMask (SmallWidth most)

  abbrev pub Inside : Live → Gift → Type 0
  Inside f nothing = Unit {0}
  Inside f (arguments n cs) = All (SmallCell most) cs
  Inside f (returned n c) = (n < length f.known.results) × SmallCell most c
  Inside f (written ns c) = All (λ n. n < length f.known.flows) ns × SmallCell most c

  mask-fades : (f : Live) (n : ℕ) (c : Cell) → Has f → SmallCell most c → changes_left most (write_mask f n c) ≤ changes_left most f
  unfolding write_mask join_at
  mask-fades f n c p q = calm-mask f _ _ refl (write-drop n c.mask q.mask p.known.masks p.writes)

  module _ (whole : 4294967295 ≤ most) where
    flow-fades : (f : Live) (n : ℕ) (c : Cell) → Has f → SmallCell most c → n < length f.known.flows → changes_left most (write_flow f n c) ≤ changes_left most f
    unfolding write_flow with_flows join_at moved_at facts_left closed
    flow-fades f n c p q l =
        let x : Flow = get_or f.known.flows n no_flow in
        let y : Flow = stored_flow c.flow in
        let laws = small-laws most whole in
        let d : Drop (same_flow x (join_flow x y)) (flow_left most (join_flow x y)) (flow_left most x) =
        flow-drop most x y (all-get (SmallFlow most) n laws.flow-none p.known.flows) (laws.flow-stored c.flow q.flow) in
        calm f f.known.inputs f.known.results _ (same_flow x (join_flow x y))
        (drop-right _ (drop-right _ (drop-right _ (at_drop (flow_left most) _ f.known.flows n no_flow (join_flow x y) d (λ h. absurd (omega arith))))))

    slot-fades : (m : Module) (f : Live) (n : ℕ) (c : Cell) → Has f → SmallCell most c → n < length f.known.flows → changes_left most (write_slot m f n c) ≤ changes_left most f
    unfolding write_slot write_mask
    slot-fades m f n c p q l = go (is_body m n) (leb (length m.shared) n)
      where
        go : (a b : Bool) → changes_left most (cond a (write_flow (write_mask f n c) n c) (cond b (write_mask f n c) f)) ≤ changes_left most f
        go true b =
            let h = write-mask (SmallCell most) (SmallFlow most) SmallMask (SmallWidth most) (small-laws most whole) f n c p q in
            let i = flow-fades (write_mask f n c) n c h q l in
            let j = mask-fades f n c p q in
            omega arith
        go false true = mask-fades f n c p q
        go false false = omega arith

    slots-fade : (m : Module) (f : Live) (ns : List ℕ) (c : Cell) → Has f → SmallCell most c → All (λ n. n < length f.known.flows) ns
        → changes_left most (write_slots m f ns c) ≤ changes_left most f
    unfolding write_slots
    slots-fade m f [] c p q a = omega arith
    slots-fade m f (n ∷ ns) c p q (cons l a) =
        let h = write-has (SmallCell most) (SmallFlow most) SmallMask (SmallWidth most) (small-laws most whole) m f n c p q in
        let i = slots-fade m (write_slot m f n c) ns c h q (rw (slot-long m f n c) a) in
        let j = slot-fades m f n c p q l in
        omega arith

    -- THEOREM: a gift leaves no more
    pub absorb-fades : (m : Module) (f : Live) (g : Gift) → Has f → Inside f g → changes_left most (absorb m f g) ≤ changes_left most f
    unfolding absorb join_at moved_at facts_left closed join_cells same_cells
    absorb-fades m f nothing p q = omega arith
    absorb-fades m f (arguments n cs) p q =
        let x : List Cell = get_or f.known.inputs n [] in
        let d : Drop (same_cells x (join_cells x cs)) (total (cell_left most) (join_cells x cs)) (total (cell_left most) x) =
        cells-drop most (all-get (All (SmallCell most)) n nil p.known.inputs) q in
        calm f _ f.known.results f.known.flows (same_cells x (join_cells x cs))
        (drop-left _ (at_drop (total (cell_left most)) _ f.known.inputs n [] (join_cells x cs) d
        (λ h. ap (λ (l : List Cell). same_cells l (join_cells l cs)) (get_or-eq_default f.known.inputs [] h))))
    absorb-fades m f (returned n c) p (l, q) =
        let x : Cell = get_or f.known.results n no_cell in
        let none = cell-none (SmallCell most) (SmallFlow most) SmallMask (SmallWidth most) (small-laws most whole) in
        let d : Drop (same_cell x (join_cell x c)) (cell_left most (join_cell x c)) (cell_left most x) = cell-drop most x c (all-get (SmallCell most) n none p.known.results) q in
        calm f f.known.inputs _ f.known.flows (same_cell x (join_cell x c))
        (drop-right _ (drop-left _ (at_drop (cell_left most) _ f.known.results n no_cell (join_cell x c) d (λ h. absurd (omega arith)))))
    absorb-fades m f (written ns c) p (a, q) = slots-fade m f ns c p q a
