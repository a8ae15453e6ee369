-- Writes to one slot: of its words, and taken into the facts.
use Prim.Native.Nat.{ℕ, suc, ◌+◌, ◌*◌, ◌-◌, ◌/◌, ◌%◌, ◌<◌, ◌≤◌}
use native.Mathlib.Omega.{arith}
use mathlib.Core.Path.{◌≡◌, refl, ap, ap₂, ◌∙◌}
use mathlib.Core.Bool.{Bool, true, false, ◌||◌}
use mathlib.Core.List.{List}
use mathlib.Core.Logic.{inl, inr}
use lib.Dec.{leb}
use lib.ListN.{length, get_or}
use lib.Seq.{get_or-set_same}
use Rattle.masks.specs.declared.Mask.{Mask}
use Rattle.masks.specs.Mask.{of, union}
use Rattle.masks.specs.Names.{NONE}
use Rattle.flows.specs.declared.Flow.{Flow}
use Rattle.flows.specs.declared.JoinedFlow.{JoinedFlow}
use Rattle.flows.specs.Flow.{join_flow, same_flow, joined_flow, no_flow}
use Rattle.cells.specs.declared.Cell.{Cell}
use Rattle.words.specs.Layout.{cell_at, decode, put_cell, Storable}
use Rattle.words.proofs.Laws.{cell_at-put}
use Rattle.words.specs.Rows.{Outside}
use Rattle.words.proofs.RowLaws.{outside-widen, outside-put, outside_set, cell_at-outside}
use Rattle.description.specs.declared.Instr.{Instr}
use Rattle.ops.specs.declared.Data.{Data}
use Rattle.definition.specs.Module.{row, module_of}
use Rattle.definition.specs.State.{Live}
use Rattle.definition.specs.Data.{is_body, slot_count, slots_from}
use Rattle.definition.specs.Leaves.{stored_flow, with_flows, write_flow, write_mask, write_slot, write_slots}
use Rattle.layout.specs.Layout.{slot_at}
use Rattle.visit.specs.Held.{facts_in, writes_in, live_in}
use Rattle.fact_join.proofs.Lists.{places_same, places-joined, places-moved}
use Rattle.fact_join.proofs.Frames.{facts-refl, facts-trans, either, live-eq, slot-word, slot-cell, slot-only, slot-inputs, slot-results}
use Rattle.fact_join.specs.Taken.{FactsAfter, Written, Flowed, writes_at, with_low}

-- ---- the words
-- the low half of a word is put anew
module _ (ws : List ℕ) (at low : ℕ) (room : at < length ws) (small : low < 65536) where
  low_word : get_or (with_low ws at low) at 0 ≡ get_or ws at 0 / 65536 * 65536 + low
  unfolding with_low
  low_word = get_or-set_same ws at _ 0 room

  pub low-above : get_or (with_low ws at low) at 0 / 65536 ≡ get_or ws at 0 / 65536
  low-above = omega (arith, low_word)

  pub low_below : get_or (with_low ws at low) at 0 % 65536 ≡ low
  low_below = omega (arith, low_word)

  pub low-out : Outside at (at + 1) ws (with_low ws at low)
  unfolding with_low
  low-out = outside_set ws at _

-- a mask is the low half of the first word
pub mask_low : (ws : List ℕ) (at : ℕ) → (cell_at ws at).mask ≡ of (get_or ws at 0 % 65536)
unfolding cell_at decode
mask_low ws at = refl

-- the writes stand below the mark
pub written_low : (ws v : List ℕ) (at : ℕ) (k u : Mask) → at + 16 ≤ length ws → u ≡ union (cell_at ws (at + 15)).mask k → u.bits < 65536
    → v ≡ with_low ws (at + 15) u.bits → Written at k ws v
written_low ws v at k u l q f e =
    rw e
    (record {
      out = outside-widen (at + 15) (at + 16) (low-out ws (at + 15) u.bits (omega arith) f) (omega arith) (omega arith);
      mark = low-above ws (at + 15) u.bits (omega arith) f;
      writes = ap of (low_below ws (at + 15) u.bits (omega arith) f) ∙ q ∙ ap (λ (m : Mask). union m k) (mask_low ws (at + 15));
    })

pub flowed-put : (ws v : List ℕ) (at : ℕ) (f : Flow) (c : Cell) (j : JoinedFlow) → at + 16 ≤ length ws
    → j ≡ joined_flow (cell_at ws at).flow (stored_flow f) → c.mask ≡ (cell_at ws at).mask → c.flow ≡ j.flow → v ≡ put_cell ws at c → Storable c
    → Flowed at f ws v j.changed
flowed-put ws v at f c j l q k w e fit =
    record {
      out = rw e (outside-put ws at c);
      mask = ap (λ (x : Cell). x.mask) stored ∙ k;
      flow = ap (λ (x : Cell). x.flow) stored ∙ w ∙ ap (λ (x : JoinedFlow). x.flow) q;
      changed = ap (λ (x : JoinedFlow). x.changed) q;
    }
  where
    stored : cell_at v at ≡ c
    stored = ap (λ (x : List ℕ). cell_at x at) e ∙ cell_at-put ws at c (omega arith) fit

-- ---- the facts take them in: kinds written to the slot k
module _ (s ws v : List ℕ) (k : ℕ) (c : Cell) (changed : Bool) (h : k < (module_of s).slots)
    (x : Written (slot_at (module_of s) k) c.mask ws v) where
  written_in : Outside (slot_at (module_of s) k) (slot_at (module_of s) k + 16) ws v
  written_in = outside-widen (slot_at (module_of s) k) (slot_at (module_of s) k + 16) x.out (omega arith) (omega arith)

  written-cell : (n : ℕ) → cell_at v (slot_at (module_of s) n) ≡ cell_at ws (slot_at (module_of s) n)
  written-cell n = either n k (λ d. slot-cell s ws v k h written_in n d) (λ e. rw e (cell_at-outside x.out _ (inl (omega arith))))

  pub mask-taken : FactsAfter s ws v changed (write_mask (live_in s ws changed) k c)
  unfolding live_in facts_in writes_in write_mask
  mask-taken =
      record {
        frame = slot-only s ws v k h written_in x.mark;
        live =
            live-eq _ _ (slot-inputs s ws v k h written_in) (slot-results s ws v k h written_in)
            (places_same _ _ _ (λ n l. ap (λ (y : Cell). y.mask) (written-cell n)))
            (places_same _ _ _ (λ n l. ap (λ (y : Cell). y.flow) (written-cell n)))
            (places-joined (λ n. writes_at ws (slot_at (module_of s) n)) _ k h union NONE c.mask (λ n. writes_at v (slot_at (module_of s) n))
            (λ n l d. ap (λ (w : ℕ). of (w % 65536)) (slot-word s ws v k h written_in n d 15 (omega arith)))
            x.writes)
            refl;
      }

-- a flow joined into that of the slot k
module _ (s ws v : List ℕ) (k : ℕ) (c : Cell) (changed b : Bool) (h : k < (module_of s).slots)
    (x : Flowed (slot_at (module_of s) k) c.flow ws v b) where
  flowed-in : Outside (slot_at (module_of s) k) (slot_at (module_of s) k + 16) ws v
  flowed-in = outside-widen (slot_at (module_of s) k) (slot_at (module_of s) k + 16) x.out (omega arith) (omega arith)

  flowed-last : (n : ℕ) → get_or v (slot_at (module_of s) n + 15) 0 ≡ get_or ws (slot_at (module_of s) n + 15) 0
  flowed-last n =
      either n k (λ d. slot-word s ws v k h flowed-in n d 15 (omega arith)) (λ e. rw e (x.out.word _ (inr (omega arith))))

  flowed-mask : (n : ℕ) → (cell_at v (slot_at (module_of s) n)).mask ≡ (cell_at ws (slot_at (module_of s) n)).mask
  flowed-mask n = either n k (λ d. ap (λ (y : Cell). y.mask) (slot-cell s ws v k h flowed-in n d)) (λ e. rw e x.mask)

  pub flow-taken : FactsAfter s ws v (changed || b) (write_flow (live_in s ws changed) k c)
  unfolding live_in facts_in writes_in write_flow with_flows
  flow-taken =
      record {
        frame = slot-only s ws v k h flowed-in (ap (λ (w : ℕ). w / 65536) (flowed-last k));
        live =
            live-eq _ _ (slot-inputs s ws v k h flowed-in) (slot-results s ws v k h flowed-in)
            (places_same _ _ _ (λ n l. flowed-mask n))
            (places-joined _ _ k h join_flow no_flow (stored_flow c.flow) _ (λ n l d. ap (λ (y : Cell). y.flow) (slot-cell s ws v k h flowed-in n d)) x.flow)
            (places_same _ _ _ (λ n l. ap (λ (w : ℕ). of (w % 65536)) (flowed-last n)))
            (ap (λ (r : Bool). changed || r) (x.changed ∙ places-moved _ _ k h join_flow no_flow (stored_flow c.flow) same_flow));
      }

-- ---- one slot: a body's, another private one's, a shared one's
module _ (s ws : List ℕ) (k : ℕ) (c : Cell) (changed : Bool) where
  pub body-taken : (v u : List ℕ) (b : Bool) → k < (module_of s).slots → is_body (module_of s) k ≡ true → Written (slot_at (module_of s) k) c.mask ws v
      → Flowed (slot_at (module_of s) k) c.flow v u b → FactsAfter s ws u (changed || b) (write_slot (module_of s) (live_in s ws changed) k c)
  unfolding write_slot
  body-taken v u b h p x y =
      let a = mask-taken s ws v k c changed h x in
      let d = flow-taken s v u k c changed b h y in
      record {
        frame = facts-trans s ws v u a.frame d.frame;
        live = d.live ∙ ap (λ (f : Live). write_flow f k c) a.live ∙ rw p;
      }

  pub private-taken : (v : List ℕ) → k < (module_of s).slots → is_body (module_of s) k ≡ false → leb (length (module_of s).shared) k ≡ true
      → Written (slot_at (module_of s) k) c.mask ws v → FactsAfter s ws v changed (write_slot (module_of s) (live_in s ws changed) k c)
  unfolding write_slot
  private-taken v h p q x = let a = mask-taken s ws v k c changed h x in record { frame = a.frame; live = a.live ∙ rw (p, q) }

  pub shared-taken : is_body (module_of s) k ≡ false → leb (length (module_of s).shared) k ≡ false
      → FactsAfter s ws ws changed (write_slot (module_of s) (live_in s ws changed) k c)
  unfolding write_slot
  shared-taken p q = record { frame = facts-refl s ws; live = rw (p, q) }

-- ---- the slots k to e, less e itself
module _ (s ws : List ℕ) (k e : ℕ) (c : Cell) (a : Bool) (x : Live) (h : write_slots (module_of s) (live_in s ws a) (row (λ j. j) k (e - k)) c ≡ x) where
  pub writes-turn : (v : List ℕ) (r : Bool) → k < e → FactsAfter s ws v r (write_slot (module_of s) (live_in s ws a) k c)
      → write_slots (module_of s) (live_in s v r) (row (λ j. j) (k + 1) (e - (k + 1))) c ≡ x
  unfolding write_slots row
  writes-turn v r l y =
      let n : e - k ≡ suc (e - (k + 1)) = omega arith in
      let z : k + 1 ≡ suc k = omega arith in
      rw (z, y.live) (rw (n, z) at h)

  pub writes_end : e ≤ k → live_in s ws a ≡ x
  unfolding write_slots row
  writes_end l = let n : e - k ≡ 0 = omega arith in rw n at h

-- the slots that an instruction names
pub slots-listed : (i : Instr) (d : Data) (first end : ℕ) → first ≡ i.a → end ≡ i.a + slot_count i d → row (λ j. j) first (end - first) ≡ slots_from i d
unfolding slots_from
slots-listed i d first end p q =
    let n : end - first ≡ slot_count i d = omega arith in
    ap₂ (λ (a m : ℕ). row (λ j. j) a m) p n
