-- The slots from k up to e, one by one, and what stands in the cell of a slot.
use Prim.Native.Nat.{ℕ, suc, ◌+◌, ◌-◌, ◌<◌, ◌≤◌}
use native.Mathlib.Omega.{arith}
use native.Mathlib.Numerals.{add-one}
use mathlib.Core.Path.{◌≡◌, refl, sym, ap, ◌∙◌}
use mathlib.Core.Bool.{false, ◌||◌}
use mathlib.Core.List.{List, [], ◌∷◌}
use borrow.Author.Tests.{lt-ltb, le-ltb}
use lib.ListN.{length, get_or, get_or-eq_default}
use Rattle.masks.specs.declared.Mask.{Mask}
use Rattle.masks.specs.Mask.{union}
use Rattle.masks.specs.Names.{UNKNOWN}
use Rattle.widths.specs.declared.Width.{Width}
use Rattle.widths.specs.Width.{join_width}
use Rattle.flows.specs.declared.Flow.{Flow}
use Rattle.flows.specs.Flow.{no_flow, join_flow}
use Rattle.words.specs.Layout.{cell_at}
use Rattle.definition.specs.declared.Check.{Check}
use Rattle.definition.specs.Module.{Module, row, module_of}
use Rattle.definition.specs.State.{Facts}
use Rattle.definition.specs.Data.{is_body, any_body, shared_mask, slot, data_width, kinds_in, width_in, flow_in, slot_allows}
use Rattle.definition.specs.Wants.{require, meet, write_check}
use Rattle.form_laws.proofs.Each.{row-length, row-at}
use Rattle.layout.specs.Layout.{slot_at}
use Rattle.visit.specs.Held.{facts_in}
use Rattle.visit.specs.declared.slot_range.Slots.{Slots}
use Rattle.visit.specs.Slots.{list_of}

-- a list built element by element, up to e
module _ {A : Type 0} (f : ℕ → A) (k e : ℕ) where
  pub row-turn : k < e → row f k (e - k) ≡ f k ∷ row f (k + 1) (e - (k + 1))
  unfolding row
  row-turn h =
      let n : e - k ≡ suc (e - (k + 1)) = omega arith in
      ap (row f k) n ∙ ap (λ (i : ℕ). f k ∷ row f i (e - (k + 1))) (sym (add-one k))

  pub row-end : e ≤ k → row f k (e - k) ≡ []
  unfolding row
  row-end h = let n : e - k ≡ 0 = omega arith in ap (row f k) n

unfoldable pub from : ℕ → ℕ → List ℕ
from k e = row (λ n. n) k (e - k)

pub from_first : (r : Slots) → from r.first r.end ≡ list_of r
unfolding from list_of
from_first r = refl

pub from-turn : (k e : ℕ) → k < e → from k e ≡ k ∷ from (k + 1) e
unfolding from
from-turn k e h = row-turn (λ n. n) k e h

pub from_end : (k e : ℕ) → e ≤ k → from k e ≡ []
unfolding from
from_end k e h = row-end (λ n. n) k e h

-- a walk: the rest of it, from k on, gives the whole
module _ (m : Module) (k e : ℕ) (h : k < e) where
  pub any-turn : any_body m (from k e) ≡ is_body m k || any_body m (from (k + 1) e)
  unfolding any_body
  any-turn = ap (any_body m) (from-turn k e h)

  module _ (f : Facts) where
    pub kinds-turn : (so : Mask) → kinds_in m f so (from k e) ≡ kinds_in m f (union so (slot m f k)) (from (k + 1) e)
    unfolding kinds_in
    kinds-turn so = ap (kinds_in m f so) (from-turn k e h)

    pub width-turn : (so : Width) → width_in m f so (from k e) ≡ width_in m f (join_width so (data_width m f k)) (from (k + 1) e)
    unfolding width_in
    width-turn so = ap (width_in m f so) (from-turn k e h)

    pub flow-turn : (so : Flow) → flow_in f so (from k e) ≡ flow_in f (join_flow so (get_or f.flows k no_flow)) (from (k + 1) e)
    unfolding flow_in
    flow-turn so = ap (flow_in f so) (from-turn k e h)

    pub write-turn : (x : Mask) (so : Check)
        → write_check m f x so (from k e) ≡ write_check m f x (meet so (require x (slot_allows m f k))) (from (k + 1) e)
    unfolding write_check
    write-turn x so = ap (write_check m f x so) (from-turn k e h)

module _ (m : Module) (k e : ℕ) (h : e ≤ k) where
  pub any-end : any_body m (from k e) ≡ false
  unfolding any_body
  any-end = ap (any_body m) (from_end k e h)

  module _ (f : Facts) where
    pub kinds-end : (so : Mask) → kinds_in m f so (from k e) ≡ so
    unfolding kinds_in
    kinds-end so = ap (kinds_in m f so) (from_end k e h)

    pub width-end : (so : Width) → width_in m f so (from k e) ≡ so
    unfolding width_in
    width-end so = ap (width_in m f so) (from_end k e h)

    pub flow-end : (so : Flow) → flow_in f so (from k e) ≡ so
    unfolding flow_in
    flow-end so = ap (flow_in f so) (from_end k e h)

    pub write-end : (x : Mask) (so : Check) → write_check m f x so (from k e) ≡ so
    unfolding write_check
    write-end x so = ap (write_check m f x so) (from_end k e h)

-- the cell of a slot: its mask, if it is private, and its flow
module _ (s ws : List ℕ) (n : ℕ) where
  pub flow-here : n < (module_of s).slots → get_or (facts_in s ws).flows n no_flow ≡ (cell_at ws (slot_at (module_of s) n)).flow
  unfolding facts_in
  flow-here h =
      row-at (λ (k : ℕ). (cell_at ws (slot_at (module_of s) k)).flow) no_flow 0 (module_of s).slots n h
      ∙ ap (λ (k : ℕ). (cell_at ws (slot_at (module_of s) k)).flow) (omega arith)

  pub slot-shared : n < length (module_of s).shared → slot (module_of s) (facts_in s ws) n ≡ shared_mask (get_or (module_of s).shared n 0)
  unfolding slot
  slot-shared h = rw (lt-ltb n (length (module_of s).shared) h) refl

  pub slot-private : length (module_of s).shared ≤ n → n < (module_of s).slots
      → slot (module_of s) (facts_in s ws) n ≡ (cell_at ws (slot_at (module_of s) n)).mask
  unfolding slot facts_in
  slot-private h l =
      rw (le-ltb n (length (module_of s).shared) h)
      (row-at (λ (k : ℕ). (cell_at ws (slot_at (module_of s) k)).mask) UNKNOWN 0 (module_of s).slots n l
      ∙ ap (λ (k : ℕ). (cell_at ws (slot_at (module_of s) k)).mask) (omega arith))

  pub slot-past : length (module_of s).shared ≤ n → (module_of s).slots ≤ n → slot (module_of s) (facts_in s ws) n ≡ UNKNOWN
  unfolding slot facts_in
  slot-past h l =
      rw (le-ltb n (length (module_of s).shared) h)
      (get_or-eq_default (row (λ (k : ℕ). (cell_at ws (slot_at (module_of s) k)).mask) 0 (module_of s).slots) UNKNOWN {n = n}
      (rw (row-length (λ (k : ℕ). (cell_at ws (slot_at (module_of s) k)).mask) 0 (module_of s).slots) l))
