-- Turns of the two walks over the operands: the operands from the place p on still give the whole answer.
use Prim.Native.Nat.{ℕ, ◌+◌, ◌-◌, ◌<◌, ◌≤◌}
use mathlib.Core.Path.{◌≡◌, refl, sym, ap}
use mathlib.Core.List.{List, [], ◌∷◌}
use Rattle.masks.specs.declared.Mask.{Mask}
use Rattle.masks.specs.Mask.{common, kind}
use Rattle.cells.specs.declared.Cell.{Cell}
use Rattle.packing.specs.declared.Packed.{Packed}
use Rattle.packing.specs.declared.Packed.TheVariants.{Bytes}
use Rattle.packing.specs.Packing.{packed_one, and_then, packed_from, packed_extent}
use Rattle.words.specs.Layout.{cell_at}
use Rattle.words.specs.Rows.{cells_at}
use Rattle.definition.specs.Outputs.{common_kinds}
use Rattle.layout.specs.Layout.{place_at}
use Rattle.visit.specs.declared.RowVisit.{RowVisit}
use Rattle.visit.specs.Held.{args_in}
use Rattle.visit.proofs.Args.{cells-turn, cells-end}

-- the operands from the place p on
unfoldable pub rest_in : List ℕ → RowVisit → ℕ → List Cell
rest_in ws v p = cells_at ws (place_at v.row p) (v.height - p)

pub rest_all : (ws : List ℕ) (v : RowVisit) → rest_in ws v v.start ≡ args_in ws v
unfolding rest_in args_in
rest_all ws v = refl

pub rest-turn : (ws : List ℕ) (v : RowVisit) (p : ℕ) → p < v.height → rest_in ws v p ≡ cell_at ws (place_at v.row p) ∷ rest_in ws v (p + 1)
unfolding rest_in
rest-turn ws v p h = cells-turn ws v.row p v.height h

pub rest_end : (ws : List ℕ) (v : RowVisit) (p : ℕ) → v.height ≤ p → rest_in ws v p ≡ []
unfolding rest_in
rest_end ws v p h = cells-end ws (place_at v.row p) p v.height h

-- ---- the kinds in common
pub common-turn : (ws : List ℕ) (v : RowVisit) (p : ℕ) (m : Mask) → p < v.height
    → common_kinds (common m (kind (cell_at ws (place_at v.row p)).mask)) (rest_in ws v (p + 1)) ≡ common_kinds m (rest_in ws v p)
unfolding common_kinds
common-turn ws v p m h = sym (ap (common_kinds m) (rest-turn ws v p h))

pub common-end : (ws : List ℕ) (v : RowVisit) (p : ℕ) (m : Mask) → v.height ≤ p → m ≡ common_kinds m (rest_in ws v p)
unfolding common_kinds
common-end ws v p m h = sym (ap (common_kinds m) (rest_end ws v p h))

-- ---- the packed size
pub packed_all : (ws : List ℕ) (v : RowVisit) (float handle : ℕ) → packed_from (Bytes 0 0) (rest_in ws v v.start) float handle ≡ packed_extent (args_in ws v) float handle
unfolding packed_extent
packed_all ws v float handle = ap (λ (l : List Cell). packed_from (Bytes 0 0) l float handle) (rest_all ws v)

pub packed-turn : (ws : List ℕ) (v : RowVisit) (float handle p : ℕ) (sum : Packed) → p < v.height
    → packed_from (and_then sum (packed_one (cell_at ws (place_at v.row p)) float handle)) (rest_in ws v (p + 1)) float handle ≡ packed_from sum (rest_in ws v p) float handle
packed-turn ws v float handle p sum h = sym (ap (λ (l : List Cell). packed_from sum l float handle) (rest-turn ws v p h))

pub packed-end : (ws : List ℕ) (v : RowVisit) (float handle p : ℕ) (sum : Packed) → v.height ≤ p → sum ≡ packed_from sum (rest_in ws v p) float handle
packed-end ws v float handle p sum h = sym (ap (λ (l : List Cell). packed_from sum l float handle) (rest_end ws v p h))
