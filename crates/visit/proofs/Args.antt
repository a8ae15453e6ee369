-- The operands of a visit, place by place.
use Prim.Native.Nat.{ℕ, suc, ◌+◌, ◌-◌, ◌<◌, ◌≤◌}
use native.Mathlib.Omega.{arith}
use mathlib.Core.Path.{◌≡◌, refl, sym, ap, ◌∙◌}
use mathlib.Core.List.{List, [], ◌∷◌}
use lib.ListN.{get_or, get_or-eq_default}
use Rattle.masks.specs.declared.Mask.{Mask}
use Rattle.cells.specs.Cell.{made}
use Rattle.words.specs.Layout.{cell_at}
use Rattle.words.specs.Rows.{cells_at}
use Rattle.words.proofs.RowLaws.{cells_at-length, cells_at-get_d}
use Rattle.definition.specs.Outputs.{no_cell}
use Rattle.layout.specs.Layout.{place_at}
use Rattle.visit.specs.declared.RowVisit.{RowVisit}
use Rattle.visit.specs.Held.{args_in}

-- the operand k stands at its place
pub operand-there : (ws : List ℕ) (v : RowVisit) (k : ℕ) → v.start + k < v.height → cell_at ws (place_at v.row (v.start + k)) ≡ get_or (args_in ws v) k no_cell
unfolding args_in
operand-there ws v k h =
    ap (cell_at ws) (omega arith)
    ∙ sym (cells_at-get_d ws (place_at v.row v.start) (v.height - v.start) k no_cell (omega arith))

-- past the operands there is none
pub operand-none : (ws : List ℕ) (v : RowVisit) (k : ℕ) → v.height ≤ v.start + k → no_cell ≡ get_or (args_in ws v) k no_cell
unfolding args_in
operand-none ws v k h =
    sym (get_or-eq_default (args_in ws v) no_cell {n = k} (omega (arith, cells_at-length ws (place_at v.row v.start) (v.height - v.start))))

pub none-mask : ◌≡◌ {A = Mask} (record { bits = 0 }) no_cell.mask
unfolding no_cell made
none-mask = refl

-- one place more of a walk over the operands
pub cells-turn : (ws : List ℕ) (row p h : ℕ) → p < h
    → cells_at ws (place_at row p) (h - p) ≡ cell_at ws (place_at row p) ∷ cells_at ws (place_at row (p + 1)) (h - (p + 1))
unfolding cells_at
cells-turn ws row p h l =
    let n : h - p ≡ suc (h - (p + 1)) = omega arith in
    let a : place_at row p + 16 ≡ place_at row (p + 1) = omega arith in
    ap (cells_at ws (place_at row p)) n ∙ ap (λ (q : ℕ). cell_at ws (place_at row p) ∷ cells_at ws q (h - (p + 1))) a

pub cells-end : (ws : List ℕ) (at p h : ℕ) → h ≤ p → cells_at ws at (h - p) ≡ []
unfolding cells_at
cells-end ws at p h l = let n : h - p ≡ 0 = omega arith in ap (cells_at ws at) n
