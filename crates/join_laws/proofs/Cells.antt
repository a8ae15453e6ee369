-- The laws of widths and cells, and what a cell that takes in another says of their masks.
use mathlib.Core.Path.{◌≡◌, refl, ap}
use mathlib.Core.Bool.{true, false}
use borrow.Author.Tests.{eq-eqb, eqb-true}
use Rattle.masks.proofs.Both.{both, never}
use Rattle.masks.specs.Mask.{union, same, within}
use Rattle.widths.specs.Width.{same_width, join_width}
use Rattle.widths.specs.declared.Width.{Width}
use Rattle.widths.specs.declared.Width.TheVariants.{Unknown as Wide, Scalar, Body}
use Rattle.cells.specs.Cell.{join_cell, same_cell, joined_cell}
use Rattle.cells.specs.declared.Cell.{Cell}
use Rattle.join_laws.specs.Join.{Joins, Equals, Takes}
use Rattle.join_laws.proofs.Join.{unchanged, still}
use Rattle.join_laws.proofs.Flat.{flat-joins}
use Rattle.join_laws.proofs.Masks.{union-joins, mask-equals, takes-within}
use Rattle.join_laws.proofs.Flows.{flow-joins, flow-equals}

width-sound : (x y : Width) → same_width x y ≡ true → x ≡ y
width-sound Wide Wide h = refl
width-sound Wide (Scalar b) h = never h
width-sound Wide (Body b) h = never h
width-sound (Scalar a) Wide h = never h
width-sound (Scalar a) (Scalar b) h = ap Scalar (eqb-true a b h)
width-sound (Scalar a) (Body b) h = never h
width-sound (Body a) Wide h = never h
width-sound (Body a) (Scalar b) h = never h
width-sound (Body a) (Body b) h = ap Body (eqb-true a b h)

width-whole : (x : Width) → same_width x x ≡ true
width-whole Wide = refl
width-whole (Scalar a) = eq-eqb a a refl
width-whole (Body a) = eq-eqb a a refl

pub width-equals : Equals same_width
width-equals = record { sound = width-sound; whole = width-whole }

pub width-joins : Joins join_width
width-joins = flat-joins same_width Wide width-equals

pub cell-eq : (x y : Cell) → x.mask ≡ y.mask → x.width ≡ y.width → x.flow ≡ y.flow → x ≡ y
cell-eq x y m w f = λ i. record { mask = m i; width = w i; flow = f i }

cell-idem : (x : Cell) → join_cell x x ≡ x
unfolding join_cell
cell-idem x = cell-eq _ _ (union-joins.idem x.mask) (width-joins.idem x.width) (flow-joins.idem x.flow)

cell-comm : (x y : Cell) → join_cell x y ≡ join_cell y x
unfolding join_cell
cell-comm x y =
    cell-eq _ _ (union-joins.comm x.mask y.mask) (width-joins.comm x.width y.width)
    (flow-joins.comm x.flow y.flow)

cell-assoc : (x y z : Cell) → join_cell (join_cell x y) z ≡ join_cell x (join_cell y z)
unfolding join_cell
cell-assoc x y z =
    cell-eq _ _ (union-joins.assoc x.mask y.mask z.mask) (width-joins.assoc x.width y.width z.width)
    (flow-joins.assoc x.flow y.flow z.flow)

pub cell-joins : Joins join_cell
cell-joins = record { idem = cell-idem; comm = cell-comm; assoc = cell-assoc }

cell-sound : (x y : Cell) → same_cell x y ≡ true → x ≡ y
unfolding same_cell
cell-sound x y h =
    let (m, h1) = both (same x.mask y.mask) _ h in
    let (w, f) = both (same_width x.width y.width) _ h1 in
    cell-eq x y (mask-equals.sound _ _ m) (width-sound _ _ w) (flow-equals.sound _ _ f)

cell-whole : (x : Cell) → same_cell x x ≡ true
unfolding same_cell
cell-whole x = rw (mask-equals.whole x.mask, width-whole x.width) (flow-equals.whole x.flow)

pub cell-equals : Equals same_cell
cell-equals = record { sound = cell-sound; whole = cell-whole }

pub cell-unchanged : (x y : Cell) → (joined_cell x y).changed ≡ false → Takes join_cell x y
cell-unchanged = unchanged join_cell cell-equals

pub cell-still : (x y : Cell) → Takes join_cell x y → (joined_cell x y).changed ≡ false
cell-still = still join_cell cell-equals

-- the mask of a cell that takes in another takes in the other's mask
pub cell-mask : (x y : Cell) → Takes join_cell x y → Takes union x.mask y.mask
unfolding join_cell
cell-mask x y p = ap (λ (c : Cell). c.mask) p

pub cell-within : (x y : Cell) → Takes join_cell x y → within y.mask x.mask ≡ true
cell-within x y p = takes-within y.mask x.mask (cell-mask x y p)
