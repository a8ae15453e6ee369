-- A join never makes more left, and less where it changes something: of each part of a cell, of cells, lists of them and states.
use Rattle.std.specs.Prelude.{Option, None, Some}
use Prim.Native.Nat.{ℕ, ◌+◌, ◌-◌, ◌<◌, ◌≤◌, min, max}
use native.Mathlib.Omega.{arith}
use mathlib.Core.Path.{◌≡◌, refl, sym, ◌∙◌}
use mathlib.Core.Bool.{Bool, true, false, cond, ◌&&◌, true≢false}
use mathlib.Core.List.{List, [], ◌∷◌}
use lib.Dec.{eqb}
use borrow.Author.Tests.{eqb-false}
use Rattle.masks.specs.declared.Mask.{Mask}
use Rattle.masks.specs.Mask.{union, same}
use Rattle.widths.specs.declared.Width.{Width}
use Rattle.widths.specs.declared.Width.TheVariants.{Unknown as Wide, Scalar, Body}
use Rattle.widths.specs.Width.{flat, same_width, join_width}
use Rattle.extents.specs.declared.BodyExtent.{BodyExtent}
use Rattle.extents.specs.declared.BodyExtent.TheVariants.{Absent, Range, Unknown}
use Rattle.extents.specs.declared.Extent.{Extent}
use Rattle.extents.specs.Extent.{join_body, same_body, join_bodies, same_bodies}
use Rattle.flows.specs.declared.Predicate.{Predicate}
use Rattle.flows.specs.declared.Predicate.TheVariants.{Nothing as Untested, Tests}
use Rattle.flows.specs.declared.Flow.{Flow}
use Rattle.flows.specs.Flow.{join_owned, same_owned, join_origin, same_origin, join_predicate, same_predicate, join_flow, same_flow}
use Rattle.cells.specs.declared.Cell.{Cell}
use Rattle.cells.specs.Cell.{join_cell, same_cell}
use Rattle.join_laws.specs.Join.{Equals}
use Rattle.join_laws.proofs.Masks.{or-le-l, mask-equals}
use Rattle.join_laws.proofs.Extents.{extent-equals}
use Rattle.join_laws.proofs.Flows.{origin-equals, predicate-equals}
use Rattle.join_laws.proofs.Cells.{width-equals, cell-equals}
use Rattle.machine_laws.proofs.All.{All, nil, cons}
use Rattle.definition.specs.State.{State, join_cells, same_cells, join_states, same_states}
use Rattle.definition.specs.Leaves.{same_masks}
use Rattle.termination.specs.Left.{total}
use Rattle.termination.specs.Measure.{mask_left, width_left, body_left, extent_left, owned_left, origin_left, predicate_left, flow_left, cell_left, state_left}
use Rattle.termination.proofs.Small.{SmallMask, SmallBody, SmallExtent, SmallFlow, SmallCell, union-small}

-- of what a join made, `new`, and what stood there, `old`, with whether the two are the same
pub record Drop (same : Bool) (new old : ℕ) : Type 0 where
  pub most : new ≤ old
  pub less : same ≡ false → new < old

pub drop-same : {b : Bool} {n : ℕ} → b ≡ true → Drop b n n
drop-same e = record { most = omega arith; less = λ h. absurd (true≢false (sym e ∙ h)) }

pub drop-less : {b : Bool} {n m : ℕ} → n < m → Drop b n m
drop-less l = record { most = omega arith; less = λ h. l }

pub drop-and : {a b : Bool} {x x' y y' : ℕ} → Drop a x' x → Drop b y' y → Drop (a && b) (x' + y') (x + y)
drop-and {a} {b} {x} {x'} {y} {y'} p q = record { most = let l = p.most in let m = q.most in omega arith; less = go a b p q }
  where
    go : (a b : Bool) → Drop a x' x → Drop b y' y → (a && b) ≡ false → x' + y' < x + y
    go true b p q h = let l = p.most in let m = q.less h in omega arith
    go false b p q h = let l = p.less refl in let m = q.most in omega arith

-- among others that stay
pub drop-left : {b : Bool} {x x' : ℕ} (k : ℕ) → Drop b x' x → Drop b (x' + k) (x + k)
drop-left k p = record { most = let l = p.most in omega arith; less = λ h. let l = p.less h in omega arith }

pub drop-right : {b : Bool} {x x' : ℕ} (k : ℕ) → Drop b x' x → Drop b (k + x') (k + x)
drop-right k p = record { most = let l = p.most in omega arith; less = λ h. let l = p.less h in omega arith }

-- ---- masks
pub mask-drop : (m n : Mask) → SmallMask m → SmallMask n → Drop (same m (union m n)) (mask_left (union m n)) (mask_left m)
unfolding mask_left
mask-drop m n p q =
    let l = or-le-l m.bits n.bits in
    let k : SmallMask (union m n) = union-small m n p q in
    record { most = omega arith; less = λ h. let e = eqb-false m.bits (union m n).bits h in omega arith }

pub masks-whole : (ms : List Mask) → same_masks ms ms ≡ true
unfolding same_masks
masks-whole [] = refl
masks-whole (m ∷ ms) = rw (mask-equals.whole m) (masks-whole ms)

-- ---- flat orders: from what is not the top to the top
module _ {A : Type 0} (test : A → A → Bool) (top : A) (equal : Equals test) (left : A → ℕ) (last : left top ≡ 0)
    (some_left : (x : A) → test x top ≡ false → 0 < left x) where
  flat-drop : (x y : A) → Drop (test x (flat test top x y)) (left (flat test top x y)) (left x)
  flat-drop x y = go (test x y)
    where
      go : (b : Bool) → Drop (test x (cond b x top)) (left (cond b x top)) (left x)
      go true = drop-same (equal.whole x)
      go false = record { most = omega arith; less = λ h. let l = some_left x h in omega arith }

width-drop : (x y : Width) → Drop (same_width x (join_width x y)) (width_left (join_width x y)) (width_left x)
unfolding width_left
width-drop = flat-drop same_width Wide width-equals width_left refl go
  where
    go : (x : Width) → same_width x Wide ≡ false → 0 < width_left x
    go Wide h = absurd (true≢false h)
    go (Scalar n) h = omega arith
    go (Body n) h = omega arith

origin-drop : (x y : Option ℕ) → Drop (same_origin x (join_origin x y)) (origin_left (join_origin x y)) (origin_left x)
unfolding origin_left
origin-drop = flat-drop same_origin None origin-equals origin_left refl go
  where
    go : (x : Option ℕ) → same_origin x None ≡ false → 0 < origin_left x
    go None h = absurd (true≢false h)
    go (Some l) h = omega arith

predicate-drop : (x y : Predicate) → Drop (same_predicate x (join_predicate x y)) (predicate_left (join_predicate x y)) (predicate_left x)
unfolding predicate_left
predicate-drop = flat-drop same_predicate Untested predicate-equals predicate_left refl go
  where
    go : (x : Predicate) → same_predicate x Untested ≡ false → 0 < predicate_left x
    go Untested h = absurd (true≢false h)
    go (Tests r w) h = omega arith

owned-drop : (x y : Bool) → Drop (same_owned x (join_owned x y)) (owned_left (join_owned x y)) (owned_left x)
unfolding owned_left
owned-drop true y = drop-same refl
owned-drop false true = drop-less (omega arith)
owned-drop false false = drop-same refl

-- ---- extents
module _ (most : ℕ) where
  body-drop : (x y : BodyExtent) → SmallBody most x → SmallBody most y → Drop (same_body x (join_body x y)) (body_left most (join_body x y)) (body_left most x)
  unfolding body_left
  body-drop Absent Absent p q = drop-same refl
  body-drop Absent (Range c d) p q = drop-less (omega arith)
  body-drop Absent Unknown p q = drop-less (omega arith)
  body-drop Unknown y p q = drop-same refl
  body-drop (Range a b) Absent p q = drop-same (extent-equals.whole (record { body = Range a b }))
  body-drop (Range a b) (Range c d) p q =
      record { most = omega arith; less = λ h. go (eqb a (min a c)) (eqb b (max b d)) refl refl h }
    where
      go : (s t : Bool) → eqb a (min a c) ≡ s → eqb b (max b d) ≡ t → (s && t) ≡ false
          → body_left most (Range (min a c) (max b d)) < body_left most (Range a b)
      go true true e f h = absurd (true≢false h)
      go true false e f h = let n = eqb-false b (max b d) f in omega arith
      go false t e f h = let n = eqb-false a (min a c) e in omega arith
  body-drop (Range a b) Unknown p q = drop-less (omega arith)

  extent-some : (x : Extent) → 0 < extent_left most x
  unfolding extent_left body_left
  extent-some x = go x.body
    where
      go : (y : BodyExtent) → 0 < body_left most y
      go Absent = omega arith
      go (Range a b) = omega arith
      go Unknown = omega arith

  bodies-drop : {xs ys : List Extent} → All (SmallExtent most) xs → All (SmallExtent most) ys
      → Drop (same_bodies xs (join_bodies xs ys)) (total (extent_left most) (join_bodies xs ys)) (total (extent_left most) xs)
  unfolding total extent_left
  bodies-drop nil b = drop-same refl
  bodies-drop (cons {x = x} p a) nil = drop-less (let l = extent-some x in omega arith)
  bodies-drop (cons {x = x} p a) (cons {x = y} q b) = drop-and (body-drop x.body y.body p q) (bodies-drop a b)

  -- ---- flows, cells and states
  pub flow-drop : (x y : Flow) → SmallFlow most x → SmallFlow most y → Drop (same_flow x (join_flow x y)) (flow_left most (join_flow x y)) (flow_left most x)
  unfolding same_flow join_flow flow_left
  flow-drop x y p q =
      drop-and (bodies-drop p.bodies q.bodies)
      (drop-and (owned-drop x.owned y.owned)
      (drop-and (origin-drop x.origin y.origin) (predicate-drop x.predicate y.predicate)))

  pub cell-drop : (x y : Cell) → SmallCell most x → SmallCell most y → Drop (same_cell x (join_cell x y)) (cell_left most (join_cell x y)) (cell_left most x)
  unfolding same_cell join_cell cell_left
  cell-drop x y p q =
      drop-and (mask-drop x.mask y.mask p.mask q.mask)
      (drop-and (width-drop x.width y.width) (flow-drop x.flow y.flow p.flow q.flow))

  pub cells_whole : (xs : List Cell) → same_cells xs xs ≡ true
  unfolding same_cells
  cells_whole [] = refl
  cells_whole (x ∷ xs) = rw (cell-equals.whole x) (cells_whole xs)

  pub cells-drop : {xs ys : List Cell} → All (SmallCell most) xs → All (SmallCell most) ys
      → Drop (same_cells xs (join_cells xs ys)) (total (cell_left most) (join_cells xs ys)) (total (cell_left most) xs)
  unfolding same_cells join_cells total
  cells-drop nil b = drop-same refl
  cells-drop (cons {x = x} {xs = xs} p a) nil = drop-same (cells_whole (x ∷ xs))
  cells-drop (cons {x = x} p a) (cons {x = y} q b) = drop-and (cell-drop x y p q) (cells-drop a b)

  pub state-drop : (s x : State) → All (SmallCell most) s.stack → All (SmallCell most) s.locals → All (SmallCell most) x.stack → All (SmallCell most) x.locals
      → Drop (same_states s (join_states s x)) (state_left most (join_states s x)) (state_left most s)
  unfolding same_states join_states state_left
  state-drop s x a b c d = drop-and (cells-drop a c) (cells-drop b d)
