-- A description's sizes, stacks and locals are within the bounds that are made from it.
use Rattle.std.specs.Prelude.{Option as Maybe, None, Some}
use Prim.Native.Nat.{ℕ, ◌+◌, ◌*◌, ◌-◌, ◌≤◌}
use native.Mathlib.Nat.{add-mul, mul-le-mul_right}
use native.Mathlib.Omega.{arith}
use mathlib.Core.Bool.{Bool, true, false, cond}
use mathlib.Core.Option.{Option, none, some}
use mathlib.Core.List.{List, [], ◌∷◌, map}
use lib.Dec.{eqb}
use lib.ListN.{length}
use Rattle.widths.specs.declared.Width.{Width}
use Rattle.widths.specs.declared.Width.TheVariants.{Unknown as Wide, Scalar, Body}
use Rattle.widths.specs.declared.Shape.{Shape}
use Rattle.widths.specs.Shape.{declared_width}
use Rattle.extents.specs.declared.BodyExtent.{BodyExtent}
use Rattle.extents.specs.declared.BodyExtent.TheVariants.{Absent, Range, Unknown}
use Rattle.flows.specs.declared.Predicate.{Predicate}
use Rattle.flows.specs.declared.Predicate.TheVariants.{Nothing as Untested, Tests}
use Rattle.cells.specs.declared.Cell.{Cell}
use Rattle.description.specs.Fields.{fields_from, of_tag}
use Rattle.machine_laws.proofs.All.{All, nil, cons, Opt}
use Rattle.definition.specs.Module.{Module, Chunk, Line, Site, module_from, module_of, init_of}
use Rattle.definition.specs.State.{State}
use Rattle.report_laws.proofs.Carried.{LineHas, ChunkHas, ModuleHas, StateHas, mask-constant}
use Rattle.termination.specs.Left.{total}
use Rattle.termination.specs.Measure.{mask_left, width_left, body_left, extent_left, owned_left, origin_left, predicate_left, flow_left, cell_left, state_left, cell_most}
use Rattle.termination.specs.Enough.{site_size, line_size, chunk_size, size_most}
use Rattle.termination.proofs.Totals.{total-each, total-most}
use Rattle.termination.proofs.Small.{SmallMask, SmallWidth, SmallBody, SmallFlow, SmallCell, small-laws}

-- what each has and something that follows
all-imp : {A : Type 0} {P : A → Type 0} (Q : A → Type 0) {xs : List A} → ((x : A) → P x → Q x) → All P xs → All Q xs
all-imp Q h nil = nil
all-imp Q h (cons {x = x} p a) = cons (h x p) (all-imp Q h a)

map-every : {A B : Type 0} (Q : B → Type 0) (f : A → B) (xs : List A) → ((x : A) → Q (f x)) → All Q (map f xs)
map-every Q f [] h = nil
map-every Q f (x ∷ xs) h = cons (h x) (map-every Q f xs h)

-- ---- sizes
module _ (most : ℕ) where
  shape-small : (s : Shape) → s.size ≤ most → SmallWidth most (declared_width s)
  unfolding declared_width
  shape-small s l = go (eqb s.width 1) (eqb s.width 2)
    where
      go : (a b : Bool) → SmallWidth most (cond a (Scalar s.size) (cond b (Body s.size) Wide))
      go true b = tt
      go false true = l
      go false false = tt

  line_small : (x : Line) → line_size x ≤ most → LineHas (SmallCell most) (SmallFlow most) SmallMask (SmallWidth most) x
  unfolding line_size site_size
  line_small x l = record { size = omega arith; packed = omega arith; reply = go x.site (omega arith) }
    where
      go : (o : Option Site) → site_size o ≤ most → Opt (λ s. SmallWidth most (declared_width s.reply)) o
      go none h = tt
      go (some y) h = shape-small y.reply h

  chunk_small : (c : Chunk) → chunk_size c ≤ most → ChunkHas (SmallCell most) (SmallFlow most) SmallMask (SmallWidth most) c
  unfolding chunk_size
  chunk_small c l = record {
    code = all-imp _ (λ x h. line_small x (omega arith)) (total-each line_size c.code);
    params = all-imp _ (λ s h. shape-small s (omega arith)) (total-each (λ s. s.size) c.params);
    result = shape-small c.result (omega arith);
  }

  -- ---- what is left is bounded
  body-most : (x : BodyExtent) → SmallBody most x → body_left most x ≤ most + most + 3
  unfolding body_left
  body-most Absent p = omega arith
  body-most (Range a b) (pa, pb) = omega arith
  body-most Unknown p = omega arith

  owned-most : (x : Bool) → owned_left x ≤ 1
  unfolding owned_left
  owned-most false = omega arith
  owned-most true = omega arith

  origin-most : (x : Maybe ℕ) → origin_left x ≤ 1
  unfolding origin_left
  origin-most None = omega arith
  origin-most (Some l) = omega arith

  predicate-most : (x : Predicate) → predicate_left x ≤ 1
  unfolding predicate_left
  predicate-most Untested = omega arith
  predicate-most (Tests r w) = omega arith

  width-most : (x : Width) → width_left x ≤ 1
  unfolding width_left
  width-most Wide = omega arith
  width-most (Scalar n) = omega arith
  width-most (Body n) = omega arith

  cell-most : (c : Cell) → SmallCell most c → cell_left most c ≤ cell_most most
  unfolding cell_left flow_left cell_most mask_left extent_left
  cell-most c p =
      let t = total-most (extent_left most) (most + most + 3) (all-imp _ (λ x h. body-most x.body h) p.flow.bodies) in
      let u = mul-le-mul_right (most + most + 3) p.flow.four in
      let w = width-most c.width in
      let o = owned-most c.flow.owned in
      let g = origin-most c.flow.origin in
      let r = predicate-most c.flow.predicate in
      omega arith

  cells-most : (k : ℕ) {cs : List Cell} → All (SmallCell most) cs → length cs ≤ k → total (cell_left most) cs ≤ k * cell_most most
  cells-most k a l =
      let t = total-most (cell_left most) (cell_most most) (all-imp _ cell-most a) in
      let u = mul-le-mul_right (cell_most most) l in
      omega arith

  pub state-most : (h l : ℕ) (s : State) → StateHas (SmallCell most) (SmallFlow most) SmallMask (SmallWidth most) s → length s.stack ≤ h → length s.locals ≤ l
      → state_left most s ≤ (h + l) * cell_most most
  unfolding state_left
  state-most h l s p a b =
      let t = cells-most h p.stack a in
      let u = cells-most l p.locals b in
      let e = add-mul h l (cell_most most) in
      omega arith

-- ---- the module of a description
pub size-whole : (m : Module) → 4294967295 ≤ size_most m
unfolding size_most
size-whole m = omega arith

pub module-small : (m : Module) → All SmallMask m.inits → ModuleHas (SmallCell (size_most m)) (SmallFlow (size_most m)) SmallMask (SmallWidth (size_most m)) m
unfolding size_most
module-small m a = record {
  chunks = all-imp _ (λ c h. chunk_small (size_most m) c (omega arith)) (total-each chunk_size m.chunks);
  natives = all-imp _ (λ n h. shape-small (size_most m) n.shape (omega arith)) (total-each (λ n. n.shape.size) m.natives);
  inits = a;
}

pub inits-small : (s : List ℕ) → All SmallMask (module_of s).inits
unfolding module_of module_from init_of
inits-small s =
    map-every SmallMask (init_of s) (of_tag 8 s (fields_from s 0))
    (λ p. mask-constant (SmallCell 4294967295) (SmallFlow 4294967295) SmallMask (SmallWidth 4294967295) (small-laws 4294967295 (omega arith)) _ _)
