-- Masks of 16 bits and sizes up to `most`: what every cell of a run keeps.
use Prim.Native.Nat.{ℕ, ◌+◌, ◌-◌, ◌≤◌}
use native.Mathlib.Omega.{arith}
use mathlib.Core.Path.{◌≡◌, refl}
use mathlib.Core.Bool.{Bool, true, false, cond, ◌&&◌}
use mathlib.Core.List.{List, [], ◌∷◌}
use lib.Bits.{or_lt}
use lib.Count.{count_trailing_zeros}
use lib.Dec.{ltb, leb}
use lib.ListN.{length, length-set}
use borrow.Author.Tests.{ltb-true, leb-true}
use Rattle.masks.proofs.Both.{both}
use Rattle.masks.specs.declared.Mask.{Mask}
use Rattle.masks.specs.Mask.{union, body, has}
use Rattle.masks.specs.Names.{TUPLE, ARRAY, STRUCT, ENUM}
use Rattle.widths.specs.declared.Width.{Width}
use Rattle.widths.specs.declared.Width.TheVariants.{Unknown as Wide, Scalar, Body}
use Rattle.extents.specs.declared.BodyExtent.{BodyExtent}
use Rattle.extents.specs.declared.BodyExtent.TheVariants.{Absent, Range, Unknown}
use Rattle.extents.specs.declared.Extent.{Extent}
use Rattle.extents.specs.Extent.{join_body, join_bodies}
use Rattle.flows.specs.declared.Flow.{Flow}
use Rattle.flows.specs.Flow.{join_flow, no_flow, new_flow, extent_of_kind, absent, invalidated, bare}
use Rattle.cells.specs.declared.Cell.{Cell}
use Rattle.cells.specs.Cell.{join_cell, invalidated_cell, bare_cell, narrow_enum, unit_cell}
use Rattle.packing.specs.declared.Packed.{Packed}
use Rattle.packing.specs.declared.Packed.TheVariants.{Nothing, Bytes}
use Rattle.packing.specs.Packing.{within, and_then, packed_one, packed_from, packed_extent, constructed, construction}
use Rattle.ops.specs.declared.Makes.{Makes}
use Rattle.ops.specs.declared.Makes.TheVariants.{Anything, Constant, Immediate, Local, Operand, OperandMask, Reply, Result, Common, Kind, Negation, OneKind, Slots, Composite, Part, NativeValue}
use Rattle.ops.specs.declared.Rule.{Rule}
use Rattle.ops.specs.Ops.{rules, rule_of}
use Rattle.rule_laws.proofs.Table.{every-rule}
use Rattle.machine_laws.proofs.All.{All, nil, cons, all_set}
use Rattle.definition.specs.Data.{private_cell, fresh}
use Rattle.definition.specs.Outputs.{with_predicate, with_origin}
use Rattle.definition.specs.Leaves.{stored_flow}
use Rattle.report_laws.proofs.Carried.{Laws, From}

-- ---- masks
abbrev pub SmallMask : Mask → Type 0
SmallMask m = m.bits ≤ 65535

pub union-small : (m n : Mask) → SmallMask m → SmallMask n → SmallMask (union m n)
union-small m n p q = let l = or_lt 16 m.bits n.bits (omega arith) (omega arith) in omega arith

-- the kinds that a rule makes, where it makes always the same
abbrev kind_bits : Makes → ℕ
kind_bits (Kind m) = m.bits
kind_bits Anything = 0
kind_bits Constant = 0
kind_bits Immediate = 0
kind_bits Local = 0
kind_bits Operand = 0
kind_bits OperandMask = 0
kind_bits Reply = 0
kind_bits Result = 0
kind_bits (Common m) = 0
kind_bits Negation = 0
kind_bits OneKind = 0
kind_bits Slots = 0
kind_bits Composite = 0
kind_bits Part = 0
kind_bits NativeValue = 0

abbrev small_kind : ℕ → Rule → Bool
small_kind op r = leb (kind_bits r.makes) 65535

kinds-small : (op : ℕ) (m : Mask) → (rule_of op).makes ≡ Kind m → SmallMask m
unfolding rules
kinds-small op m e =
    let t : small_kind op (rule_of op) ≡ true = every-rule small_kind (λ n l. refl) refl op in
    leb-true m.bits 65535 (rw e at t)

module _ (most : ℕ) where
  abbrev pub SmallWidth : Width → Type 0
  SmallWidth Wide = Unit {0}
  SmallWidth (Scalar n) = Unit {0}
  SmallWidth (Body n) = n ≤ most

  abbrev pub SmallBody : BodyExtent → Type 0
  SmallBody Absent = Unit {0}
  SmallBody (Range a b) = (a ≤ most) × (b ≤ most)
  SmallBody Unknown = Unit {0}

  abbrev pub SmallExtent : Extent → Type 0
  SmallExtent x = SmallBody x.body

  pub record SmallFlow (f : Flow) : Type 0 where
    pub four : length f.bodies ≤ 4
    pub bodies : All SmallExtent f.bodies

  pub record SmallCell (c : Cell) : Type 0 where
    pub mask : SmallMask c.mask
    pub flow : SmallFlow c.flow

  -- ---- joins
  body-join : (x y : BodyExtent) → SmallBody x → SmallBody y → SmallBody (join_body x y)
  body-join Absent y p q = q
  body-join Unknown y p q = tt
  body-join (Range a b) Absent p q = p
  body-join (Range a b) (Range c d) (pa, pb) (qc, qd) = (omega arith, omega arith)
  body-join (Range a b) Unknown p q = tt

  bodies-join : {xs ys : List Extent} → All SmallExtent xs → All SmallExtent ys → All SmallExtent (join_bodies xs ys)
  bodies-join nil q = nil
  bodies-join (cons p ps) nil = nil
  bodies-join (cons {x = x} p ps) (cons {x = y} q qs) = cons (body-join x.body y.body p q) (bodies-join ps qs)

  joined-long : (xs ys : List Extent) → length (join_bodies xs ys) ≤ length xs
  joined-long [] ys = omega arith
  joined-long (x ∷ xs) [] = omega arith
  joined-long (x ∷ xs) (y ∷ ys) = let l = joined-long xs ys in omega arith

  flow-join : (x y : Flow) → SmallFlow x → SmallFlow y → SmallFlow (join_flow x y)
  unfolding join_flow
  flow-join x y p q = record { four = let l = joined-long x.bodies y.bodies in let m = p.four in omega arith; bodies = bodies-join p.bodies q.bodies }

  cell_join : (x y : Cell) → SmallCell x → SmallCell y → SmallCell (join_cell x y)
  unfolding join_cell
  cell_join x y p q = record { mask = union-small x.mask y.mask p.mask q.mask; flow = flow-join x.flow y.flow p.flow q.flow }

  -- ---- new values
  flow-none : SmallFlow no_flow
  unfolding no_flow
  flow-none = record { four = omega arith; bodies = cons tt (cons tt (cons tt (cons tt nil))) }

  extent-of : (b : Bool) (w : Width) → SmallWidth w → SmallExtent (extent_of_kind b w)
  extent-of true Wide p = tt
  extent-of true (Scalar n) p = tt
  extent-of true (Body n) p = (p, p)
  extent-of false w p = tt

  flow-new : (m : Mask) (w : Width) (o : Bool) → SmallWidth w → SmallFlow (new_flow m w o)
  unfolding new_flow
  flow-new m w o p = record {
    four = omega arith;
    bodies = cons (extent-of (has m TUPLE) w p) (cons (extent-of (has m ARRAY) w p) (cons (extent-of (has m STRUCT) w p) (cons (extent-of (has m ENUM) w p) nil)));
  }

  -- ---- packing: sums that are no u32 are none
  module _ (whole : 4294967295 ≤ most) where
    abbrev SmallPacked : Packed → Type 0
    SmallPacked Nothing = Unit {0}
    SmallPacked (Bytes a b) = (a ≤ 4294967295) × (b ≤ 4294967295)

    within-small : (a b : ℕ) → SmallPacked (within a b)
    within-small a b = go (ltb a 4294967296 && ltb b 4294967296) refl
      where
        go : (t : Bool) → (ltb a 4294967296 && ltb b 4294967296) ≡ t → SmallPacked (cond t (Bytes a b) Nothing)
        go true e =
            let (p, q) = both (ltb a 4294967296) (ltb b 4294967296) e in
            let l = ltb-true a 4294967296 p in
            let m = ltb-true b 4294967296 q in
            (omega arith, omega arith)
        go false e = tt

    then-small : (p q : Packed) → SmallPacked (and_then p q)
    then-small Nothing q = tt
    then-small (Bytes a b) Nothing = tt
    then-small (Bytes a b) (Bytes c d) = within-small (a + c) (b + d)

    from-small : (p : Packed) (cs : List Cell) (float handle : ℕ) → SmallPacked p → SmallPacked (packed_from p cs float handle)
    from-small p [] float handle h = h
    from-small p (c ∷ cs) float handle h = from-small (and_then p (packed_one c float handle)) cs float handle (then-small p (packed_one c float handle))

    constructed-small : (p : Packed) (j size : ℕ) → SmallPacked p → size ≤ most → SmallExtent (constructed p j size)
    constructed-small Nothing j size p l = tt
    constructed-small (Bytes a b) j size (pa, pb) l = go (ltb size b) (ltb 1 j)
      where
        go : (s t : Bool) → SmallExtent (cond s (record { body = Unknown }) (cond t (record { body = Range size size }) (record { body = Range a b })))
        go true t = tt
        go false true = (l, l)
        go false false = (omega arith, omega arith)

    cell-built : (k j size : ℕ) (cs : List Cell) (float handle : ℕ) → SmallMask (body k) → size ≤ most
        → SmallCell (construction k (constructed (packed_extent cs float handle) j size))
    unfolding construction packed_extent
    cell-built k j size cs float handle m l = record {
      mask = m;
      flow = record {
        four = omega (arith, length-set (absent ∷ absent ∷ absent ∷ absent ∷ []) (count_trailing_zeros 16 (body k).bits - 8) (constructed (packed_extent cs float handle) j size));
        bodies =
            all_set SmallExtent (count_trailing_zeros 16 (body k).bits - 8) (constructed-small (packed_extent cs float handle) j size (from-small (Bytes 0 0) cs float handle (omega arith, omega arith)) l)
            (cons tt (cons tt (cons tt (cons tt nil))));
      };
    }

    -- THEOREM
    pub small-laws : Laws SmallCell SmallFlow SmallMask SmallWidth
    unfolding unit_cell fresh private_cell stored_flow invalidated_cell invalidated bare_cell bare narrow_enum with_origin with_predicate
    small-laws = record {
      top = omega arith;
      fewer = λ m n l p. omega arith;
      unions = union-small;
      kinds = kinds-small;
      empty = omega arith;
      wide = tt;
      scalars = λ n. tt;
      flow-none = flow-none;
      flow-join = flow-join;
      flow-stored = λ f p. record { four = p.four; bodies = p.bodies };
      mask-of = λ c p. p.mask;
      flow-of = λ c p. p.flow;
      cell-unit = record { mask = omega arith; flow = flow-none };
      cell_join = cell_join;
      cell-fresh = λ m w o p q. record { mask = p; flow = flow-new m w o q };
      cell-private = λ m f p q. record { mask = p; flow = q };
      cell-built = λ k j size cs float handle m l. cell-built k j size cs float handle m l;
      cell-invalidated = λ c l p. record { mask = p.mask; flow = record { four = p.flow.four; bodies = p.flow.bodies } };
      cell-bare = λ c p. record { mask = p.mask; flow = record { four = p.flow.four; bodies = p.flow.bodies } };
      cell-narrow = λ c p. record { mask = omega arith; flow = p.flow };
      cell-nowhere = λ c p. record { mask = p.mask; flow = record { four = p.flow.four; bodies = p.flow.bodies } };
      cell-negated = λ c d p q. record { mask = p.mask; flow = record { four = p.flow.four; bodies = p.flow.bodies } };
      cell-tests = λ k c d p q. record { mask = p.mask; flow = record { four = p.flow.four; bodies = p.flow.bodies } };
    }

    -- whatever local a cell was read from
    pub small-from : (l : ℕ) → From SmallCell SmallFlow SmallMask SmallWidth l
    unfolding with_origin
    small-from l c p = record { mask = p.mask; flow = record { four = p.flow.four; bodies = p.flow.bodies } }
