-- `packed_extent` of types.rs, the float size and the handle size both left open, and the extent of a construction. types.rs has 8 for a
-- handle (line 195); the size comes from the header since document 02, Two.
use Rattle.std.specs.Prelude.{ℕ, ◌+◌, ◌-◌, min, max, Bool, cond, not, ◌&&◌, ◌||◌, List, [], ◌∷◌, eqb, ltb, set, false, None}
use Rattle.std.specs.Int.Count.{count_trailing_zeros}
use Rattle.masks.specs.declared.Mask.{Mask}
use Rattle.masks.specs.Mask.{body, kind, has}
use Rattle.masks.specs.Mask.{within as inside}
use Rattle.masks.specs.Names.{UNIT, FALSE, BYTE, WORD, FIXED, FLOAT, OPAQUE, TUPLE, ARRAY, STRUCT, ENUM, PACKED}
use Rattle.extents.specs.declared.BodyExtent.{BodyExtent}
use Rattle.extents.specs.declared.BodyExtent.TheVariants.{Absent, Range, Unknown}
use Rattle.extents.specs.declared.Extent.{Extent}
use Rattle.extents.specs.Extent.{exact_width}
use Rattle.flows.specs.declared.Predicate.TheVariants.{Nothing as Untested}
use Rattle.flows.specs.Flow.{absent}
use Rattle.cells.specs.declared.Cell.{Cell}
use Rattle.packing.specs.declared.Packed.{Packed}
use Rattle.packing.specs.declared.Packed.TheVariants.{Nothing, Bytes}

-- the range with the sizes low to high, where they are possible
abbrev pub span_with : Packed → Bool → ℕ → ℕ → Packed
span_with Nothing present low high = Nothing
span_with (Bytes a b) present low high = cond present (Bytes (min a low) (max b high)) (Bytes a b)

-- each scalar kind with its size, in the order of types.rs
pub record Sized : Type 0 where
  pub one : Mask
  pub bytes : ℕ

abbrev pub sized : Mask → ℕ → Sized
sized m n = record { one = m; bytes = n }

abbrev pub scalar_sizes : ℕ → ℕ → List Sized
scalar_sizes float handle =
    sized UNIT 0 ∷ sized FALSE 1 ∷ sized BYTE 1 ∷ sized WORD 8 ∷ sized FIXED 8 ∷ sized FLOAT float ∷ sized OPAQUE handle ∷ []

abbrev pub scalars_of : Mask → List Sized → Packed → Packed
scalars_of m [] s = s
scalars_of m (x ∷ xs) s = scalars_of m xs (span_with s (has m x.one) x.bytes x.bytes)

unfoldable pub scalar_span : Mask → ℕ → ℕ → Packed
scalar_span m float handle = scalars_of m (scalar_sizes float handle) (Bytes 4294967295 0)

-- a body kind of the mask has a range, or there is no packed size
abbrev pub span_body : Packed → Bool → BodyExtent → Packed
span_body s present Absent = cond present Nothing s
span_body s present (Range a b) = span_with s present a b
span_body s present Unknown = cond present Nothing s

abbrev pub body_span : Packed → Bool → Extent → Packed
body_span s present x = span_body s present x.body

abbrev pub bodies_of : Mask → List Mask → List Extent → Packed → Packed
bodies_of m [] xs s = s
bodies_of m (n ∷ ns) [] s = s
bodies_of m (n ∷ ns) (x ∷ xs) s = bodies_of m ns xs (body_span s (has m n) x)

abbrev pub body_kinds : List Mask
body_kinds = TUPLE ∷ ARRAY ∷ STRUCT ∷ ENUM ∷ []

-- one operand: none if it may be of no kind, or of a kind that can't be packed
unfoldable pub packed_one : Cell → ℕ → ℕ → Packed
packed_one c float handle =
    cond (eqb (kind c.mask).bits 0 || not (inside (kind c.mask) PACKED))
    Nothing
    (bodies_of (kind c.mask) body_kinds c.flow.bodies (scalar_span (kind c.mask) float handle))

-- two sums, where both are u32
abbrev pub within : ℕ → ℕ → Packed
within low high = cond (ltb low 4294967296 && ltb high 4294967296) (Bytes low high) Nothing

-- one operand after others
abbrev pub and_then : Packed → Packed → Packed
and_then Nothing q = Nothing
and_then (Bytes a b) Nothing = Nothing
and_then (Bytes a b) (Bytes c d) = within (a + c) (b + d)

abbrev pub packed_from : Packed → List Cell → ℕ → ℕ → Packed
packed_from p [] float handle = p
packed_from p (c ∷ cs) float handle = packed_from (and_then p (packed_one c float handle)) cs float handle

-- all operands of a construction
unfoldable pub packed_extent : List Cell → ℕ → ℕ → Packed
packed_extent cs float handle = packed_from (Bytes 0 0) cs float handle

-- the extent of a composite of this kind and size: Unknown where the operands don't pack within it; a struct's or an enum's is its size
abbrev pub constructed : Packed → ℕ → ℕ → Extent
constructed Nothing k size = record { body = Unknown }
constructed (Bytes a b) k size =
    cond (ltb size b) (record { body = Unknown })
    (cond (ltb 1 k) (record { body = Range size size }) (record { body = Range a b }))

-- the cell of a new composite: the extent stands at its kind, trailing zeros less 8
unfoldable pub construction : ℕ → Extent → Cell
construction k x =
    record {
      mask = body k;
      width = exact_width x;
      flow = record {
        bodies = set (absent ∷ absent ∷ absent ∷ absent ∷ []) (count_trailing_zeros 16 (body k).bits - 8) x;
        owned = false;
        origin = None;
        predicate = Untested;
      };
    }
