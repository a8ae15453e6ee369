-- Body extents, as `BodyExtent` of types.rs: join, minimum, exact.
use Rattle.std.specs.Prelude.{min, max, Bool, true, false, cond, not, ◌&&◌, List, [], ◌∷◌, eqb, ℕ, Option, None, Some}
use Rattle.widths.specs.declared.Width.{Width}
use Rattle.widths.specs.declared.Width.TheVariants.{Unknown as Wide, Body}
use Rattle.extents.specs.declared.BodyExtent.{BodyExtent}
use Rattle.extents.specs.declared.BodyExtent.TheVariants.{Absent, Range, Unknown}
use Rattle.extents.specs.declared.Extent.{Extent}
use Rattle.extents.specs.declared.JoinedExtent.{JoinedExtent}

-- Absent is neutral, ranges span, Unknown absorbs
abbrev pub join_body : BodyExtent → BodyExtent → BodyExtent
join_body Absent y = y
join_body Unknown y = Unknown
join_body (Range a b) Absent = Range a b
join_body (Range a b) (Range c d) = Range (min a c) (max b d)
join_body (Range a b) Unknown = Unknown

abbrev pub same_body : BodyExtent → BodyExtent → Bool
same_body Absent Absent = true
same_body Absent (Range c d) = false
same_body Absent Unknown = false
same_body Unknown Absent = false
same_body Unknown (Range c d) = false
same_body Unknown Unknown = true
same_body (Range a b) Absent = false
same_body (Range a b) (Range c d) = eqb a c && eqb b d
same_body (Range a b) Unknown = false

abbrev pub join_extent : Extent → Extent → Extent
join_extent x y = record { body = join_body x.body y.body }

abbrev pub same_extent : Extent → Extent → Bool
same_extent x y = same_body x.body y.body

abbrev pub joined_extent : Extent → Extent → JoinedExtent
joined_extent x y = record { extent = join_extent x y; changed = not (same_extent x (join_extent x y)) }

abbrev pub minimum_body : BodyExtent → Option ℕ
minimum_body Absent = None
minimum_body (Range a b) = Some a
minimum_body Unknown = None

abbrev pub extent_minimum : Extent → Option ℕ
extent_minimum x = minimum_body x.body

-- the size, where the range is one number
abbrev pub exact_body : BodyExtent → Option ℕ
exact_body Absent = None
exact_body (Range a b) = cond (eqb a b) (Some a) None
exact_body Unknown = None

abbrev pub extent_exact : Extent → Option ℕ
extent_exact x = exact_body x.body

abbrev pub width_of_size : Option ℕ → Width
width_of_size None = Wide
width_of_size (Some n) = Body n

-- the width of a body that has this extent
abbrev pub exact_width : Extent → Width
exact_width x = width_of_size (extent_exact x)

-- element by element
abbrev pub join_bodies : List Extent → List Extent → List Extent
join_bodies [] ys = []
join_bodies (x ∷ xs) [] = []
join_bodies (x ∷ xs) (y ∷ ys) = join_extent x y ∷ join_bodies xs ys

abbrev pub same_bodies : List Extent → List Extent → Bool
same_bodies [] [] = true
same_bodies [] (y ∷ ys) = false
same_bodies (x ∷ xs) [] = false
same_bodies (x ∷ xs) (y ∷ ys) = same_extent x y && same_bodies xs ys
