-- Flows, as `Flow` of types.rs: new, minimum, maximum, join, invalidate.
use Rattle.std.specs.Prelude.{ℕ, max, Bool, true, false, cond, not, ◌&&◌, List, [], ◌∷◌, eqb, get_or, Option, None, Some}
use Rattle.masks.specs.declared.Mask.{Mask}
use Rattle.masks.specs.Mask.{has}
use Rattle.masks.specs.Names.{TUPLE, ARRAY, STRUCT, ENUM}
use Rattle.widths.specs.declared.Width.{Width}
use Rattle.widths.specs.declared.Width.TheVariants.{Unknown as Wide, Scalar, Body}
use Rattle.widths.specs.Width.{flat}
use Rattle.extents.specs.declared.BodyExtent.{BodyExtent}
use Rattle.extents.specs.declared.BodyExtent.TheVariants.{Absent, Range, Unknown}
use Rattle.extents.specs.declared.Extent.{Extent}
use Rattle.extents.specs.Extent.{join_bodies, same_bodies, extent_minimum}
use Rattle.flows.specs.declared.Predicate.{Predicate}
use Rattle.flows.specs.declared.Predicate.TheVariants.{Nothing as Untested, Tests}
use Rattle.flows.specs.declared.Flow.{Flow}
use Rattle.flows.specs.declared.JoinedFlow.{JoinedFlow}

abbrev pub same_bool : Bool → Bool → Bool
same_bool true b = b
same_bool false b = not b

-- owned if either is
abbrev pub join_owned : Bool → Bool → Bool
join_owned true y = true
join_owned false y = y

abbrev pub same_owned : Bool → Bool → Bool
same_owned true true = true
same_owned true false = false
same_owned false true = false
same_owned false false = true

abbrev pub same_origin : Option ℕ → Option ℕ → Bool
same_origin None None = true
same_origin None (Some b) = false
same_origin (Some a) None = false
same_origin (Some a) (Some b) = eqb a b

abbrev pub join_origin : Option ℕ → Option ℕ → Option ℕ
join_origin = flat same_origin None

abbrev pub same_predicate : Predicate → Predicate → Bool
same_predicate Untested Untested = true
same_predicate Untested (Tests b y) = false
same_predicate (Tests a x) Untested = false
same_predicate (Tests a x) (Tests b y) = eqb a b && same_bool x y

abbrev pub join_predicate : Predicate → Predicate → Predicate
join_predicate = flat same_predicate Untested

-- unequal origin or predicate is dropped
unfoldable pub join_flow : Flow → Flow → Flow
join_flow x y =
    record {
      bodies = join_bodies x.bodies y.bodies;
      owned = join_owned x.owned y.owned;
      origin = join_origin x.origin y.origin;
      predicate = join_predicate x.predicate y.predicate;
    }

unfoldable pub same_flow : Flow → Flow → Bool
same_flow x y =
    same_bodies x.bodies y.bodies
    && (same_owned x.owned y.owned
    && (same_origin x.origin y.origin
    && same_predicate x.predicate y.predicate))

abbrev pub joined_flow : Flow → Flow → JoinedFlow
joined_flow x y = record { flow = join_flow x y; changed = not (same_flow x (join_flow x y)) }

abbrev pub absent : Extent
absent = record { body = Absent }

-- the default flow
unfoldable pub no_flow : Flow
no_flow =
    record {
      bodies = absent ∷ absent ∷ absent ∷ absent ∷ [];
      owned = false;
      origin = None;
      predicate = Untested;
    }

abbrev pub extent_of_width : Width → Extent
extent_of_width Wide = record { body = Unknown }
extent_of_width (Scalar n) = record { body = Unknown }
extent_of_width (Body n) = record { body = Range n n }

abbrev pub extent_of_kind : Bool → Width → Extent
extent_of_kind present w = cond present (extent_of_width w) absent

-- each body kind of the mask gets the width's size, or Unknown
unfoldable pub new_flow : Mask → Width → Bool → Flow
new_flow m w o =
    record {
      bodies =
          extent_of_kind (has m TUPLE) w
          ∷ extent_of_kind (has m ARRAY) w
          ∷ extent_of_kind (has m STRUCT) w
          ∷ extent_of_kind (has m ENUM) w
          ∷ [];
      owned = o;
      origin = None;
      predicate = Untested;
    }

-- the least size of a body of the one kind that the mask names
unfoldable pub minimum_of : Flow → Mask → Option ℕ
minimum_of f m =
    cond (eqb m.bits 256) (extent_minimum (get_or f.bodies 0 absent))
    (cond (eqb m.bits 512) (extent_minimum (get_or f.bodies 1 absent))
    (cond (eqb m.bits 1024) (extent_minimum (get_or f.bodies 2 absent))
    (cond (eqb m.bits 2048) (extent_minimum (get_or f.bodies 3 absent))
    None)))

abbrev pub larger_body : ℕ → BodyExtent → Option ℕ
larger_body m Absent = Some m
larger_body m (Range a b) = Some (max m b)
larger_body m Unknown = None

abbrev pub larger : Option ℕ → Extent → Option ℕ
larger None x = None
larger (Some m) x = larger_body m x.body

abbrev pub largest : Option ℕ → List Extent → Option ℕ
largest m [] = m
largest m (x ∷ xs) = largest (larger m x) xs

-- the largest size of any body, where all are bounded
unfoldable pub maximum_of : Flow → Option ℕ
maximum_of f = largest (Some 0) f.bodies

abbrev pub origin_without : Option ℕ → ℕ → Option ℕ
origin_without None l = None
origin_without (Some i) l = cond (eqb i l) None (Some i)

abbrev pub predicate_without : Predicate → ℕ → Predicate
predicate_without Untested l = Untested
predicate_without (Tests r w) l = cond (eqb r l) Untested (Tests r w)

-- origin and predicate that name the local are dropped
unfoldable pub invalidated : Flow → ℕ → Flow
invalidated f l =
    record {
      bodies = f.bodies;
      owned = f.owned;
      origin = origin_without f.origin l;
      predicate = predicate_without f.predicate l;
    }

-- without origin and predicate, as facts between chunks are
unfoldable pub bare : Flow → Flow
bare f = record { bodies = f.bodies; owned = f.owned; origin = None; predicate = Untested }

-- the predicate of the negated Bool
abbrev pub negated : Predicate → Predicate
negated Untested = Untested
negated (Tests r w) = Tests r (not w)
