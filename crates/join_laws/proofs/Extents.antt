-- The laws of extents, and of four of them.
use mathlib.Core.Path.{◌≡◌, refl, sym, ap, ap₂, ◌∙◌}
use mathlib.Core.Bool.{Bool, true, false, ◌&&◌}
use mathlib.Core.List.{List, [], ◌∷◌}
use native.Mathlib.Omega.{arith}
use lib.Dec.{eqb}
use borrow.Author.Tests.{eq-eqb, eqb-true}
use Rattle.masks.proofs.Both.{both, never}
use Rattle.extents.specs.Extent.{join_body, same_body, join_extent, same_extent, joined_extent, join_bodies, same_bodies}
use Rattle.extents.specs.declared.BodyExtent.{BodyExtent}
use Rattle.extents.specs.declared.BodyExtent.TheVariants.{Absent, Range, Unknown}
use Rattle.extents.specs.declared.Extent.{Extent}
use Rattle.join_laws.specs.Join.{Joins, Equals, Takes}
use Rattle.join_laws.proofs.Join.{unchanged, still}
use Rattle.join_laws.proofs.Lists.{each, each_same, each-joins, each-equals}

body-idem : (x : BodyExtent) → join_body x x ≡ x
body-idem Absent = refl
body-idem Unknown = refl
body-idem (Range a b) = ap₂ Range (omega arith) (omega arith)

body-comm : (x y : BodyExtent) → join_body x y ≡ join_body y x
body-comm Absent Absent = refl
body-comm Absent Unknown = refl
body-comm Absent (Range c d) = refl
body-comm Unknown Absent = refl
body-comm Unknown Unknown = refl
body-comm Unknown (Range c d) = refl
body-comm (Range a b) Absent = refl
body-comm (Range a b) Unknown = refl
body-comm (Range a b) (Range c d) = ap₂ Range (omega arith) (omega arith)

body-assoc : (x y z : BodyExtent) → join_body (join_body x y) z ≡ join_body x (join_body y z)
body-assoc Absent y z = refl
body-assoc Unknown y z = refl
body-assoc (Range a b) Absent z = refl
body-assoc (Range a b) Unknown z = refl
body-assoc (Range a b) (Range c d) Absent = refl
body-assoc (Range a b) (Range c d) Unknown = refl
body-assoc (Range a b) (Range c d) (Range e f) = ap₂ Range (omega arith) (omega arith)

body-sound : (x y : BodyExtent) → same_body x y ≡ true → x ≡ y
body-sound Absent Absent h = refl
body-sound Absent (Range c d) h = never h
body-sound Absent Unknown h = never h
body-sound Unknown Absent h = never h
body-sound Unknown (Range c d) h = never h
body-sound Unknown Unknown h = refl
body-sound (Range a b) Absent h = never h
body-sound (Range a b) (Range c d) h =
    let (p, q) = both (eqb a c) (eqb b d) h in ap₂ Range (eqb-true a c p) (eqb-true b d q)
body-sound (Range a b) Unknown h = never h

body-whole : (x : BodyExtent) → same_body x x ≡ true
body-whole Absent = refl
body-whole Unknown = refl
body-whole (Range a b) = rw (eq-eqb a a refl, eq-eqb b b refl)

abbrev extent : BodyExtent → Extent
extent x = record { body = x }

pub extent-joins : Joins join_extent
extent-joins =
    record {
      idem = λ x. ap extent (body-idem x.body);
      comm = λ x y. ap extent (body-comm x.body y.body);
      assoc = λ x y z. ap extent (body-assoc x.body y.body z.body);
    }

pub extent-equals : Equals same_extent
extent-equals =
    record {
      sound = λ x y h. ap extent (body-sound x.body y.body h);
      whole = λ x. body-whole x.body;
    }

pub extent-unchanged : (x y : Extent) → (joined_extent x y).changed ≡ false → Takes join_extent x y
extent-unchanged = unchanged join_extent extent-equals

pub extent-still : (x y : Extent) → Takes join_extent x y → (joined_extent x y).changed ≡ false
extent-still = still join_extent extent-equals

-- four extents: lists joined and compared element by element
bodies-each : (xs ys : List Extent) → join_bodies xs ys ≡ each join_extent xs ys
bodies-each [] ys = refl
bodies-each (x ∷ xs) [] = refl
bodies-each (x ∷ xs) (y ∷ ys) = ap (λ (l : List Extent). join_extent x y ∷ l) (bodies-each xs ys)

bodies-each_same : (xs ys : List Extent) → same_bodies xs ys ≡ each_same same_extent xs ys
bodies-each_same [] [] = refl
bodies-each_same [] (y ∷ ys) = refl
bodies-each_same (x ∷ xs) [] = refl
bodies-each_same (x ∷ xs) (y ∷ ys) = ap (λ (b : Bool). same_extent x y && b) (bodies-each_same xs ys)

pub bodies-joins : Joins join_bodies
bodies-joins =
    record {
      idem = λ xs. bodies-each xs xs ∙ (each-joins extent-joins).idem xs;
      comm = λ xs ys. bodies-each xs ys ∙ (each-joins extent-joins).comm xs ys ∙ sym (bodies-each ys xs);
      assoc = λ xs ys zs. rw (bodies-each xs ys, bodies-each ys zs, bodies-each (each join_extent xs ys) zs, bodies-each xs (each join_extent ys zs)) ((each-joins extent-joins).assoc xs ys zs);
    }

pub bodies-equals : Equals same_bodies
bodies-equals =
    record {
      sound = λ xs ys h. (each-equals extent-equals).sound xs ys (sym (bodies-each_same xs ys) ∙ h);
      whole = λ xs. bodies-each_same xs xs ∙ (each-equals extent-equals).whole xs;
    }
