-- What the derived `==` of extents answers.
use mathlib.Core.Path.{◌≡◌, refl}
use mathlib.Core.Bool.{◌&&◌}
use mathlib.Core.List.{List, [], ◌∷◌}
use lib.Pointwise.{pointwise}
use Rattle.extents.specs.declared.BodyExtent.{BodyExtent}
use Rattle.extents.specs.declared.BodyExtent.TheVariants.{Absent, Range, Unknown}
use Rattle.extents.specs.declared.Extent.{Extent}
use Rattle.extents.specs.Extent.{same_extent, same_bodies}
use Rattle.extents.specs.contracts.ExtentPartialEq.TheImpl as extent

body-same : (x y : BodyExtent) → extent.ghosts.eq (record { body = x }) (record { body = y }) ≡ same_extent (record { body = x }) (record { body = y })
body-same Absent Absent = refl
body-same Absent (Range c d) = refl
body-same Absent Unknown = refl
body-same (Range a b) Absent = refl
body-same (Range a b) (Range c d) = refl
body-same (Range a b) Unknown = refl
body-same Unknown Absent = refl
body-same Unknown (Range c d) = refl
body-same Unknown Unknown = refl

pub extent-same : (x y : Extent) → extent.ghosts.eq x y ≡ same_extent x y
extent-same x y = body-same x.body y.body

pub bodies-same : (xs ys : List Extent) → pointwise extent.ghosts.eq xs ys ≡ same_bodies xs ys
bodies-same [] [] = refl
bodies-same [] (y ∷ ys) = refl
bodies-same (x ∷ xs) [] = refl
bodies-same (x ∷ xs) (y ∷ ys) = λ i. extent-same x y i && bodies-same xs ys i
