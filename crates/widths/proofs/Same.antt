-- What the derived `==` of widths answers.
use mathlib.Core.Path.{◌≡◌, refl}
use Rattle.widths.specs.declared.Width.{Width}
use Rattle.widths.specs.declared.Width.TheVariants.{Unknown, Scalar, Body}
use Rattle.widths.specs.Width.{same_width}
use Rattle.widths.specs.contracts.WidthPartialEq.TheImpl as width

pub width-same : (x y : Width) → width.ghosts.eq x y ≡ same_width x y
width-same Unknown Unknown = refl
width-same Unknown (Scalar b) = refl
width-same Unknown (Body b) = refl
width-same (Scalar a) Unknown = refl
width-same (Scalar a) (Scalar b) = refl
width-same (Scalar a) (Body b) = refl
width-same (Body a) Unknown = refl
width-same (Body a) (Scalar b) = refl
width-same (Body a) (Body b) = refl
