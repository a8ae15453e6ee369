-- Declared shapes: `shape` of types.rs, and the width that the description carries in place of `width_of_declared_shape`.
use Rattle.std.specs.Prelude.{cond, eqb}
use Rattle.masks.specs.declared.Mask.{Mask}
use Rattle.masks.specs.Mask.{scalar, body}
use Rattle.masks.specs.Names.{UNKNOWN}
use Rattle.widths.specs.declared.Width.{Width}
use Rattle.widths.specs.declared.Width.TheVariants.{Unknown as Wide, Scalar, Body}
use Rattle.widths.specs.declared.Shape.{Shape}

-- `shape` of types.rs
unfoldable pub shape_mask : Shape → Mask
shape_mask s = cond (eqb s.tag 1) (scalar s.kind) (cond (eqb s.tag 2) (body s.kind) UNKNOWN)

unfoldable pub declared_width : Shape → Width
declared_width s = cond (eqb s.width 1) (Scalar s.size) (cond (eqb s.width 2) (Body s.size) Wide)
