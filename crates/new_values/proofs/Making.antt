-- New values by what the code is given are the definition's of any visit.
use Prim.Native.Nat.{ℕ}
use mathlib.Core.Path.{◌≡◌, refl}
use mathlib.Core.Bool.{true}
use mathlib.Core.Option.{some}
use Rattle.widths.specs.Shape.{shape_mask, declared_width}
use Rattle.cells.specs.Cell.{owned_width}
use Rattle.ops.specs.declared.Makes.TheVariants.{Constant, Reply, Part, NativeValue}
use Rattle.definition.specs.Module.{Site, Native}
use Rattle.definition.specs.Data.{fresh}
use Rattle.definition.specs.Outputs.{Visit, arg, instr, constant_cell, field_cell, native_cell, at, reply_shape, reply_cell, first_output}
use Rattle.new_values.specs.Making.{native_by}

pub native-by : (n : Native) (float : ℕ) → native_cell (some n) float ≡ native_by n.shape n.snapshot
unfolding native_cell native_by
native-by n float = refl

-- the first output in the cases that the code of this crate makes
pub first-constant : (v : Visit) → first_output v Constant ≡ constant_cell (instr v) v.code.float
unfolding first_output
first-constant v = refl

pub first-reply : (v : Visit) (x : Site) → v.line.site ≡ some x
    → first_output v Reply ≡ fresh (shape_mask x.reply) (declared_width x.reply) (owned_width (declared_width x.reply) true)
unfolding first_output reply_cell reply_shape
first-reply v x h = rw h

pub first_part : (v : Visit) → first_output v Part ≡ field_cell (instr v) (arg v 0).flow.owned v.code.float
unfolding first_output
first_part v = refl

pub first-native : (v : Visit) (n : Native) → at v.code.natives (instr v).a ≡ some n
    → first_output v NativeValue ≡ native_by n.shape n.snapshot
unfolding first_output native_cell native_by
first-native v n h = rw h
