-- What a native gives, from the values that the code is given.
use Rattle.std.specs.Prelude.{Bool}
use Rattle.widths.specs.declared.Shape.{Shape}
use Rattle.widths.specs.Shape.{shape_mask, declared_width}
use Rattle.cells.specs.declared.Cell.{Cell}
use Rattle.definition.specs.Data.{fresh}
use Rattle.definition.specs.Outputs.{owned_if}

unfoldable pub native_by : Shape → Bool → Cell
native_by s snapshot = fresh (shape_mask s) (declared_width s) (owned_if snapshot)
