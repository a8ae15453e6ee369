-- Cells: what types.rs keeps as tag, width and flow of one place. `value_fact` is `declared`, `ValueFact::join` of bare cells and `Facts::join` are `join_cell`.
use Rattle.std.specs.Prelude.{ℕ, ◌-◌, Bool, cond, not, ◌&&◌, get_or, true, false}
use Rattle.std.specs.Int.Count.{count_trailing_zeros}
use Rattle.masks.specs.declared.Mask.{Mask}
use Rattle.masks.specs.Mask.{union, same, kind, one_kind, has}
use Rattle.masks.specs.Names.{UNIT, ENUM, BODY}
use Rattle.widths.specs.declared.Width.{Width}
use Rattle.widths.specs.declared.Width.TheVariants.{Unknown as Wide, Scalar, Body}
use Rattle.widths.specs.declared.Shape.{Shape}
use Rattle.widths.specs.Width.{join_width, same_width, scalar_width}
use Rattle.widths.specs.Shape.{shape_mask, declared_width}
use Rattle.extents.specs.Extent.{exact_width}
use Rattle.flows.specs.declared.Flow.{Flow}
use Rattle.flows.specs.Flow.{join_flow, same_flow, no_flow, new_flow, invalidated, bare, absent}
use Rattle.cells.specs.declared.Cell.{Cell}
use Rattle.cells.specs.declared.JoinedCell.{JoinedCell}

-- owned, if a body of known size is
abbrev pub owned_width : Width → Bool → Bool
owned_width Wide owns = false
owned_width (Scalar n) owns = false
owned_width (Body n) owns = owns

-- a local that was not written
unfoldable pub unit_cell : Cell
unit_cell = record { mask = UNIT; width = Scalar 0; flow = no_flow }

-- what a rule that gives only a mask makes of it
unfoldable pub made : Mask → ℕ → Cell
made m float = record { mask = m; width = scalar_width m float; flow = new_flow m (scalar_width m float) false }

-- what a declared shape says of a value
unfoldable pub declared : Shape → Bool → Cell
declared s owns =
    record {
      mask = shape_mask s;
      width = declared_width s;
      flow = new_flow (shape_mask s) (declared_width s) (owned_width (declared_width s) owns);
    }

unfoldable pub join_cell : Cell → Cell → Cell
join_cell x y =
    record {
      mask = union x.mask y.mask;
      width = join_width x.width y.width;
      flow = join_flow x.flow y.flow;
    }

unfoldable pub same_cell : Cell → Cell → Bool
same_cell x y = same x.mask y.mask && (same_width x.width y.width && same_flow x.flow y.flow)

abbrev pub joined_cell : Cell → Cell → JoinedCell
joined_cell x y = record { cell = join_cell x y; changed = not (same_cell x (join_cell x y)) }

unfoldable pub invalidated_cell : Cell → ℕ → Cell
invalidated_cell x l = record { mask = x.mask; width = x.width; flow = invalidated x.flow l }

unfoldable pub bare_cell : Cell → Cell
bare_cell x = record { mask = x.mask; width = x.width; flow = bare x.flow }

-- the cell once its value is known to be an enum; its other extents stay
unfoldable pub narrow_enum : Cell → Cell
narrow_enum x = record { mask = ENUM; width = exact_width (get_or x.flow.bodies 3 absent); flow = x.flow }

-- the size of a value of one kind, a body's from the extent of its kind
unfoldable pub guarded_width : Mask → Flow → ℕ → Width
guarded_width m f float =
    cond (one_kind m && has (kind m) BODY)
    (exact_width (get_or f.bodies (count_trailing_zeros 16 (kind m).bits - 8) absent))
    (scalar_width m float)
