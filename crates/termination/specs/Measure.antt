-- How far cells, states and facts can still grow: a number that every join that changes something makes smaller. `most` is a size that no
-- range passes.
use Rattle.std.specs.Prelude.{ℕ, ◌+◌, ◌*◌, ◌-◌, Bool, true, false, Option, None, Some}
use Rattle.masks.specs.declared.Mask.{Mask}
use Rattle.widths.specs.declared.Width.{Width}
use Rattle.widths.specs.declared.Width.TheVariants.{Unknown as Wide, Scalar, Body}
use Rattle.extents.specs.declared.BodyExtent.{BodyExtent}
use Rattle.extents.specs.declared.BodyExtent.TheVariants.{Absent, Range, Unknown}
use Rattle.extents.specs.declared.Extent.{Extent}
use Rattle.flows.specs.declared.Predicate.{Predicate}
use Rattle.flows.specs.declared.Predicate.TheVariants.{Nothing as Untested, Tests}
use Rattle.flows.specs.declared.Flow.{Flow}
use Rattle.cells.specs.declared.Cell.{Cell}
use Rattle.definition.specs.State.{State, Facts, Live}
use Rattle.definition.specs.Leaves.{closed, moved}
use Rattle.termination.specs.Left.{total}

-- a mask is a number of 16 bits, and a join sets some
unfoldable pub mask_left : Mask → ℕ
mask_left m = 65535 - m.bits

unfoldable pub width_left : Width → ℕ
width_left Wide = 0
width_left (Scalar n) = 1
width_left (Body n) = 1

-- absent, then a range whose lower end falls and whose upper end rises, then unknown
unfoldable pub body_left : ℕ → BodyExtent → ℕ
body_left most Absent = most + most + 3
body_left most (Range a b) = a + (most - b) + 2
body_left most Unknown = 1

unfoldable pub extent_left : ℕ → Extent → ℕ
extent_left most x = body_left most x.body

unfoldable pub owned_left : Bool → ℕ
owned_left false = 1
owned_left true = 0

unfoldable pub origin_left : Option ℕ → ℕ
origin_left None = 0
origin_left (Some l) = 1

unfoldable pub predicate_left : Predicate → ℕ
predicate_left Untested = 0
predicate_left (Tests r w) = 1

unfoldable pub flow_left : ℕ → Flow → ℕ
flow_left most f = total (extent_left most) f.bodies + (owned_left f.owned + (origin_left f.origin + predicate_left f.predicate))

unfoldable pub cell_left : ℕ → Cell → ℕ
cell_left most c = mask_left c.mask + (width_left c.width + flow_left most c.flow)

unfoldable pub state_left : ℕ → State → ℕ
state_left most s = total (cell_left most) s.stack + total (cell_left most) s.locals

unfoldable pub facts_left : ℕ → Facts → ℕ
facts_left most f =
    total (total (cell_left most)) f.inputs
    + (total (cell_left most) f.results
    + (total mask_left f.masks
    + total (flow_left most) f.flows))

unfoldable pub one_if : Bool → ℕ
one_if true = 1
one_if false = 0

-- a round's facts: as it would close them, and one more where it moved them
unfoldable pub changes_left : ℕ → Live → ℕ
changes_left most f = facts_left most (closed f) + one_if (moved f)

-- the most that a cell can have
unfoldable pub cell_most : ℕ → ℕ
cell_most most = 65535 + (1 + (4 * (most + most + 3) + 3))
