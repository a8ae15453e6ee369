-- `receiver_fault` meets its contract.
use mathlib.Core.Path.{ap, refl, ◌∙◌}
use mathlib.Core.Bool.{true, false}
use Rattle.masks.specs.Mask.{same}
use Rattle.masks.specs.Names.{STRUCT}
use Rattle.definition.specs.Start.{under_eight}
use Rattle.rounds.proofs.inspecting.Fault.{fault-struct, fault-enum}
use Rattle.rounds.proofs.inspecting.receiver_fault.Goals as goal

pub returns-then-has-ne : goal.returns-then-has-ne
returns-then-has-ne c =
    fault-struct c.args.op c.args.c c.has.result (same c.args.c.mask STRUCT) true c.if-op-eq-IS_STRUCT.true c.has.ensures
    refl (rw c.ne.ensures at c.if-has-ne.true)

pub returns-else-has-ne : goal.returns-else-has-ne
returns-else-has-ne c =
    fault-struct c.args.op c.args.c c.has.result (same c.args.c.mask STRUCT) false c.if-op-eq-IS_STRUCT.true c.has.ensures
    refl (rw c.ne.ensures at c.if-has-ne.false)

pub returns-then-has-below_discriminant : goal.returns-then-has-below_discriminant
returns-then-has-below_discriminant c =
    fault-enum c.args.op c.args.c c.has-2.result c.below_discriminant.result true c.if-op-eq-IS_STRUCT.false c.has-2.ensures
    (c.below_discriminant.ensures ∙ ap under_eight c.minimum.ensures) c.if-has-below_discriminant.true

pub returns : goal.returns
returns c =
    fault-enum c.args.op c.args.c c.has-2.result c.below_discriminant.result false c.if-op-eq-IS_STRUCT.false c.has-2.ensures
    (c.below_discriminant.ensures ∙ ap under_eight c.minimum.ensures) c.if-has-below_discriminant.false
