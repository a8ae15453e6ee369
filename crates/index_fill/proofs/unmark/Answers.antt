use Rattle.index_fill.proofs.model.Unmarked.{unmarked-none, unmarked-more}
use mathlib.Core.Path.{◌≡◌}
use native.Mathlib.Omega.{arith}
use Rattle.index_fill.proofs.unmark.Goals as goal

pub loop-slot-init : goal.loop-slot-init
loop-slot-init c = unmarked-none _ _

pub loop-slot-preserved : goal.loop-slot-preserved
loop-slot-preserved c = rw c.slot_at-at.ensures (unmarked-more _ _ _ _ c.loop-slot.invariant)

pub returns : goal.returns
returns c =
    let e : c.loop-slot.slot ≡ c.args.t.slots = omega arith in
    rw e at c.loop-slot.invariant
