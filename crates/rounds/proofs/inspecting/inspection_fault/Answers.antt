-- `inspection_fault` meets its contract.
use native.Mathlib.Omega.{arith}
use Prim.Native.Nat.{ℕ, ◌-◌}
use mathlib.Core.Path.{ap, ◌∙◌}
use Rattle.words.specs.Layout.{cell_at}
use Rattle.layout.specs.Layout.{place_at}
use Rattle.rounds.specs.inspecting.Fault.{receiver_fault}
use Rattle.rounds.proofs.inspecting.Fault.{stack-high, fault-none, fault-read}
use Rattle.rounds.proofs.inspecting.inspection_fault.Goals as goal

pub returns-then-op-height : goal.returns-then-op-height
returns-then-op-height c = λ stack locals. fault-none c.args.ws.now c.args.row c.args.op (rw c.row_height-height.ensures at c.if-op-height.true) stack locals

pub overflow_sub-height : goal.overflow_sub-height
overflow_sub-height c = stack-high c.args.op c.row_height-height.result c.if-op-height.false

pub load-requires : goal.load-requires
load-requires c = omega (arith, stack-high c.args.op c.row_height-height.result c.if-op-height.false, c.place_at.ensures, c.row_height-height.ensures, c.requires.room)

pub returns : goal.returns
returns c =
    λ stack locals.
    c.receiver_fault.ensures
    ∙ ap (receiver_fault c.args.op) (c.load.ensures ∙ ap (cell_at c.args.ws.now) (c.place_at.ensures ∙ ap (λ (n : ℕ). place_at c.args.row (n - 2)) c.row_height-height.ensures))
    ∙ fault-read c.args.ws.now c.args.row c.args.op (rw c.row_height-height.ensures at c.if-op-height.false) stack locals
