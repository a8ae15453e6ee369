use Prim.Native.Nat.{◌+◌}
use mathlib.Core.Path.{sym, ap, ◌∙◌}
use mathlib.Core.Bool.{Bool, cond}
use Rattle.step.proofs.height_after.Goals as goal

pub returns-then-resets : goal.returns-then-resets
returns-then-resets c =
    let v = c.args.v in
    ap (λ (b : Bool). cond b v.ins.given (v.start + v.ins.given)) (sym c.if-resets.true ∙ c.resets.ensures)

pub returns-else-resets : goal.returns-else-resets
returns-else-resets c =
    let v = c.args.v in
    ap (λ (b : Bool). cond b v.ins.given (v.start + v.ins.given)) (sym c.if-resets.false ∙ c.resets.ensures)
