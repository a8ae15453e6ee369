-- `form_rules::contents::shapes_fine` meets its contract.
use mathlib.Core.Path.{refl, ◌∙◌, ap}
use Rattle.definition.specs.Form.{shape_fine}
use Rattle.form_rules.proofs.contents.Laws.{shapes-again, shapes-done}
use Prim.Native.Nat.{◌+◌, ◌*◌, ◌-◌}
use native.Mathlib.Numerals.{unary_clauses}
use native.Mathlib.Omega.{arith}
use Rattle.form_rules.proofs.contents.shapes_fine.Goals as goal

pub loop-k-init : goal.loop-k-init
loop-k-init c = simp unary_clauses refl

pub loop-k-preserved : goal.loop-k-preserved
loop-k-preserved c = shapes-again _ c.args.from _ _ _ c.loop-k.fine _ c.loop-k-test.true (c.shape_fine-fine.ensures ∙ ap shape_fine c.shape_at.ensures) c.loop-k.invariant

pub returns : goal.returns
returns c = shapes-done _ (c.args.from + 7 * c.loop-k.k) (c.args.count - c.loop-k.k) c.loop-k.fine _ (omega (arith, c.loop-k-test.false)) c.loop-k.invariant
