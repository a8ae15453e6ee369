-- `form_rules::contents::tags_fine` meets its contract.
use mathlib.Core.Path.{refl}
use Rattle.form_rules.proofs.contents.Laws.{tags-again, tags-done}
use Prim.Native.Nat.{◌+◌, ◌-◌}
use native.Mathlib.Numerals.{unary_clauses}
use native.Mathlib.Omega.{arith}
use Rattle.form_rules.proofs.contents.tags_fine.Goals as goal

pub loop-k-init : goal.loop-k-init
loop-k-init c = simp unary_clauses refl

pub loop-k-preserved : goal.loop-k-preserved
loop-k-preserved c = tags-again _ c.args.from _ _ _ c.loop-k.fine _ c.loop-k-test.true c.u8_at.ensures c.loop-k.invariant

pub returns : goal.returns
returns c = tags-done _ (c.args.from + c.loop-k.k) (c.args.count - c.loop-k.k) c.loop-k.fine _ (omega (arith, c.loop-k-test.false)) c.loop-k.invariant
