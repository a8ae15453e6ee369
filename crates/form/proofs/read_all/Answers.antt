-- `form::read_all` meets its contract: from each field on the walk gives the whole answer.
use mathlib.Core.Path.{sym, ◌∙◌}
use Prim.Native.Nat.{◌^◌}
use native.Mathlib.Omega.{arith}
use borrow.Author.Tests.{lt-ltb}
use Rattle.std.proofs.lemmas.Result.{err_from_is_err_and}
use Rattle.description.proofs.reader.Laws.{after_less}
use Rattle.definition.specs.Form.{form_of}
use Rattle.form.proofs.Within.{widen}
use Rattle.form.proofs.Walk.{walk_start, walk-go, walk-stop, walk_end, walk-counted}
use Rattle.form.proofs.read_all.Goals as goal

pub returns-then-s-gt-MOST_BYTES : goal.returns-then-s-gt-MOST_BYTES
unfolding form_of
returns-then-s-gt-MOST_BYTES c = rw (lt-ltb _ _ c.if-s-gt-MOST_BYTES.true, c.nowhere.ensures)

pub loop-at-init : goal.loop-at-init
loop-at-init c = walk_start _ (omega arith)

pub field_step-requires : goal.field_step-requires
field_step-requires c = (omega arith, widen _ _ (2 ^ 31) c.loop-at.invariant.bound (omega arith))

pub returns-in_err-scan : goal.returns-in_err-scan
returns-in_err-scan c =
    let p = err_from_is_err_and c.from_residual.result c.from_residual.ensures.1 in
    rw (p.1, p.2) (walk-stop _ _ _ _ c.loop-at.invariant _ c.loop-at-test.true (sym c.in_err-scan.ensures))

pub loop-at-smaller : goal.loop-at-smaller
loop-at-smaller c = after_less _ _ _ c.loop-at-test.true c.place_after-at.ensures

pub loop-at-preserved : goal.loop-at-preserved
loop-at-preserved c = rw c.place_after-at.ensures (walk-go _ _ _ _ c.loop-at.invariant c.in_ok-scan.scan c.loop-at-test.true (sym c.in_ok-scan.ensures))

pub finish-requires : goal.finish-requires
finish-requires c = (omega arith, widen _ _ (2 ^ 31) c.loop-at.invariant.bound (omega (arith, c.loop-at.invariant.inside)), walk-counted _ _ _ _ c.loop-at.invariant c.loop-at-test.false)

pub returns : goal.returns
returns c = c.finish.ensures ∙ walk_end _ _ _ _ c.loop-at.invariant c.loop-at-test.false
