-- `listing::lines` meets its contract.
use Prim.Native.Nat.{◌-◌}
use native.Mathlib.Omega.{arith}
use Rattle.listing.proofs.Laid.{rest_all, rest-on, rest-none}
use Rattle.listing.proofs.Turns.{lines_from, lines-turn, lines-over, lines_end}
use Rattle.listing.proofs.lines.Goals as goal

pub loop-p-init : goal.loop-p-init
loop-p-init c = rest_all _ _ _ (omega arith)

pub returns-then-s-next : goal.returns-then-s-next
unfolding lines_from
returns-then-s-next c =
    let e = c.end_at-next.ensures.0 in
    rest-none (rw (lines-over _ _ _ c.loop-p-test.true (rw e at c.if-s-next.true)) at c.loop-p.invariant)

pub line-to-requires : goal.line-to-requires
line-to-requires c = (omega arith, omega arith)

pub loop-p-preserved : goal.loop-p-preserved
loop-p-preserved c =
    let l = c.loop-p in
    let e = c.end_at-next.ensures.0 in
    rest-on l.invariant c.line-to.ensures
    (rw e (lines-turn _ _ _ c.loop-p-test.true (rw e at c.if-s-next.false)))

pub returns : goal.returns
unfolding lines_from
returns c = rest-none (rw (lines_end _ _ _ c.loop-p-test.false) at c.loop-p.invariant)
