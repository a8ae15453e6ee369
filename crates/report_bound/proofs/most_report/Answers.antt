-- `report_bound::most_report` meets its contract: what is summed up and what is still to come is the bound.
use Prim.Native.Nat.{◌-◌, ◌≤◌}
use native.Mathlib.Omega.{arith}
use borrow.Author.Rules.{rules}
use Rattle.report_bound.proofs.Sums.{sum-start, sum_more, sum-end}
use Rattle.report_bound.proofs.most_report.Goals as goal

pub loop-p-init : goal.loop-p-init
loop-p-init c =
    let e = c.header_at-h.ensures in
    let b : c.header_at-h.result.slots ≤ 65535 = search rules in
    (e, rw e (sum-start _ (rw e at b)))

pub overflow_add-n-in-loop-p : goal.overflow_add-n-in-loop-p
overflow_add-n-in-loop-p c = let i = c.loop-p.invariant.1 in omega (arith, i.small, c.field_most-n.ensures.1, c.loop-p-test.true, c.requires)

pub within_after-w-requires : goal.within_after-w-requires
within_after-w-requires c = let i = c.loop-p.invariant.1 in (search rules, omega (arith, i.few, c.loop-p-test.true, c.requires))

pub loop-p-preserved : goal.loop-p-preserved
loop-p-preserved c =
    let i = c.loop-p.invariant in
    let e = i.0 in (
      e,
      rw (c.next_at-p.ensures.0, c.within_after-w.ensures, e)
          (sum_more _ _ _ _ _ c.loop-p-test.true i.1 (rw e at c.field_most-n.ensures.0) c.field_most-n.ensures.1),
    )

pub returns : goal.returns
returns c = sum-end _ _ _ _ c.loop-p-test.false c.loop-p.invariant.1
