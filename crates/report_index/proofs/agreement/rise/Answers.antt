-- `report_index::agreement::rise` meets its contract. Invariant: the first k entries rise.
use native.Mathlib.Omega.{arith}
use mathlib.Core.Path.{sym}
use Rattle.report_index.proofs.entries.Laws.{climbing-rises, climbing-more, climbing-ends}
use Rattle.report_index.proofs.agreement.rise.Goals as goal

pub loop-k-init : goal.loop-k-init
loop-k-init c = λ j l. absurd (omega arith)

pub returns-then-not-is_before : goal.returns-then-not-is_before
returns-then-not-is_before c =
    let a = c.args in
    let l = c.loop-k in
    let e = rw c.entry_no-e.ensures at c.is_before.ensures in
    sym (climbing-ends a.index.now l.k c.is_before.result e a.n c.loop-k.auto.k c.loop-k-test.true c.if-not-is_before.true)

pub loop-k-preserved : goal.loop-k-preserved
loop-k-preserved c =
    let a = c.args in
    let l = c.loop-k in
    let e = rw c.entry_no-e.ensures at c.is_before.ensures in
    climbing-more a.index.now l.k c.is_before.result e l.invariant c.if-not-is_before.false

pub returns : goal.returns
returns c =
    let a = c.args in
    sym (climbing-rises a.index.now a.n (λ j l. c.loop-k.invariant j (omega (arith, c.loop-k-test.false))))
