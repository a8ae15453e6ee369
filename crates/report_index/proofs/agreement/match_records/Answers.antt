-- `report_index::agreement::match_records` meets its contract. Invariant: the records before `at` are counted, and each is among the entries.
use Prim.Native.Nat.{◌-◌}
use native.Mathlib.Omega.{arith}
use mathlib.Core.Path.{refl}
use lib.ListN.{length}
use Rattle.lookup.proofs.Turns.{entries-end, entries-overrun}
use Rattle.report_index.specs.Index.{entries_no}
use Rattle.report_index.proofs.agreement.Laws.{length-entries, tally-start, tally-end, tally-other, tally-record, tally-missing}
use Rattle.report_index.proofs.agreement.match_records.Goals as goal

pub loop-at-init : goal.loop-at-init
loop-at-init c =
    let a = c.args in
    (refl, omega arith, omega arith, tally-start a.report.now (entries_no a.index.now 0 a.n))

pub returns-then-m-end : goal.returns-then-m-end
returns-then-m-end c =
    let a = c.args in
    let l = c.loop-at in
    let fs = entries_no a.index.now 0 a.n in
    let e = c.end_at-end.ensures.0 in
    tally-end a.report.now fs l.at l.records l.invariant.3 a.n (length-entries a.index.now a.n 0) (entries-overrun a.report.now l.at c.loop-at-test.true (rw e at c.if-m-end.true))

pub returns-then-not-is_among : goal.returns-then-not-is_among
returns-then-not-is_among c =
    let a = c.args in
    let l = c.loop-at in
    let fs = entries_no a.index.now 0 a.n in
    tally-missing a.report.now fs l.at l.records l.invariant.3 c.loop-at-test.true c.end_at-end.result c.end_at-end.ensures.0 c.if-m-end.false
    c.is_record.result c.is_record.ensures c.if-is_record.true c.entry_at.result c.entry_at.ensures c.is_among.result c.is_among.ensures
    c.if-not-is_among.true

pub loop-at-preserved-else-not-is_among : goal.loop-at-preserved-else-not-is_among
loop-at-preserved-else-not-is_among c =
    let a = c.args in
    let l = c.loop-at in
    let fs = entries_no a.index.now 0 a.n in
    let t = tally-record a.report.now fs l.at l.records l.invariant.3 c.loop-at-test.true c.end_at-end.result c.end_at-end.ensures.0 c.if-m-end.false
    c.is_record.result c.is_record.ensures c.if-is_record.true c.entry_at.result c.entry_at.ensures c.is_among.result c.is_among.ensures c.if-not-is_among.false in
    (refl, omega arith, omega arith, t)

pub loop-at-preserved : goal.loop-at-preserved
loop-at-preserved c =
    let a = c.args in
    let l = c.loop-at in
    let fs = entries_no a.index.now 0 a.n in
    let t = tally-other a.report.now fs l.at l.records l.invariant.3 c.loop-at-test.true c.end_at-end.result c.end_at-end.ensures.0 c.if-m-end.false c.is_record.result c.is_record.ensures c.if-is_record.false in
    (refl, omega arith, omega arith, t)

pub returns : goal.returns
returns c =
    let a = c.args in
    let l = c.loop-at in
    let fs = entries_no a.index.now 0 a.n in
    tally-end a.report.now fs l.at l.records l.invariant.3 a.n (length-entries a.index.now a.n 0) (entries-end a.report.now l.at c.loop-at-test.false)
