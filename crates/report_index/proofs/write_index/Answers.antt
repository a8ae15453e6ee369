-- `report_index::write_index` meets its contract. Invariant: the entries of the records from `at` on are left to write.
use Prim.Native.Nat.{◌-◌}
use mathlib.Core.Path.{refl, sym, ◌∙◌}
use native.Mathlib.Omega.{arith}
use Rattle.lookup.specs.Find.{entry_at}
use Rattle.lookup.proofs.Turns.{entries-start, entries-end, entries-overrun, entries-record, entries-other}
use Rattle.report_index.proofs.Wrote.{left-start, left-long, left-room, left-turn, left_end}
use Rattle.report_index.proofs.write_index.Goals as goal

pub loop-at-init : goal.loop-at-init
loop-at-init c = (refl, omega arith, left-start _ (entries-start _))

pub shape_of-index-then-n-end : goal.shape_of-index-then-n-end
shape_of-index-then-n-end c = left-long c.loop-at.invariant.2

pub returns-then-n-end : goal.returns-then-n-end
returns-then-n-end c =
    let l = c.loop-at in
    let e = c.end_at-end.ensures.0 in
    left_end (rw (entries-overrun _ l.at c.loop-at-test.true (rw e at c.if-n-end.true)) at l.invariant.2)

pub put_entry-to-requires : goal.put_entry-to-requires
unfolding entry_at
put_entry-to-requires c =
    let l = c.loop-at in
    let e = c.end_at-end.ensures.0 in
    let w = rw (entries-record _ l.at c.loop-at-test.true (rw e at c.if-n-end.false) (sym c.is_record.ensures ∙ c.if-is_record.true)) at l.invariant.2 in
    record { at_in_bounds = left-room w c.requires.report_in_bounds; first_bound = rw c.entry_at.ensures (omega arith, omega arith) }

pub loop-at-preserved-then-is_record : goal.loop-at-preserved-then-is_record
loop-at-preserved-then-is_record c =
    let l = c.loop-at in
    let e = c.end_at-end.ensures.0 in
    let w = rw (entries-record _ l.at c.loop-at-test.true (rw e at c.if-n-end.false) (sym c.is_record.ensures ∙ c.if-is_record.true)) at l.invariant.2 in
    (refl, omega arith, rw e (left-turn w (rw c.entry_at.ensures at c.put_entry-to.ensures)))

pub loop-at-preserved : goal.loop-at-preserved
loop-at-preserved c =
    let l = c.loop-at in
    let e = c.end_at-end.ensures.0 in
    (refl, omega arith, rw e (rw (entries-other _ l.at c.loop-at-test.true (rw e at c.if-n-end.false) (sym c.is_record.ensures ∙ c.if-is_record.false)) at l.invariant.2))

pub shape_of-index : goal.shape_of-index
shape_of-index c = left-long c.loop-at.invariant.2

pub returns : goal.returns
returns c =
    let l = c.loop-at in
    left_end (rw (entries-end _ l.at c.loop-at-test.false) at l.invariant.2)
