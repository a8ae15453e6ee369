use Rattle.index_fill.proofs.Walking.{going-first, first_fits, going-code, going-slots, going-tables, going_next, going_done}
use native.Mathlib.Omega.{arith}
use Prim.Native.Nat.{◌-◌}
use Rattle.index_fill.proofs.walk.Goals as goal

pub first_tables-t-requires : goal.first_tables-t-requires
first_tables-t-requires c = c.requires.good

pub first_work-w-requires : goal.first_work-w-requires
first_work-w-requires c = first_fits _ _ _ c.requires.good c.first_tables-t.ensures

pub second-at-requires : goal.second-at-requires
second-at-requires c = tt

pub loop-at-init : goal.loop-at-init
loop-at-init c = going-first _ _ _ _ _ _ _ c.requires.good c.requires.queue_in_bounds c.first_tables-t.ensures c.first_work-w.ensures c.second-at.ensures

pub fill_code-w-requires : goal.fill_code-w-requires
fill_code-w-requires c = going-code _ _ _ _ _ _ _ _ c.loop-at.invariant _ c.loop-at-test.true c.tag_at-tag.ensures

pub fill_slot-requires : goal.fill_slot-requires
fill_slot-requires c = going-slots _ _ _ _ _ _ _ _ c.loop-at.invariant c.fill_code-w.new.ws c.fill_code-w.auto.ws

pub tables_after-t-requires : goal.tables_after-t-requires
tables_after-t-requires c = going-tables _ _ _ _ _ _ _ _ c.loop-at.invariant

pub next_at-at-requires : goal.next_at-at-requires
next_at-at-requires c = omega (arith, c.loop-at.invariant.place)

pub loop-at-smaller : goal.loop-at-smaller
loop-at-smaller c = omega (arith, c.next_at-at.ensures, c.loop-at-test.true)

pub loop-at-preserved : goal.loop-at-preserved
loop-at-preserved c =
    going_next _ _ _ _ _ _ _ _ _ _ _ _ _ _ c.loop-at.invariant c.loop-at-test.true c.tag_at-tag.ensures c.fill_code-w.ensures.0 c.fill_code-w.ensures.1
    c.fill_slot.ensures
    c.tables_after-t.ensures
    c.next_at-at.ensures.0
    c.next_at-at.ensures.2

pub shape_of-ws : goal.shape_of-ws
shape_of-ws c = c.loop-at.invariant.long

pub returns : goal.returns
returns c = going_done _ _ _ _ _ _ _ _ c.loop-at.invariant c.loop-at-test.false c.requires.good c.requires.queue_in_bounds
