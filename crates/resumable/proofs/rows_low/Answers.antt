-- `resumable::rows_low` meets its contract. Invariant: the rows before i are low.
use Prim.Native.Nat.{ℕ}
use native.Mathlib.Omega.{arith}
use borrow.Author.Count.{below_none, below_more}
use mathlib.Core.Path.{ap}
use lib.ListN.{get_or}
use Rattle.resumable.proofs.Decides.{yes, no}
use Rattle.resumable.proofs.Low.{stack-small, row-counted, low_rows, rows-low}
use Rattle.resumable.proofs.rows_low.Goals as goal

pub chunk_at-ch-requires : goal.chunk_at-ch-requires
chunk_at-ch-requires c = c.requires

pub loop-i-init : goal.loop-i-init
loop-i-init c = (below_none _, c.chunk_at-ch.ensures, c.recorded_count-count.ensures)

pub overflow_add-ch : goal.overflow_add-ch
overflow_add-ch c =
    let a = c.args in
    omega (arith, stack-small a.s.now a.ws.now a.c _ c.loop-i.invariant.1 c.requires.indexed c.requires.c_in_bounds)

pub row_at-requires : goal.row_at-requires
row_at-requires c =
    let a = c.args in
    let i = c.loop-i.invariant in
    let r = row-counted a.s.now a.ws.now a.c _ i.1 _ i.2 c.requires.indexed c.requires.c_in_bounds c.loop-i.i c.loop-i-test.true in
    omega (arith, r.at, r.small)

pub row_height-requires : goal.row_height-requires
row_height-requires c =
    let a = c.args in
    let i = c.loop-i.invariant in
    let r = row-counted a.s.now a.ws.now a.c _ i.1 _ i.2 c.requires.indexed c.requires.c_in_bounds c.loop-i.i c.loop-i-test.true in
    omega (arith, c.row_at.ensures, r.at, r.room)

pub returns-then-ch-row_height : goal.returns-then-ch-row_height
returns-then-ch-row_height c =
    let a = c.args in
    let i = c.loop-i.invariant in
    no (λ low.
    omega (
      arith,
      c.if-ch-row_height.true,
      c.row_height.ensures,
      ap (λ (k : ℕ). get_or a.ws.now k 0) c.row_at.ensures,
      low_rows a.s.now a.ws.now a.c _ i.1 _ i.2 c.requires.c_in_bounds low c.loop-i.i c.loop-i-test.true,
    ))

pub loop-i-preserved : goal.loop-i-preserved
loop-i-preserved c =
    let i = c.loop-i.invariant in (
      below_more _ _ i.0 (omega (arith, c.if-ch-row_height.false, c.row_height.ensures, ap (λ (k : ℕ). get_or c.args.ws.now k 0) c.row_at.ensures)),
      i.1,
      i.2,
    )

pub returns : goal.returns
returns c =
    let a = c.args in
    let i = c.loop-i.invariant in
    yes (rows-low a.s.now a.ws.now a.c _ i.1 _ i.2 (λ k l. i.0 k (omega (arith, c.loop-i-test.false))))
