-- `clear_rows` meets its contract: the rows before the next have no state.
use native.Mathlib.Omega.{arith}
use mathlib.Core.Path.{◌≡◌}
use Rattle.rounds.proofs.entering.Rows.{cleared-none, cleared_more}
use Rattle.rounds.proofs.entering.clear_rows.Goals as goal

pub loop-i-init : goal.loop-i-init
loop-i-init c = cleared-none c.args.ch c.args.ws.now

pub row_at-requires : goal.row_at-requires
row_at-requires c = c.requires.small c.loop-i.i (omega arith)

pub set_row-requires : goal.set_row-requires
set_row-requires c =
    omega (arith, c.row_at.ensures, c.loop-i.invariant.long, c.requires.room c.loop-i.i (omega arith))

pub loop-i-preserved : goal.loop-i-preserved
loop-i-preserved c =
    rw (c.set_row.ensures, c.row_at.ensures)
    (cleared_more c.args.ch c.loop-i.i c.args.ws.now c.loop-i.ws (c.requires.room c.loop-i.i (omega arith)) c.loop-i.invariant)

pub returns : goal.returns
returns c =
    let e : c.loop-i.i ≡ c.args.ch.count = omega arith in
    rw e at c.loop-i.invariant
