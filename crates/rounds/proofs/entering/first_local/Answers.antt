-- `first_local` meets its contract, by a copy or by a store.
use native.Mathlib.Omega.{arith}
use Rattle.rounds.proofs.entering.Rows.{filled_copy, filled-unit}
use Rattle.rounds.proofs.entering.first_local.Goals as goal

pub returns-then-i-ch : goal.returns-then-i-ch
returns-then-i-ch c =
    filled_copy c.args.ch c.args.i c.args.ws.now c.requires.locals_there c.requires.i_lt_locals c.local_at-to.result c.local_at-to.ensures
    c.input_at.result c.copy16.new.ws (omega arith)
    c.input_at.ensures c.copy16.ensures

pub returns : goal.returns
returns c =
    filled-unit c.args.ch c.args.i c.args.ws.now c.requires.locals_there c.requires.i_lt_locals c.local_at-to.result c.local_at-to.ensures
    c.unit.result c.store.new.ws (omega arith) c.unit.ensures c.store.ensures.1 c.store.ensures.0
