-- `first_locals` meets its contract: the locals before the next are filled.
use native.Mathlib.Omega.{arith}
use mathlib.Core.Path.{◌≡◌}
use Rattle.rounds.proofs.entering.Rows.{filled_none, filled_more, locals-there}
use Rattle.rounds.proofs.entering.first_locals.Goals as goal

pub loop-i-init : goal.loop-i-init
loop-i-init c = filled_none c.args.ch c.args.ws.now

pub first_local-requires : goal.first_local-requires
first_local-requires c =
    record { locals_there = locals-there c.args.ch c.loop-i.i c.args.ws.now c.loop-i.ws c.loop-i.invariant c.requires; i_lt_locals = omega arith }

pub loop-i-preserved : goal.loop-i-preserved
loop-i-preserved c =
    filled_more c.args.ch c.loop-i.i c.args.ws.now c.loop-i.ws c.first_local.new.ws c.requires c.loop-i.invariant
    c.first_local.ensures (omega arith)

pub returns : goal.returns
returns c =
    let e : c.loop-i.i ≡ c.args.ch.locals = omega arith in
    rw e at c.loop-i.invariant
