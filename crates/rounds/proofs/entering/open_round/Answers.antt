-- `open_round` meets its contract.
use Prim.Native.Nat.{◌<◌}
use native.Mathlib.Omega.{arith}
use lib.ListN.{length}
use Rattle.definition.specs.Module.{module_of}
use Rattle.layout.proofs.Read.{chunks-are}
use Rattle.rounds.proofs.entering.Rounds.{low-all, opens, opens-none}
use Rattle.rounds.proofs.entering.open_round.Goals as goal

pub begin-requires : goal.begin-requires
begin-requires c =
    let l : c.next_reachable-first.result < length (module_of c.args.s.now).chunks = omega (arith, chunks-are c.args.s.now c.args.t c.requires.t_value) in
    record { prepared = c.requires.prepared; t_value = c.requires.t_value; c_in_bounds = l; c_value = c.next_reachable-first.ensures.found l; low_before = low-all c.args.s.now c.args.ws.now c.next_reachable-first.result c.next_reachable-first.ensures }

pub returns-then-first-t : goal.returns-then-first-t
returns-then-first-t c =
    opens c.args.s.now c.args.ws.now c.args.validating c.args.steps c.next_reachable-first.result c.next_reachable-first.ensures c.begin.new.ws c.begin.result
    (omega (arith, chunks-are c.args.s.now c.args.t c.requires.t_value)) c.begin.ensures

pub returns : goal.returns
returns c =
    opens-none c.args.s.now c.args.ws.now c.args.validating c.args.steps c.next_reachable-first.result c.next_reachable-first.ensures c.requires.prepared
    (omega (arith, chunks-are c.args.s.now c.args.t c.requires.t_value))
