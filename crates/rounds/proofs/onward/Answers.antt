-- `onward` meets its contract.
use Prim.Native.Nat.{◌<◌}
use native.Mathlib.Omega.{arith}
use lib.ListN.{length}
use Rattle.definition.specs.Module.{module_of}
use Rattle.layout.proofs.Read.{chunks-are}
use Rattle.rounds.proofs.Ends.{goes-due, goes_end, goes-low, goes-ended}
use Rattle.rounds.proofs.onward.Goals as goal

pub next_reachable-next-requires : goal.next_reachable-next-requires
next_reachable-next-requires c =
    record { indexed = c.requires.between.prepared.indexed; t_value = c.requires.t_value; from_le_chunks = omega (arith, c.requires.between.chunk, chunks-are c.args.s.now c.args.t c.requires.t_value) }

pub begin-requires : goal.begin-requires
begin-requires c =
    let l : c.next_reachable-next.result < length (module_of c.args.s.now).chunks = omega (arith, chunks-are c.args.s.now c.args.t c.requires.t_value) in
    record { prepared = c.requires.between.prepared; t_value = c.requires.t_value; c_in_bounds = l; c_value = c.next_reachable-next.ensures.found l; low_before = goes-low c.args.s.now c.args.ws.now c.args.r c.requires.between c.next_reachable-next.result c.next_reachable-next.ensures }

pub returns-then-next-t : goal.returns-then-next-t
returns-then-next-t c =
    goes-due c.args.s.now c.args.ws.now c.args.r c.requires.between c.next_reachable-next.result c.next_reachable-next.ensures c.begin.new.ws c.begin.result
    (omega (arith, chunks-are c.args.s.now c.args.t c.requires.t_value)) c.begin.ensures

pub end_round-requires : goal.end_round-requires
end_round-requires c =
    record { ended = goes-ended c.args.s.now c.args.ws.now c.args.r c.requires.between c.next_reachable-next.result c.next_reachable-next.ensures (omega (arith, chunks-are c.args.s.now c.args.t c.requires.t_value)); t_value = c.requires.t_value }

pub returns : goal.returns
returns c =
    goes_end c.args.s.now c.args.ws.now c.args.r c.requires.between c.next_reachable-next.result c.next_reachable-next.ensures c.end_round.new.ws c.end_round.result
    (omega (arith, chunks-are c.args.s.now c.args.t c.requires.t_value)) c.end_round.ensures
