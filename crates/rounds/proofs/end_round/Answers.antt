-- `end_round` meets its contract.
use Rattle.run_state.proofs.Stays.{facts-prepared}
use Rattle.rounds.proofs.Ends.{ends-done, ends-opened}
use Rattle.rounds.proofs.end_round.Goals as goal

pub returns-then-r : goal.returns-then-r
returns-then-r c =
    ends-done c.args.s.now c.args.ws.now c.args.r c.requires.ended c.if-r.true

pub open_round-requires : goal.open_round-requires
open_round-requires c =
    record { prepared = facts-prepared c.args.s.now c.args.ws.now c.merge_writes-moved.new.ws c.merge_writes-moved.ensures.0 c.requires.ended.prepared; t_value = c.requires.t_value }

pub returns : goal.returns
returns c =
    ends-opened c.args.s.now c.args.ws.now c.merge_writes-moved.new.ws c.open_round.new.ws c.args.r c.open_round.result c.merge_writes-moved.result c.if-r.false
    c.merge_writes-moved.ensures.0 c.merge_writes-moved.ensures.1 c.merge_writes-moved.ensures.2 c.open_round.ensures
