-- `pausing::closing::close` meets its contract.
use Rattle.pausing.proofs.closing.Laws.{ready-over, closed-paused, closed-refused, closed-over}
use Rattle.pausing.proofs.closing.close.Goals as goal

pub tell-turn-requires : goal.tell-turn-requires
tell-turn-requires c =
    let r = ready-over _ _ _ _ c.in-Over.is c.requires.stage_ready in
    record { ended = r.0; faultless = r.1; t_value = c.requires.t_value }

pub returns-in-Paused : goal.returns-in-Paused
returns-in-Paused c =
    closed-paused _ _ _ _ _ _ c.in-Paused.steps c.in-Paused.is

pub returns-in-Refused : goal.returns-in-Refused
returns-in-Refused c =
    closed-refused _ _ _ _ _ _ c.in-Refused.refusal c.in-Refused.is _ c.clear.ensures

pub returns-in-Over : goal.returns-in-Over
returns-in-Over c =
    closed-over _ _ _ _ _ _ c.in-Over.end c.in-Over.is _ _ _ _ c.tell-turn.ensures c.clear-in-Over.ensures
