-- `pausing::reaching::tested` meets its contract.
use Rattle.pausing.proofs.reaching.Functions.{tested-paused, tested-refused, over-ended, tested-over}
use Rattle.pausing.proofs.reaching.tested.Goals as goal

pub if_faultless-requires : goal.if_faultless-requires
if_faultless-requires c =
    record { ended = over-ended _ _ _ c.in-Over.end c.in-Over.is c.requires.stage_ended; t_value = c.requires.t_value }

pub returns-in-Paused : goal.returns-in-Paused
returns-in-Paused c =
    tested-paused _ _ _ c.in-Paused.steps c.in-Paused.is

pub returns-in-Refused : goal.returns-in-Refused
returns-in-Refused c =
    tested-refused _ _ _ c.in-Refused.refusal c.in-Refused.is

pub returns-in-Over : goal.returns-in-Over
returns-in-Over c =
    tested-over _ _ _ _ _ c.in-Over.end c.in-Over.is c.if_faultless.ensures
