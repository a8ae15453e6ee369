-- `pausing::reaching::if_faultless` meets its contract.
use Rattle.pausing.proofs.reaching.Functions.{faultless-kept, faulty-afresh}
use Rattle.pausing.proofs.reaching.if_faultless.Goals as goal

pub returns-then-is_faultless : goal.returns-then-is_faultless
returns-then-is_faultless c =
    faultless-kept _ _ _ _ c.requires.ended c.is_faultless.ensures c.if-is_faultless.true

pub begin_afresh-requires : goal.begin_afresh-requires
begin_afresh-requires c =
    record { good = c.requires.ended.prepared.indexed.good; s_in_bounds = c.requires.ended.prepared.room; t_value = c.requires.t_value }

pub returns : goal.returns
returns c =
    faulty-afresh _ _ _ _ _ _ c.is_faultless.ensures c.if-is_faultless.false c.begin_afresh.ensures
