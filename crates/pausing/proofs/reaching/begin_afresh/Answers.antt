-- `pausing::reaching::begin_afresh` meets its contract.
use native.Mathlib.Omega.{arith}
use Rattle.pausing.proofs.reaching.Functions.{fill-ready, afresh-ready}
use Rattle.pausing.proofs.reaching.begin_afresh.Goals as goal

pub fill-filled-requires : goal.fill-filled-requires
fill-filled-requires c =
    let r = fill-ready _ _ _ c.requires.good c.requires.s_in_bounds c.requires.t_value in
    record { good = r.0; queue_in_bounds = r.1 }

pub begin-requires : goal.begin-requires
begin-requires c =
    let f = c.fill-filled.ensures in
    record { indexed = f.1; fresh = f.2; s_in_bounds = omega (arith, c.requires.s_in_bounds, f.3); t_value = f.0 }

pub returns : goal.returns
returns c =
    (afresh-ready _ _ _ _ _ c.begin.ensures, omega (arith, c.begin.auto, c.fill-filled.auto))
