-- `facts_c::facts_sizes` meets its contract.
use Rattle.facts_c.proofs.Cases.{sizes-fine, sizes-turned}
use Rattle.facts_c.proofs.facts_sizes.Goals as goal

pub returns-in-Err : goal.returns-in-Err
returns-in-Err c = sizes-turned _ c.sizes.result c.in-Err.r c.sizes.ensures (cc)

pub returns-in-Ok : goal.returns-in-Ok
returns-in-Ok c = sizes-fine _ c.sizes.result _ c.sizes.ensures (cc)
