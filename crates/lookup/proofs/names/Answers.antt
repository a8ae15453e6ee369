-- `lookup::names` meets its contract.
use Rattle.lookup.specs.Find.{entry_at, names, names_at}
use Rattle.lookup.proofs.names.Goals as goal

pub returns : goal.returns
unfolding names_at names entry_at
returns c = cc
