-- `lookup::entry_at` meets its contract.
use Rattle.lookup.specs.Find.{entry_at}
use Rattle.lookup.proofs.entry_at.Goals as goal

pub returns : goal.returns
unfolding entry_at
returns c = cc
