-- `run::run` meets its contract: what is left to the search goes by Runs.antt.
use Rattle.std.proofs.Common.{rules}
use Rattle.run.proofs.Runs.{still_between}
use Rattle.run.proofs.run.Goals as goal

pub spent-requires-clause-between : goal.spent-requires-clause-between
spent-requires-clause-between c = still_between _ _ _ _ _ c.run_first.ensures c.in-Due.r (search rules)
