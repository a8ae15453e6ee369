-- `resumable::is_ready` meets its contract.
use Rattle.resumable.proofs.Entries.{ready-decided}
use Rattle.resumable.proofs.is_ready.Goals as goal

pub returns : goal.returns
returns c = let a = c.args in ready-decided a.ws.now a.base a.q c.requires
