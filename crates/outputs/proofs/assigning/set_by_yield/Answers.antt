-- `outputs::assigning::set_by_yield` meets its contract.
use mathlib.Core.Path.{refl}
use Rattle.outputs.proofs.assigning.Set.{set_first, set-none}
use Rattle.outputs.proofs.assigning.set_by_yield.Goals as goal

pub returns-then-ch : goal.returns-then-ch
returns-then-ch c = rw c.if-ch.true (set_first _ _ refl c.reply_cell.ensures)

pub returns : goal.returns
returns c = rw c.if-ch.false (set-none _ c.set_none.ensures)
