use lib.ListN.{get_or}
use mathlib.Core.Path.{ap, ◌∙◌}
use Prim.Native.Nat.{ℕ}
use native.Mathlib.Omega.{arith}
use Rattle.words.proofs.Cells.{put_copy, off-is}
use Rattle.words.proofs.cell.copy16.Goals as goal

pub returns : goal.returns
returns c =
    c.put_words.ensures
    ∙ put_copy _ _ _ _ 15 (λ k l. c.get16-w.ensures k (omega arith) ∙ ap (λ (n : ℕ). get_or c.before.before.before.before.before.before.before.before.args.ws.now n 0) (off-is _ k))
