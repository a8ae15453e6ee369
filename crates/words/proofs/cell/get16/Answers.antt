-- `words::cell::get16` meets its contract: so far the first k words are there.
use lib.ListN.{get_or}
use mathlib.Core.Path.{◌≡◌, sym, ap, ◌∙◌}
use Prim.Native.Nat.{ℕ}
use native.Mathlib.Omega.{arith}
use Rattle.words.proofs.Cells.{off-is}
use Rattle.words.proofs.cell.get16.Goals as goal

pub returns : goal.returns
returns c = let e : c.loop-k.k ≡ 16 = omega arith in λ k h. c.loop-k.invariant.0 k (omega arith) ∙ sym (ap (λ (n : ℕ). get_or c.args.ws.now n 0) (off-is _ k))
