use mathlib.Core.Path.{◌∙◌}
use native.Mathlib.Omega.{arith}
use Rattle.words.specs.Layout.{cell_at}
use Rattle.words.proofs.Cells.{decode-eq}
use Rattle.words.proofs.cell.load.Goals as goal

pub returns : goal.returns
unfolding cell_at
returns c = c.cell_of.ensures ∙ decode-eq _ _ (λ k l. c.get16.ensures k (omega arith))
