use mathlib.Core.Path.{◌∙◌}
use Rattle.words.specs.Layout.{put_cell}
use Rattle.words.proofs.cell.store.Goals as goal

pub returns : goal.returns
unfolding put_cell
returns c =
    let w = c.words_of-w.ensures in (c.put_words.ensures ∙ rw w.0, w.1)
