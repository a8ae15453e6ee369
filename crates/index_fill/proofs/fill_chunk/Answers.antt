use native.Mathlib.Numerals.{add-one}
use mathlib.Core.Path.{◌∙◌}
use Rattle.index_fill.specs.model.Model.{chunk_work, chunk_words}
use Rattle.index_fill.proofs.fill_chunk.Goals as goal

pub returns : goal.returns
unfolding chunk_work chunk_words
returns c = (
  rw (add-one, c.numbers_at-n.ensures, c.numbers_of-c.ensures.0),
  c.put_words.ensures ∙ rw (c.number_words-numbers.ensures, c.numbers_at-n.ensures, c.numbers_of-c.ensures.0),
)
