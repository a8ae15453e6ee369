-- `paused::put_run` meets its contract.
use mathlib.Core.Path.{◌∙◌}
use Rattle.paused.specs.Stored.{stored}
use Rattle.paused.proofs.put_run.Goals as goal

pub returns : goal.returns
unfolding stored
returns c = c.put_words.ensures ∙ rw c.run_words-words.ensures
