-- `facts_start` meets its contract: what the run began says, with its answer as six words.
use Rattle.std.proofs.Common.{refl}
use Rattle.facts_c.specs.Called.{wanted}
use Rattle.facts_c.proofs.facts_start.Goals as goal

pub returns : goal.returns
unfolding wanted
returns c = record { answer = c.start_run.result; numbers = c.turn_words-turn.ensures; number = refl; run = c.start_run.ensures }
