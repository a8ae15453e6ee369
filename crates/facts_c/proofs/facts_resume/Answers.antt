-- `facts_resume` meets its contract: what the run taken up says, with its answer as six words.
use Rattle.std.proofs.Common.{refl}
use Rattle.facts_c.specs.Called.{wanted}
use Rattle.facts_c.proofs.facts_resume.Goals as goal

pub returns : goal.returns
unfolding wanted
returns c = record { answer = c.resume_run.result; numbers = c.turn_words-turn.ensures; number = refl; run = c.resume_run.ensures }
