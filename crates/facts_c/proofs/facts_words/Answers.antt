-- `facts_c::facts_words` meets its contract.
use native.Mathlib.Omega.{arith}
use Rattle.facts_c.proofs.Cases.{words-turned, words-fine, words_small}
use Rattle.facts_c.proofs.facts_words.Goals as goal

pub overflow_add-words : goal.overflow_add-words
overflow_add-words c = omega (arith, words_small c.args.description.now c.in-Ok.w (cc))

pub returns-in-Err : goal.returns-in-Err
returns-in-Err c = words-turned _ c.in-Err.r (cc)

pub returns-in-Ok : goal.returns-in-Ok
returns-in-Ok c = words-fine _ c.in-Ok.w (cc)
