-- `facts_c::facts_check_indexed` meets its contract.
use mathlib.Core.Path.{refl}
use Rattle.facts_c.proofs.Cases.{called-with}
use Rattle.facts_c.proofs.facts_check_indexed.Goals as goal

pub returns : goal.returns
returns c = called-with _ _ _ _ _ _ _ _ _ _ _ c.check_indexed.ensures c.in_six_words-words.ensures refl
