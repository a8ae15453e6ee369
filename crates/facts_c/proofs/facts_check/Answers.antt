-- `facts_c::facts_check` meets its contract.
use Rattle.facts_c.proofs.Cases.{called}
use Rattle.facts_c.proofs.facts_check.Goals as goal

pub in_words-requires : goal.in_words-requires
in_words-requires c = c.check-given.ensures.short

pub returns : goal.returns
returns c =
    called _ _ _ _ _ _ _ _ _ c.check-given.ensures c.in_words.ensures c.number_of.ensures
