-- `facts_c::facts_lookup` meets its contract.
use Rattle.facts_c.proofs.Cases.{part-found}
use Rattle.facts_c.proofs.facts_lookup.Goals as goal

pub returns : goal.returns
returns c = part-found _ _ _ _ c.part_of-found.ensures.same c.is_there.ensures c.in_two_words.ensures
