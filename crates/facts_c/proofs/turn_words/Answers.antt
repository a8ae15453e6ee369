-- `turn_words` meets its contract: each answer has the six numbers that `turn_numbers` gives.
use Rattle.pausing.specs.Turned.{turn_numbers}
use Rattle.facts_c.proofs.turn_words.Goals as goal

pub in_six_words-requires : goal.in_six_words-requires
unfolding turn_numbers
in_six_words-requires c = rw c.in-Refused.is at c.requires

pub in_six_words-requires-in-Accepted : goal.in_six_words-requires-in-Accepted
unfolding turn_numbers
in_six_words-requires-in-Accepted c = rw c.in-Accepted.is at c.requires

pub returns-in-Paused : goal.returns-in-Paused
unfolding turn_numbers
returns-in-Paused c = rw c.in-Paused.is

pub returns-in-Refused : goal.returns-in-Refused
unfolding turn_numbers
returns-in-Refused c = rw c.in-Refused.is c.in_six_words.ensures

pub returns-in-Accepted : goal.returns-in-Accepted
unfolding turn_numbers
returns-in-Accepted c = rw c.in-Accepted.is c.in_six_words-in-Accepted.ensures
