-- `facts_c::in_six_words` meets its contract.
use native.Mathlib.Omega.{arith}
use Rattle.facts_c.proofs.Cases.{in-accepted-with, in-refused-with, short_lengths}
use Rattle.facts_c.proofs.in_six_words.Goals as goal

pub overflow_cast-result : goal.overflow_cast-result
overflow_cast-result c = omega (arith, (short_lengths _ _ c.in-Ok.is c.requires).0)

pub overflow_cast-result-in-Ok : goal.overflow_cast-result-in-Ok
overflow_cast-result-in-Ok c = omega (arith, (short_lengths _ _ c.in-Ok.is c.requires).1)

pub returns-in-Ok : goal.returns-in-Ok
returns-in-Ok c = in-accepted-with _ _ c.in-Ok.is

pub returns-in-Err : goal.returns-in-Err
returns-in-Err c = in-refused-with _ _ c.in-Err.is
