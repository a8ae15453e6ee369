-- `facts_c::in_words` meets its contract.
use native.Mathlib.Omega.{arith}
use Rattle.facts_c.proofs.Cases.{in-accepted, in-refused, short-length}
use Rattle.facts_c.proofs.in_words.Goals as goal

pub overflow_cast-result : goal.overflow_cast-result
overflow_cast-result c = omega (arith, short-length _ _ c.in-Ok.is c.requires)

pub returns-in-Ok : goal.returns-in-Ok
returns-in-Ok c = in-accepted _ _ c.in-Ok.is

pub returns-in-Err : goal.returns-in-Err
returns-in-Err c = in-refused _ _ c.in-Err.is
