use native.Mathlib.Omega.{arith}
use Rattle.words.proofs.cell.predicate_words.Goals as goal

pub returns-in-Nothing : goal.returns-in-Nothing
returns-in-Nothing c = (cc, omega arith, omega arith)

pub returns-then-when : goal.returns-then-when
returns-then-when c = (cc, omega arith, omega arith)

pub returns-else-when : goal.returns-else-when
returns-else-when c = (cc, omega arith, omega arith)
