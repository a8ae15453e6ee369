use native.Mathlib.Omega.{arith}
use Rattle.words.proofs.cell.origin_words.Goals as goal

pub returns-in-None : goal.returns-in-None
returns-in-None c = (cc, omega arith, omega arith)

pub returns-in-Some : goal.returns-in-Some
returns-in-Some c = (cc, omega arith, omega arith)
