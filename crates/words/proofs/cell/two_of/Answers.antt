use native.Mathlib.Omega.{arith}
use Rattle.words.proofs.cell.two_of.Goals as goal

pub returns-in-Unknown : goal.returns-in-Unknown
returns-in-Unknown c = (cc, omega arith)

pub returns-in-Scalar : goal.returns-in-Scalar
returns-in-Scalar c = (cc, omega arith)

pub returns-in-Body : goal.returns-in-Body
returns-in-Body c = (cc, omega arith)
