-- `fact_join::put_low` meets its contract. A word is its halves.
use mathlib.Core.Path.{refl}
use native.Mathlib.Omega.{arith}
use borrow.Author.Rules.{rules}
use Rattle.fact_join.specs.Taken.{with_low}
use Rattle.fact_join.proofs.put_low.Goals as goal

pub overflow_mul-ws : goal.overflow_mul-ws
overflow_mul-ws c = omega (arith, c.slice_known-1.given c.args.at)

pub overflow_add-ws : goal.overflow_add-ws
overflow_add-ws c = omega (arith, c.slice_known-1.given c.args.at)

pub returns : goal.returns
unfolding with_low
returns c = (refl, search rules)
