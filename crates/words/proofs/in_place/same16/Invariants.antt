use mathlib.Core.Path.{◌≡◌}
use Rattle.words.specs.Layout.{same_n}
use Rattle.words.proofs.in_place.same16.Given as goal

abbrev pub invariant-loop-k : goal.invariant-loop-k
invariant-loop-k l = l.same ≡ same_n l.ws l.a l.b l.k
