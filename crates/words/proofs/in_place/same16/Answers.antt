use native.Mathlib.Numerals.{add-one}
use mathlib.Core.Path.{◌≡◌, refl}
use native.Mathlib.Omega.{arith}
use Rattle.words.specs.Layout.{same_n}
use Rattle.words.proofs.in_place.same16.Goals as goal

pub loop-k-init : goal.loop-k-init
unfolding same_n
loop-k-init c = refl

pub loop-k-preserved : goal.loop-k-preserved
unfolding same_n
loop-k-preserved c = rw (add-one, c.loop-k.invariant) refl

pub returns : goal.returns
returns c = let e : c.loop-k.k ≡ 15 = omega arith in rw (← e) c.loop-k.invariant
