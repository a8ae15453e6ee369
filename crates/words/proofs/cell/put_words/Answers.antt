-- `words::cell::put_words` meets its contract: so far the first k words are written.
use native.Mathlib.Numerals.{add-one}
use mathlib.Core.Path.{◌≡◌, refl}
use native.Mathlib.Omega.{arith}
use Rattle.words.specs.Layout.{put_n}
use Rattle.words.proofs.cell.put_words.Goals as goal

pub loop-k-init : goal.loop-k-init
unfolding put_n
loop-k-init c = refl

pub loop-k-preserved : goal.loop-k-preserved
unfolding put_n
loop-k-preserved c = rw (add-one, c.loop-k.invariant) refl

pub returns : goal.returns
returns c =
    let e : c.loop-k.k ≡ c.args.n = omega arith in
    rw (← e) c.loop-k.invariant
