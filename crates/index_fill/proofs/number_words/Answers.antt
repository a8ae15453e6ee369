use mathlib.Core.Path.{◌≡◌, refl}
use mathlib.Core.Bool.{Bool, true, false}
use mir.Val.{bool_byte}
use Rattle.layout.specs.Indexed.{bit}
use Rattle.index_fill.specs.model.Model.{number_words}
use Rattle.index_fill.proofs.number_words.Goals as goal

bit-is : (b : Bool) → bool_byte b ≡ bit b
bit-is true = refl
bit-is false = refl

pub returns : goal.returns
unfolding number_words
returns c =
    let n = c.args.c in
    rw (c.from.ensures, c.from-2.ensures, c.from-3.ensures, bit-is n.reachable, bit-is n.suspends, bit-is n.streams)
