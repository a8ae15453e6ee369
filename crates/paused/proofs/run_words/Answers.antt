-- `paused::run_words` meets its contract.
use mathlib.Core.Path.{◌≡◌, refl}
use mathlib.Core.Bool.{Bool, true, false}
use mir.Val.{bool_byte}
use Rattle.layout.specs.Indexed.{bit}
use Rattle.paused.specs.Stored.{run_words}
use Rattle.paused.proofs.run_words.Goals as goal

bit-is : (b : Bool) → bool_byte b ≡ bit b
bit-is true = refl
bit-is false = refl

pub returns : goal.returns
unfolding run_words
returns c = let changed = bit-is c.args.r.changed in cc
