use mathlib.Core.Path.{◌≡◌}
use Rattle.words.specs.Layout.{put_n}
use Rattle.words.proofs.cell.put_words.Given as goal

abbrev pub invariant-loop-k : goal.invariant-loop-k
invariant-loop-k l = l.ws ≡ put_n l.initial.ws l.at l.a l.k
