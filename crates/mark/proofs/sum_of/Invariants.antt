use Rattle.std.proofs.Common.{◌≡◌, ◌%◌, take}
use Rattle.mark.specs.Marks.{word_range, sum}
use Rattle.mark.proofs.sum_of.Given as goal

abbrev pub invariant-loop-word : goal.invariant-loop-word
invariant-loop-word l = l.total ≡ sum (take l.word-index l.ws) % word_range
