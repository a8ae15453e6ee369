-- The word that a mark needs, and the mark put.
use Rattle.std.proofs.Common.{◌≡◌, ℕ, ◌+◌, ◌%◌, ◌<◌, List, set, ap, ◌∙◌, arith, set-set}
use Rattle.mark.specs.Marks.{word_range, the_mark, sum, mark_for, with_mark}

-- only one word makes the sum right
mark-is : (ws : List ℕ) (t x : ℕ) → x < word_range → t ≡ sum ws % word_range → (x + t) % word_range ≡ the_mark → x ≡ mark_for ws
unfolding mark_for
mark-is ws t x h e f = omega arith

-- the mark put over a 0
pub put-over : (ws : List ℕ) (at t x : ℕ) → x < word_range → t ≡ sum (set ws at 0) % word_range → (x + t) % word_range ≡ the_mark → set (set ws at 0) at x ≡ with_mark ws at
unfolding with_mark
put-over ws at t x h e f = set-set ws at 0 x ∙ ap (set ws at) (mark-is (set ws at 0) t x h e f)
