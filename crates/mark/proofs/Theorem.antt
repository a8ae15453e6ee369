-- THEOREM. Marked words of which one is changed are not marked, nor are zeros; the mark put makes words marked and changes no other word.
use Rattle.std.proofs.Common.{◌≡◌, ℕ, ◌%◌, ◌<◌, List, length, set, replicate, arith, length-set, get_or-set_other, eq-eqb, eqb-true}
use Rattle.mark.specs.Marks.{word_range, the_mark, sum, marked, Marked, mark_for, with_mark}
use Rattle.mark.specs.Finds.{ChangedFails, ZerosFail, KeptBut}
use Rattle.mark.proofs.Sums.{sum-set, sum_zeros}

-- what the test says
marked-sum : (ws : List ℕ) → Marked ws → sum ws % word_range ≡ the_mark
unfolding marked
marked-sum ws m = eqb-true _ _ m

sum-marked : (ws : List ℕ) → sum ws % word_range ≡ the_mark → Marked ws
unfolding marked
sum-marked ws e = eq-eqb _ _ e

pub changed-fails : (ws : List ℕ) (j x : ℕ) → ChangedFails ws j x
changed-fails ws j x l a b m d k =
    let e = sum-set ws j x l in
    let f = marked-sum ws m in
    let g = marked-sum (set ws j x) k in
    d (omega arith)

pub zeros-fail : (n : ℕ) → ZerosFail n
zeros-fail n m =
    let e = sum_zeros n in
    let f = marked-sum (replicate n 0) m in
    omega arith

pub with-mark-keeps : (ws : List ℕ) (at : ℕ) → KeptBut at ws (with_mark ws at)
unfolding with_mark
with-mark-keeps ws at = record {
  long = length-set ws at _;
  others = λ j d. get_or-set_other ws at j _ 0 d;
}

pub with-mark-marked : (ws : List ℕ) (at : ℕ) → at < length ws → Marked (with_mark ws at)
unfolding with_mark mark_for
with-mark-marked ws at h =
    let e = sum-set ws at 0 h in
    let f = sum-set ws at (mark_for (set ws at 0)) h in
    sum-marked (with_mark ws at) (omega arith)
