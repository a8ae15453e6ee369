-- Sums of words: one word more, one word changed, zeros.
use Rattle.std.proofs.Common.{◌≡◌, ℕ, zero, suc, ◌+◌, ◌%◌, ◌<◌, List, [], ◌∷◌, length, get_or, take, set, replicate, refl, add-one, arith}
use Rattle.mark.specs.Marks.{word_range, sum}

pub sum-none : (ws : List ℕ) → 0 ≡ sum (take 0 ws) % word_range
unfolding sum
sum-none ws = refl

sum-take : (ws : List ℕ) (i : ℕ) → i < length ws → sum (take (suc i) ws) ≡ sum (take i ws) + get_or ws i 0
unfolding sum
sum-take [] i h = absurd (omega arith)
sum-take (x ∷ xs) zero h = omega arith
sum-take (x ∷ xs) (suc i) h = let e = sum-take xs i (omega arith) in omega arith

-- one word more
pub sum_more : (ws : List ℕ) (i t : ℕ) → i < length ws → t ≡ sum (take i ws) % word_range → (t + get_or ws i 0) % word_range ≡ sum (take (i + 1) ws) % word_range
sum_more ws i t h e = rw (add-one i) (let q = sum-take ws i h in omega arith)

-- one word changed
pub sum-set : (ws : List ℕ) (j x : ℕ) → j < length ws → sum (set ws j x) + get_or ws j 0 ≡ sum ws + x
unfolding sum
sum-set [] j x h = absurd (omega arith)
sum-set (y ∷ ws) zero x h = omega arith
sum-set (y ∷ ws) (suc j) x h = let e = sum-set ws j x (omega arith) in omega arith

pub sum_zeros : (n : ℕ) → sum (replicate n 0) ≡ 0
unfolding sum
sum_zeros zero = refl
sum_zeros (suc n) = let e = sum_zeros n in omega arith
