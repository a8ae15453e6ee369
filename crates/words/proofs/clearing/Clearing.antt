-- Words cleared one more, and all of them.
use Prim.Native.Nat.{ℕ, zero, suc, ◌+◌, ◌<◌}
use native.Mathlib.Omega.{arith}
use native.Mathlib.Numerals.{add-one}
use mathlib.Core.Path.{◌≡◌, refl, ap}
use mathlib.Core.List.{List, [], ◌∷◌, ◌++◌}
use lib.ListN.{length, get_or, set, drop, replicate}
use Rattle.words.specs.clearing.Clearing.{cleared}

-- one word more
cleared-set : (ws : List ℕ) (n : ℕ) → n < length ws → set (replicate n 0 ++ drop n ws) n 0 ≡ replicate (suc n) 0 ++ drop (suc n) ws
cleared-set [] n h = absurd (omega arith)
cleared-set (x ∷ xs) zero h = refl
cleared-set (x ∷ xs) (suc n) h = ap (λ (r : List ℕ). 0 ∷ r) (cleared-set xs n (omega arith))

pub cleared_more : (ws v : List ℕ) (n : ℕ) → n < length ws → v ≡ cleared ws n → set v n 0 ≡ cleared ws (n + 1)
unfolding cleared
cleared_more ws v n h e = rw (e, add-one n) (cleared-set ws n h)

pub cleared-zero : (ws : List ℕ) (n k : ℕ) → k < n → get_or (cleared ws n) k 0 ≡ 0
unfolding cleared
cleared-zero ws n k h = go n k (drop n ws) h
  where
    go : (n k : ℕ) (l : List ℕ) → k < n → get_or (replicate n 0 ++ l) k 0 ≡ 0
    go zero k l h = absurd (omega arith)
    go (suc n) zero l h = refl
    go (suc n) (suc k) l h = go n k l (omega arith)

-- all of them
pub cleared-all : (ws : List ℕ) → cleared ws (length ws) ≡ replicate (length ws) 0
unfolding cleared
cleared-all [] = refl
cleared-all (x ∷ xs) = ap (λ (r : List ℕ). 0 ∷ r) (cleared-all xs)
