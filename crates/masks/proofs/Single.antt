-- A number with one set bit is a power of two, and a power of two has one set bit.
use Prim.Native.Nat.{ℕ, zero, suc, ◌+◌, ◌*◌, ◌/◌, ◌%◌, ◌^◌, ◌<◌}
use mathlib.Core.Path.{◌≡◌, refl, sym, ap, ◌∙◌}
use native.Mathlib.Nat.{pow-suc, add-zero, one-mul}
use native.Mathlib.Omega.{arith}
use lib.Arith.{bin_ind}
use lib.Count.{ones, ones_step, ones-le, ones_cat, under, count_trailing_zeros}
use lib.Pow.{pow_pos}

abbrev NoneSet : ℕ → Type 0
NoneSet n = ones n ≡ 0 → n ≡ 0

none-set : (n : ℕ) → ones n ≡ 0 → n ≡ 0
none-set =
    bin_ind NoneSet (λ h. refl)
    (λ n ih h. let half : n / 2 ≡ 0 = ih (omega (arith, ones_step n)) in omega (arith, ones_step n))

-- one set bit, below w: the number is 2 to the count of its trailing zeros
pub one_set : (w n : ℕ) → n < 2 ^ w → ones n ≡ 1 → n ≡ 2 ^ count_trailing_zeros w n
unfolding count_trailing_zeros
one_set zero n h e = omega (arith, ones-le 0 n h)
one_set (suc w) n h e = go (λ half. one_set w (n / 2) (omega (arith, pow-suc 2 w)) half) (n % 2) refl
  where
    go : (ones (n / 2) ≡ 1 → n / 2 ≡ 2 ^ count_trailing_zeros w (n / 2)) → (d : ℕ) → n % 2 ≡ d → n ≡ 2 ^ under (n % 2) (count_trailing_zeros w (n / 2))
    go ih zero p = let r = ih (omega (arith, ones_step n)) in rw p (omega (arith, pow-suc 2 (count_trailing_zeros w (n / 2))))
    go ih (suc d) p = let z : n / 2 ≡ 0 = none-set (n / 2) (omega (arith, ones_step n)) in rw p (omega arith)

pub set-once : (j : ℕ) → ones (2 ^ j) ≡ 1
unfolding ones
set-once j = ap ones (sym (add-zero (1 * 2 ^ j) ∙ one-mul (2 ^ j))) ∙ ones_cat j 1 0 (pow_pos j)
