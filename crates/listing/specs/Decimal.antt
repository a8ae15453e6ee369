-- A number as text: its decimal digits, as ASCII codes.
use Rattle.std.specs.Prelude.{ℕ, zero, suc, ◌+◌, ◌/◌, ◌%◌, cond, List, [], ◌∷◌, ◌++◌, ltb}

-- the digit of a power of ten; none before the first of a number
unfoldable pub digit_of : ℕ → ℕ → List ℕ
digit_of p n = cond (ltb n p) [] ((48 + n / p % 10) ∷ [])

-- the digits of k powers of ten, the largest p; then that of the ones
unfoldable pub digits_from : ℕ → ℕ → ℕ → List ℕ
digits_from zero p n = (48 + n % 10) ∷ []
digits_from (suc k) p n = digit_of p n ++ digits_from k (p / 10) n

-- of a number below 2^32
unfoldable pub decimal : ℕ → List ℕ
decimal n = digits_from 9 1000000000 n
