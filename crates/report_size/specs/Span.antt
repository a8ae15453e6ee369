-- The bytes that the numbers from i up to e give, one after the other.
use Rattle.std.specs.Prelude.{ℕ, zero, suc, ◌-◌, cond, List, [], ◌++◌, ltb}

-- n numbers from i on
unfoldable pub spread : (ℕ → List ℕ) → ℕ → ℕ → List ℕ
spread f i zero = []
spread f i (suc n) = f i ++ spread f (suc i) n

-- up to e, less e itself
unfoldable pub span : (ℕ → List ℕ) → ℕ → ℕ → List ℕ
span f i e = spread f i (e - i)

-- up to e all that stands before m counts
unfoldable pub cut : (ℕ → List ℕ) → ℕ → ℕ → List ℕ
cut f m k = cond (ltb k m) (f k) []
