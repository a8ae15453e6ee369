-- Numbers in bytes, low byte first. A read past the end gives 0.
use Rattle.std.specs.Prelude.{ℕ, ◌+◌, ◌*◌, ◌/◌, ◌%◌, List, [], ◌∷◌, get_or}

unfoldable pub at8 : List ℕ → ℕ → ℕ
at8 s p = get_or s p 0

unfoldable pub at16 : List ℕ → ℕ → ℕ
at16 s p = at8 s p + 256 * at8 s (p + 1)

unfoldable pub at32 : List ℕ → ℕ → ℕ
at32 s p = at8 s p + 256 * at8 s (p + 1) + 65536 * at8 s (p + 2) + 16777216 * at8 s (p + 3)

unfoldable pub le16 : ℕ → List ℕ
le16 n = n % 256 ∷ n / 256 ∷ []

unfoldable pub le32 : ℕ → List ℕ
le32 n = n % 256 ∷ n / 256 % 256 ∷ n / 65536 % 256 ∷ n / 16777216 ∷ []
