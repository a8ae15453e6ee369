-- What a write of bytes into a buffer does.
use Rattle.std.specs.Prelude.{ℕ, ◌+◌, ◌≡◌, List, length}
use Rattle.std.proofs.lemmas.List.Edits.{sets}

-- bs stand in the list from the place on, as far as it goes
unfoldable pub put : List ℕ → ℕ → List ℕ → List ℕ
put l at bs = sets l at bs

-- n bytes bs were written at the place; r is the place after them. The number is said where it is known beforehand: whoever calls goes by it
pub record WroteN (l : List ℕ) (at n : ℕ) (bs l' : List ℕ) (r : ℕ) : Type 0 where
  pub bytes : l' ≡ put l at bs
  pub size : length bs ≡ n
  pub next : r ≡ at + n

-- bs were written, however many they are
abbrev pub Wrote : List ℕ → ℕ → List ℕ → List ℕ → ℕ → Type 0
Wrote l at bs l' r = WroteN l at (length bs) bs l' r
