-- Text laid into a buffer from a place on, as far as the buffer goes.
use Rattle.std.specs.Prelude.{ℕ, ◌+◌, min, ◌≡◌, List, length}
use Rattle.le.specs.Wrote.{put}

-- bs stand from the place on; r is the place after them, or the end of the buffer where they don't fit
pub record Laid (l : List ℕ) (at : ℕ) (bs l' : List ℕ) (r : ℕ) : Type 0 where
  pub bytes : l' ≡ put l at bs
  pub next : r ≡ min (at + length bs) (length l)
  pub same : length l' ≡ length l
