-- The first reachable chunk from one on.
use Rattle.std.specs.Prelude.{ℕ, ◌<◌, ◌≤◌, ◌≡◌, true, false, List, length}
use Rattle.definition.specs.Module.{module_of}
use Rattle.form_laws.specs.Good.{chunk_no}

pub record NextReachable (s : List ℕ) (from r : ℕ) : Type 0 where
  pub low : from ≤ r
  pub high : r ≤ length (module_of s).chunks
  pub skipped : (k : ℕ) → from ≤ k → k < r → (chunk_no (module_of s) k).reachable ≡ false
  pub found : r < length (module_of s).chunks → (chunk_no (module_of s) r).reachable ≡ true
