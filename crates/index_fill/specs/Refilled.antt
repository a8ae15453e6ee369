-- What writing the index anew leaves: all words of a workspace that held it already, but for which chunks suspend, which are those with a site
-- of their own.
use Rattle.std.specs.Prelude.{ℕ, ◌+◌, ◌<◌, ◌≡◌, List, length, get_or}
use Rattle.definition.specs.Module.{module_of}
use Rattle.definition.specs.Start.{has_site}
use Rattle.form_laws.specs.Good.{chunk_no}
use Rattle.layout.specs.Layout.{numbers_at, word_suspends}
use Rattle.layout.specs.Indexed.{suspends_at, Indexed}

pub record Refilled (s ws v : List ℕ) : Type 0 where
  pub long : length v ≡ length ws
  pub suspends : (n : ℕ) → n < length (module_of s).chunks → suspends_at v n ≡ has_site (chunk_no (module_of s) n).code
  pub same : Indexed s ws → (a : ℕ) → ((n : ℕ) → n < length (module_of s).chunks → a ≡ numbers_at n + word_suspends → ⊥) → get_or v a 0 ≡ get_or ws a 0
