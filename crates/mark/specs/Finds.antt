-- Document 02, Six: what the mark finds, and what putting it leaves.
use Rattle.std.specs.Prelude.{◌≡◌, ℕ, ◌<◌, List, length, replicate, ◌≢◌, slice_index, slice_set}
use Rattle.mark.specs.Marks.{word_range, Marked}

-- marked words of which one is changed, whichever it is, are not marked
abbrev pub ChangedFails : List ℕ → ℕ → ℕ → Type 0
ChangedFails ws j x = j < length ws → slice_index ws j < word_range → x < word_range → Marked ws → (x ≢ slice_index ws j) → Marked (slice_set ws j x) → ⊥

-- n words of 0 are not marked
abbrev pub ZerosFail : ℕ → Type 0
ZerosFail n = Marked (replicate n 0) → ⊥

-- as many words, the same but for one place
pub record KeptBut (at : ℕ) (ws vs : List ℕ) : Type 0 where
  pub long : length vs ≡ length ws
  pub others : (j : ℕ) → (j ≢ at) → slice_index vs j ≡ slice_index ws j
