-- Which chunks suspend, as their numbers in the workspace say, and what a look changes: nothing but that.
use Rattle.std.specs.Prelude.{ℕ, ◌+◌, ◌*◌, ◌≡◌, Bool, false, ◌||◌, List, length, get_or, set}
use Rattle.words.specs.Rows.{Outside}
use Rattle.definition.specs.Module.{row, module_of}
use Rattle.definition.specs.Start.{calls_one}
use Rattle.form_laws.specs.Good.{chunk_no}
use Rattle.layout.specs.Indexed.{suspends_at}
use Rattle.layout.specs.Kept.{Kept}
use Rattle.layout.specs.Layout.{head_words}

abbrev pub suspends_in : List ℕ → List ℕ → List Bool
suspends_in s ws = row (suspends_at ws) 0 (length (module_of s).chunks)

-- the list after a look at the chunk c
abbrev pub look_at : List ℕ → List ℕ → ℕ → List Bool
look_at s ws c =
    set (suspends_in s ws) c (get_or (suspends_in s ws) c false || calls_one (suspends_in s ws) (chunk_no (module_of s) c).code)

-- only the numbers of the chunks were written, and the index stays
pub record NumbersOnly (s ws v : List ℕ) : Type 0 where
  pub kept : Kept (module_of s) ws v
  pub outside : Outside head_words (head_words + 16 * length (module_of s).chunks) ws v

-- what a look leaves, and whether it says that one more suspends
pub record Looked (s ws v : List ℕ) (now : List Bool) (changed : Bool) : Type 0 where
  pub marked : NumbersOnly s ws v
  pub suspends : suspends_in s v ≡ now
  pub same : changed ≡ false → suspends_in s v ≡ suspends_in s ws
