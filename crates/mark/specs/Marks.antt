-- Document 02, Six: the mark over the words of a workspace. All words, the mark's own among them, sum to `the_mark` modulo 2^32.
use Rattle.std.specs.Prelude.{◌≡◌, ℕ, ◌+◌, ◌-◌, ◌%◌, Bool, true, List, [], ◌∷◌, ◌==◌, slice_set}

-- every word is below it
abbrev pub word_range : ℕ
word_range = 4294967296

-- any number below word_range but 0, which is the sum of zeros
abbrev pub the_mark : ℕ
the_mark = 1346458195

unfoldable pub sum : List ℕ → ℕ
sum [] = 0
sum (x ∷ xs) = x + sum xs

unfoldable pub marked : List ℕ → Bool
marked ws = sum ws % word_range == the_mark

abbrev pub Marked : List ℕ → Type 0
Marked ws = marked ws ≡ true

-- what words lack that have 0 where their mark is to stand
unfoldable pub mark_for : List ℕ → ℕ
mark_for ws = (the_mark + (word_range - sum ws % word_range)) % word_range

-- the mark put at a place, whatever stood there
unfoldable pub with_mark : List ℕ → ℕ → List ℕ
with_mark ws at = slice_set ws at (mark_for (slice_set ws at 0))
