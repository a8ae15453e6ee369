-- Document 01's listing of an answer and its report: what the program `factlist` prints. Text is ASCII codes.
use Rattle.std.specs.Prelude.{ℕ, zero, suc, ◌+◌, ◌*◌, cond, List, [], ◌∷◌, ◌++◌, eqb, ltb, length, take, Result, Ok, Err}
use Rattle.le.specs.Le.{at8, at16, at32}
use Rattle.answers.specs.declared.Refusal.{Refusal}
use Rattle.answers.specs.declared.Accepted.{Accepted}
use Rattle.description.specs.Fields.{tag_at, next_at, fields_from}
use Rattle.listing.specs.Decimal.{decimal}

-- "refused", "accepted", " reply", " stack", " locals", " -", "inspection", "branch"
abbrev pub refused_word : List ℕ
refused_word = 114 ∷ 101 ∷ 102 ∷ 117 ∷ 115 ∷ 101 ∷ 100 ∷ []

abbrev pub accepted_word : List ℕ
accepted_word = 97 ∷ 99 ∷ 99 ∷ 101 ∷ 112 ∷ 116 ∷ 101 ∷ 100 ∷ []

abbrev pub reply_word : List ℕ
reply_word = 32 ∷ 114 ∷ 101 ∷ 112 ∷ 108 ∷ 121 ∷ []

abbrev pub stack_word : List ℕ
stack_word = 32 ∷ 115 ∷ 116 ∷ 97 ∷ 99 ∷ 107 ∷ []

abbrev pub locals_word : List ℕ
locals_word = 32 ∷ 108 ∷ 111 ∷ 99 ∷ 97 ∷ 108 ∷ 115 ∷ []

abbrev pub none_word : List ℕ
none_word = 32 ∷ 45 ∷ []

abbrev pub inspection_word : List ℕ
inspection_word = 105 ∷ 110 ∷ 115 ∷ 112 ∷ 101 ∷ 99 ∷ 116 ∷ 105 ∷ 111 ∷ 110 ∷ []

abbrev pub branch_word : List ℕ
branch_word = 98 ∷ 114 ∷ 97 ∷ 110 ∷ 99 ∷ 104 ∷ []

-- a space and a number; two of them; the last of a line
unfoldable pub spaced : ℕ → List ℕ
spaced n = (32 ∷ []) ++ decimal n

unfoldable pub pair_of : ℕ → ℕ → List ℕ
pair_of a b = spaced a ++ spaced b

unfoldable pub last_of : ℕ → List ℕ
last_of n = spaced n ++ (10 ∷ [])

unfoldable pub refused_line : Refusal → List ℕ
refused_line r = refused_word ++ (spaced r.number ++ (pair_of r.chunk r.instruction ++ last_of r.steps))

-- the lines of the field at p, by its tag: 16, 19, 20, 21
unfoldable pub accepted_line : ℕ → ℕ → List ℕ
accepted_line steps reply = accepted_word ++ (spaced steps ++ (reply_word ++ last_of reply))

-- the masks of n cells, the first at q; `-` where there is none
unfoldable pub masks_from : List ℕ → ℕ → ℕ → List ℕ
masks_from s q zero = []
masks_from s q (suc n) = spaced (at16 s q) ++ masks_from s (q + 49) n

unfoldable pub masks_of : List ℕ → ℕ → ℕ → List ℕ
masks_of s q n = cond (eqb n 0) none_word (masks_from s q n)

-- a word and masks
unfoldable pub named_of : List ℕ → List ℕ → ℕ → ℕ → List ℕ
named_of word s q n = word ++ masks_of s q n

unfoldable pub cells_of : List ℕ → ℕ → List ℕ
cells_of s p =
    named_of stack_word s (p + 15) (at16 s (p + 7)) ++ (named_of locals_word s (p + 15 + 49 * at16 s (p + 7)) (at16 s (p + 9)) ++ (10 ∷ []))

unfoldable pub record_line : List ℕ → ℕ → List ℕ
record_line s p = decimal (at16 s (p + 3)) ++ (spaced (at16 s (p + 5)) ++ cells_of s p)

unfoldable pub inspection_line : List ℕ → ℕ → List ℕ
inspection_line s p = inspection_word ++ (spaced (at16 s (p + 3)) ++ last_of (at16 s (p + 5)))

unfoldable pub branch_line : List ℕ → ℕ → List ℕ
branch_line s p = branch_word ++ (pair_of (at16 s (p + 3)) (at16 s (p + 5)) ++ last_of (at8 s (p + 7)))

unfoldable pub field_line : ℕ → List ℕ → ℕ → List ℕ
field_line steps s p =
    cond (eqb (tag_at s p) 16) (accepted_line steps (at32 s (p + 3)))
    (cond (eqb (tag_at s p) 19) (record_line s p)
    (cond (eqb (tag_at s p) 20) (inspection_line s p)
    (cond (eqb (tag_at s p) 21) (branch_line s p) [])))

-- the lines of the fields, in their order; one that overruns ends the walk
unfoldable pub lines_of : ℕ → List ℕ → List ℕ → List ℕ
lines_of steps s [] = []
lines_of steps s (p ∷ ps) = cond (ltb (length s) (next_at s p)) [] (field_line steps s p ++ lines_of steps s ps)

-- s is the report buffer, of which the answer says how much the report is
unfoldable pub listing : Result Accepted Refusal → List ℕ → List ℕ
listing (Err r) s = refused_line r
listing (Ok a) s = lines_of a.steps (take a.length s) (fields_from (take a.length s) 0)
