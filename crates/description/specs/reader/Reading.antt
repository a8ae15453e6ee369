-- How far a description is read: fields are read one by one, and what stands from a place on is left.
use Rattle.std.specs.Prelude.{ℕ, cond, List, ltb, length, drop}
use Rattle.description.specs.Fields.{next_at}

-- past the field at p; the end, where it overruns or no field is left
unfoldable pub after : List ℕ → ℕ → ℕ
after s p = cond (ltb (length s) (next_at s p)) (length s) (next_at s p)

-- what is left to read from p on
unfoldable pub left : List ℕ → ℕ → List ℕ
left s p = drop p s
