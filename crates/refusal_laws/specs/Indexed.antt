-- Where a call with an index is refused by 19.
use Rattle.std.specs.Prelude.{ℕ, ◌<◌, ◌≡◌, List, length, take}
use Rattle.answers.specs.Answers.{accepts}
use Rattle.definition.specs.Call.{Outcome}
use Rattle.definition.specs.CallIndexed.{index_of}

-- the call without an index accepts with these steps, and the index of its report does not fit
abbrev pub TooLong : Outcome → List ℕ → ℕ → Type 0
TooLong o idx steps = (long : ℕ) × (o.answer ≡ accepts long steps) × (length idx < length (index_of (take long o.report)))
