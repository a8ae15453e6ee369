-- Document 02, One: all accepted runs of one description write the same report.
use Rattle.std.specs.Prelude.{ℕ, ◌≡◌, List, take}
use Rattle.answers.specs.Answers.{accepts}
use Rattle.definition.specs.Call.{call}

-- s the description; whatever workspace, report buffer and limit it is given, a call that accepts it has this length, these steps, and
-- these bytes in its buffer, as far as the length goes
abbrev pub OneReport : List ℕ → ℕ → ℕ → List ℕ → Type 0
OneReport s long steps bytes =
    (ws buf : List ℕ) (limit long' steps' : ℕ) → (call s ws buf limit).answer ≡ accepts long' steps'
    → (long' ≡ long) × (steps' ≡ steps) × (take long' (call s ws buf limit).report ≡ bytes)
