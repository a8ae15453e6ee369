-- What the start comes to: 11, 12 or the run.
use Rattle.std.specs.Prelude.{Bool, cond, ℕ, Option, None, Some, Result, Ok, Err}
use Rattle.answers.specs.Answers.{nowhere}
use Rattle.answers.specs.declared.Refusal.{Refusal}

-- ---- the end: 11, 12 or the run
unfoldable pub ended : Bool → Option ℕ → Result ℕ Refusal
ended full None = Err (nowhere 11 0)
ended full (Some n) = cond full (Err (nowhere 12 0)) (Ok n)
