-- What is told of a decision: the answer, and what the report buffer holds after it; with an index, what that buffer holds, too. The
-- workspace is the caller's.
use Rattle.std.specs.Prelude.{ℕ, ◌<◌, ◌≡◌, List, get_or, Result}
use Rattle.answers.specs.declared.Accepted.{Accepted}
use Rattle.answers.specs.declared.AcceptedIndexed.{AcceptedIndexed}
use Rattle.answers.specs.declared.Refusal.{Refusal}
use Rattle.answers.specs.Answers.{numbers, indexed_numbers}
use Rattle.definition.specs.Call.{Decided, outcome_of}
use Rattle.definition.specs.CallIndexed.{outcome_with}

pub record Told (d : Decided) (buf : List ℕ) (r : Result Accepted Refusal) (buf' : List ℕ) : Type 0 where
  -- r and buf' are the definition's, whatever the workspace
  pub same : (ws : List ℕ) → (r ≡ (outcome_of d ws buf).answer) × (buf' ≡ (outcome_of d ws buf).report)
  -- the report's length is a number of 32 bits
  pub short : get_or (numbers r) 4 0 < 4294967296

pub record ToldIndexed (d : Decided) (buf idx : List ℕ) (r : Result AcceptedIndexed Refusal) (buf' idx' : List ℕ) : Type 0 where
  -- r, buf' and idx' are the definition's, whatever the workspace
  pub same : (ws : List ℕ) → (r ≡ (outcome_with d ws buf idx).answer) × (buf' ≡ (outcome_with d ws buf idx).report) × (idx' ≡ (outcome_with d ws buf idx).index)
  -- both lengths are numbers of 32 bits
  pub short : (get_or (indexed_numbers r) 4 0 < 4294967296) × (get_or (indexed_numbers r) 5 0 < 4294967296)
