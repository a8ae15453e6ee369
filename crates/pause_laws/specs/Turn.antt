-- Document 02, Six: what a run that may pause comes to once so many steps are allowed in all, by what the call that can't pause decides with
-- that limit (definition/specs/Call.antt). Readings of docs/DECISIONS.md: 6a 7 comes before a pause at the last total, 6b with exactly its steps
-- allowed a run ends.
use Rattle.std.specs.Prelude.{ℕ, ◌<◌, ◌≡◌, Bool, false, cond, ◌&&◌, ◌⊎◌, List, eqb, ltb}
use Rattle.definition.specs.Call.{Decided, reported, turned, decide}

-- no run takes more steps
abbrev pub most_steps : ℕ
most_steps = 4294967295

-- it pauses after so many steps, or it is over
pub data Turn : Type 0 where
  pauses_at : ℕ → Turn
  ends_as : Decided → Turn

-- an entry is due and the limit is used up
unfoldable pub is_seven : Decided → Bool
is_seven (reported r steps) = false
is_seven (turned r) = eqb r.number 7

unfoldable pub capped : ℕ → ℕ
capped total = cond (ltb total most_steps) total most_steps

-- a pause is a 7 of the call that can't pause, but for the last total
unfoldable pub turn_at : (ℕ → Decided) → ℕ → Turn
turn_at d total = cond (ltb total most_steps && is_seven (d total)) (pauses_at total) (ends_as (d (capped total)))

unfoldable pub turn_of : List ℕ → ℕ → ℕ → Turn
turn_of s words total = turn_at (decide s words) total

-- ---- beside the run that is never cut
unfoldable pub steps_of : Decided → ℕ
steps_of (reported r steps) = steps
steps_of (turned r) = r.steps

-- the run never cut is over by then, and this is what it comes to; or it takes more steps, and this pauses
unfoldable pub Uncut : (ℕ → Decided) → ℕ → Type 0
Uncut d total = turn_at d total ≡ cond (ltb total (steps_of (d most_steps))) (pauses_at total) (ends_as (d most_steps))
