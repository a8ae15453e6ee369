-- Document 02, Six: what the two calls come to. Beginning a run: the turn of its allowance. Taking one up: 1 to 5 as ever, 21 where the mark is wrong,
-- all memory untouched; a workspace in which a run has paused is at the turn of all its allowances; of any other nothing is said but that the
-- call ends and stays inside its memory, which every function here does.
use Rattle.std.specs.Prelude.{ℕ, ◌+◌, ◌<◌, ◌≡◌, Bool, false, List, length, get_or, Ok, Err}
use Rattle.mark.specs.Marks.{marked}
use Rattle.answers.specs.declared.Refusal.{Refusal}
use Rattle.answers.specs.Answers.{nowhere}
use Rattle.form.specs.room.Room.{room_of}
use Rattle.pause_laws.specs.Turn.{turn_of}
use Rattle.pausing.specs.declared.Turn.{Turn as TurnAnswer}
use Rattle.pausing.specs.declared.Turn.TheVariants.{Refused as RefusedAnswer}
use Rattle.pausing.specs.Paused.{Paused}
use Rattle.pausing.specs.Turned.{turn_numbers, TurnAs, AcceptedTurn}

-- both lengths are numbers of 32 bits
abbrev pub ShortTurn : TurnAnswer → Type 0
ShortTurn r = (get_or (turn_numbers r) 4 0 < 4294967296) × (get_or (turn_numbers r) 5 0 < 4294967296)

pub record StartedRun (s ws buf idx : List ℕ) (indexed : Bool) (allowance : ℕ) (r : TurnAnswer) (buf' idx' ws' : List ℕ) : Type 0 where
  pub turn : TurnAs s ws buf idx indexed (turn_of s (length ws) allowance) r buf' idx' ws'
  pub accepted : AcceptedTurn s indexed r buf' idx'
  pub short : ShortTurn r

-- nothing was touched
abbrev pub Untouched : (ws buf idx buf' idx' ws' : List ℕ) → Type 0
Untouched ws buf idx buf' idx' ws' = (buf' ≡ buf) × (idx' ≡ idx) × (ws' ≡ ws)

pub record ResumedRun (s ws buf idx : List ℕ) (indexed : Bool) (allowance : ℕ) (r : TurnAnswer) (buf' idx' ws' : List ℕ) : Type 0 where
  -- 1 to 5
  pub early : (f : Refusal) → room_of s (length ws) ≡ Err f → (r ≡ RefusedAnswer f) × Untouched ws buf idx buf' idx' ws'
  -- 21
  pub unmarked : (w : ℕ) → room_of s (length ws) ≡ Ok w → marked ws ≡ false → (r ≡ RefusedAnswer (nowhere 21 0)) × Untouched ws buf idx buf' idx' ws'
  -- a paused run goes on
  pub turn : (n w : ℕ) → room_of s (length ws) ≡ Ok w → Paused s ws n → TurnAs s ws buf idx indexed (turn_of s (length ws) (n + allowance)) r buf' idx' ws'
  pub accepted : (n w : ℕ) → room_of s (length ws) ≡ Ok w → Paused s ws n → AcceptedTurn s indexed r buf' idx'
  pub short : ShortTurn r
