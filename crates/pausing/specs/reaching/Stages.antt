-- The stage that a run has come to, and what it stands for.
use Rattle.std.specs.Prelude.{ℕ, ◌+◌, ◌*◌, ◌<◌, ◌≤◌, ◌≡◌, Bool, cond, List, eqb, ltb, length, get_or, Result, Ok, Err}
use Rattle.answers.specs.declared.Refusal.{Refusal}
use Rattle.answers.specs.Answers.{refusal}
use Rattle.mark.specs.Marks.{with_mark}
use Rattle.ring.specs.Ring.{due_of}
use Rattle.definition.specs.Module.{module_of}
use Rattle.definition.specs.Start.{first_facts}
use Rattle.definition.specs.Call.{reported, turned, run_of, on_ran, decided}
use Rattle.form_laws.specs.Good.{words_of}
use Rattle.layout.specs.Layout.{head_words}
use Rattle.run_state.specs.declared.Run.{Run}
use Rattle.run_state.specs.Course.{known_as, room_in, Between, Ended}
use Rattle.report_size.specs.Reporting.{Faultless, report_in}
use Rattle.paused.specs.Stored.{mark_at, stored}
use Rattle.run.specs.declared.RunTo.{RunTo}
use Rattle.pause_laws.specs.Turn.{most_steps, Turn, pauses_at, ends_as, turn_at}
use Rattle.pausing.specs.declared.reaching.End.{End}
use Rattle.pausing.specs.declared.reaching.Stage.{Stage}
use Rattle.pausing.specs.declared.reaching.Stage.TheVariants.{Paused as PausedStage, Refused as RefusedStage, Over as OverStage}
use Rattle.pausing.specs.Paused.{Paused}
use Rattle.run.specs.declared.RunTo.TheVariants.{Due, Over}

-- ---- the total of steps
unfoldable pub total_of : ℕ → ℕ → ℕ
total_of steps allowance = cond (ltb (steps + allowance) most_steps) (steps + allowance) most_steps

-- ---- an entry is due and the limit is used up: 7 at the last total, else the run is stored and marked
unfoldable pub pause_stage : List ℕ → List ℕ → Run → Stage
pause_stage s ws r =
    cond (eqb r.steps most_steps) (RefusedStage (refusal 7 r.chunk (due_of ws (words_of (module_of s)) r.queue) r.steps)) (PausedStage r.steps)

unfoldable pub pause_words : List ℕ → Run → List ℕ
pause_words ws r = cond (eqb r.steps most_steps) ws (with_mark (stored ws r) mark_at)

-- what the end of a run up to a limit is
unfoldable pub stage_of : List ℕ → List ℕ → ℕ → Result RunTo Refusal → Stage
stage_of s ws reply (Ok (Due r)) = pause_stage s ws r
stage_of s ws reply (Err f) = RefusedStage f
stage_of s ws reply (Ok (Over n)) = OverStage (record { reply = reply; steps = n })

unfoldable pub stage_words : List ℕ → Result RunTo Refusal → List ℕ
stage_words ws (Ok (Due r)) = pause_words ws r
stage_words ws (Err f) = ws
stage_words ws (Ok (Over n)) = ws

-- what a run up to a limit asks for: an entry that is due
unfoldable pub RanReady : List ℕ → List ℕ → Result RunTo Refusal → Type 0
RanReady s ws (Ok (Due r)) = Between s ws r × (0 < r.queue.count)
RanReady s ws (Err f) = Unit {0}
RanReady s ws (Ok (Over n)) = Unit {0}

-- ---- a stage
-- what a report asks for
unfoldable pub StageReady : List ℕ → List ℕ → Stage → Type 0
StageReady s ws (PausedStage n) = Unit {0}
StageReady s ws (RefusedStage f) = Unit {0}
StageReady s ws (OverStage e) = Ended s ws × Faultless s ws

unfoldable pub StageEnded : List ℕ → List ℕ → Stage → Type 0
StageEnded s ws (PausedStage n) = Unit {0}
StageEnded s ws (RefusedStage f) = Unit {0}
StageEnded s ws (OverStage e) = Ended s ws

-- the stage is that turn
unfoldable pub StageBy : List ℕ → List ℕ → Turn → Stage → Type 0
StageBy s ws t (PausedStage n) = (t ≡ pauses_at n) × Paused s ws n
StageBy s ws t (RefusedStage f) = t ≡ ends_as (turned f)
StageBy s ws t (OverStage e) = (t ≡ ends_as (reported (report_in s ws e.reply) e.steps)) × Ended s ws × Faultless s ws

-- the turn of a module, with this room and total
abbrev pub turn_in : List ℕ → List ℕ → ℕ → Turn
turn_in s ws total = turn_at (decided (module_of s) (room_in s ws)) total

-- what is decided is what the run comes to: 9 to 12 are behind
abbrev pub Running : List ℕ → ℕ → Type 0
Running s reply = (cap limit : ℕ) → decided (module_of s) cap limit ≡ on_ran (known_as s) reply (run_of (known_as s) cap limit (first_facts (module_of s)))

pub record Begun (s ws u : List ℕ) (allowance : ℕ) (x : Stage) : Type 0 where
  pub long : length u ≡ length ws
  pub stage : StageBy s u (turn_in s ws allowance) x

-- ---- taken up
-- v has the run of ws: all words behind the chunks' numbers, and those in front behind the reply
pub record SameRun (s ws v : List ℕ) : Type 0 where
  pub long : length v ≡ length ws
  pub front : (j : ℕ) → 16 ≤ j → j < head_words → get_or v j 0 ≡ get_or ws j 0
  pub behind : (j : ℕ) → head_words + 16 * length (module_of s).chunks ≤ j → get_or v j 0 ≡ get_or ws j 0

-- whatever stood there the report can be written; a paused run is at its turn
pub record TakenUp (s ws u : List ℕ) (allowance : ℕ) (x : Stage) : Type 0 where
  pub long : length u ≡ length ws
  pub ready : StageReady s u x
  pub stage : (w : List ℕ) (n : ℕ) → Paused s w n → SameRun s w ws → StageBy s u (turn_in s ws (n + allowance)) x

-- a stage is kept where its report can be written
pub record Tested (s ws u : List ℕ) (x y : Stage) : Type 0 where
  pub long : length u ≡ length ws
  pub ready : StageReady s u y
  pub kept : StageReady s ws x → (u ≡ ws) × (y ≡ x)
