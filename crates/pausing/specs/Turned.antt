-- Document 02, Six: what a call of a run that may pause answers and leaves. `turn_of` (pause_laws/specs/Turn.antt) says which; a pause leaves both
-- buffers and the run in the workspace, an end is that of the call that can't pause, with an index or without.
use Rattle.std.specs.Prelude.{ℕ, ◌<◌, ◌≡◌, Bool, true, false, List, [], ◌∷◌, length, take, get_or, Result, Ok, Err}
use Rattle.answers.specs.declared.Refusal.{Refusal}
use Rattle.answers.specs.declared.Accepted.{Accepted}
use Rattle.answers.specs.declared.AcceptedIndexed.{AcceptedIndexed}
use Rattle.answers.specs.Answers.{indexed_numbers, accepts_with}
use Rattle.report_index.specs.Index.{agrees}
use Rattle.definition.specs.Module.{module_of}
use Rattle.definition.specs.Report.{report_bytes}
use Rattle.definition.specs.Call.{Decided, outcome_of}
use Rattle.definition.specs.CallIndexed.{outcome_with}
use Rattle.report_laws.specs.Read.{read_report}
use Rattle.consistent.specs.Consistent.{Consistent}
use Rattle.consistent.specs.OneReport.{OneReport}
use Rattle.pause_laws.specs.Turn.{Turn, pauses_at, ends_as}
use Rattle.pausing.specs.declared.Turn.{Turn as TurnAnswer}
use Rattle.pausing.specs.declared.Turn.TheVariants.{Paused as PausedAnswer, Refused as RefusedAnswer, Accepted as AcceptedAnswer}
use Rattle.pausing.specs.Paused.{Paused}

-- ---- document 02's numbers for each case: number, chunk, instruction, steps, the lengths of report and index. A pause is 255, which no refusal
-- is, and names no place; an end has the numbers of the call with an index
abbrev pub pause_number : ℕ
pause_number = 255

unfoldable pub turn_numbers : TurnAnswer → List ℕ
turn_numbers (PausedAnswer steps) = pause_number ∷ 65535 ∷ 65535 ∷ steps ∷ 0 ∷ 0 ∷ []
turn_numbers (RefusedAnswer r) = indexed_numbers (Err r)
turn_numbers (AcceptedAnswer length steps index) = indexed_numbers (accepts_with length steps index)

-- ---- an end: without an index its length is 0
unfoldable pub alone : Result Accepted Refusal → TurnAnswer
alone (Ok a) = AcceptedAnswer a.length a.steps 0
alone (Err r) = RefusedAnswer r

unfoldable pub beside : Result AcceptedIndexed Refusal → TurnAnswer
beside (Ok a) = AcceptedAnswer a.length a.steps a.index
beside (Err r) = RefusedAnswer r

pub record TurnOutcome : Type 0 where
  pub answer : TurnAnswer
  pub report : List ℕ
  pub index : List ℕ
  pub workspace : List ℕ

unfoldable pub outcome_for : Bool → Decided → List ℕ → List ℕ → List ℕ → TurnOutcome
outcome_for false d ws buf idx =
    let o = outcome_of d ws buf in
    record { answer = alone o.answer; report = o.report; index = idx; workspace = o.workspace }
outcome_for true d ws buf idx =
    let o = outcome_with d ws buf idx in
    record { answer = beside o.answer; report = o.report; index = o.index; workspace = o.workspace }

-- ---- a turn
-- ws, buf and idx workspace and buffers as they were; r, buf', idx' and ws' the answer and what the call left
unfoldable pub TurnAs : (s ws buf idx : List ℕ) (indexed : Bool) → Turn → TurnAnswer → (buf' idx' ws' : List ℕ) → Type 0
TurnAs s ws buf idx indexed (pauses_at n) r buf' idx' ws' =
    (r ≡ PausedAnswer n) × (buf' ≡ buf) × (idx' ≡ idx) × (length ws' ≡ length ws) × Paused s ws' n
TurnAs s ws buf idx indexed (ends_as d) r buf' idx' ws' =
    let o = outcome_for indexed d ws buf idx in
    (r ≡ o.answer) × (buf' ≡ o.report) × (idx' ≡ o.index) × (ws' ≡ o.workspace)

-- demand 3, of an accepted report; with an index, that it agrees
pub record AcceptedTurn (s : List ℕ) (indexed : Bool) (r : TurnAnswer) (buf' idx' : List ℕ) : Type 0 where
  pub consistent : (long steps n : ℕ) → r ≡ AcceptedAnswer long steps n → Consistent (module_of s) (read_report (take long buf'))
  pub exact : (long steps n : ℕ) → r ≡ AcceptedAnswer long steps n → report_bytes (read_report (take long buf')) ≡ take long buf'
  pub one-report : (long steps n : ℕ) → r ≡ AcceptedAnswer long steps n → OneReport s long steps (take long buf')
  pub own-index : (long steps n : ℕ) → r ≡ AcceptedAnswer long steps n → indexed ≡ true → agrees (take long buf') (take n idx') ≡ true
