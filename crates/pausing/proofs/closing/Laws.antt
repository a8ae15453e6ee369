-- What is told of a decision, as a turn; each stage comes to what is answered of it.
use Prim.Native.Nat.{ℕ, ◌<◌}
use native.Mathlib.Omega.{arith}
use mathlib.Core.Path.{◌≡◌, refl, ap, ◌∙◌}
use mathlib.Core.Bool.{Bool, true, false}
use mathlib.Core.List.{List}
use lib.ListN.{length, get_or}
use Rattle.std.specs.Prelude.{Result, Ok, Err}
use Rattle.answers.specs.declared.Refusal.{Refusal}
use Rattle.answers.specs.declared.Accepted.{Accepted}
use Rattle.answers.specs.declared.AcceptedIndexed.{AcceptedIndexed}
use Rattle.answers.specs.Answers.{numbers, indexed_numbers}
use Rattle.definition.specs.Call.{Decided, reported}
use Rattle.run_state.specs.Course.{Ended}
use Rattle.report_size.specs.Reporting.{Faultless, report_in}
use Rattle.words.specs.clearing.Clearing.{cleared}
use Rattle.words.proofs.clearing.Clearing.{cleared-all}
use Rattle.call.specs.delivering.Told.{Told, ToldIndexed}
use Rattle.pausing.specs.declared.Turn.{Turn as TurnAnswer}
use Rattle.pausing.specs.declared.Turn.TheVariants.{Paused as PausedAnswer, Refused as RefusedAnswer}
use Rattle.pausing.specs.declared.reaching.End.{End}
use Rattle.pausing.specs.declared.reaching.Stage.{Stage}
use Rattle.pausing.specs.declared.reaching.Stage.TheVariants.{Paused as PausedStage, Refused as RefusedStage, Over as OverStage}
use Rattle.pausing.specs.Turned.{turn_numbers, alone, beside, outcome_for}
use Rattle.pausing.specs.Resumed.{ShortTurn}
use Rattle.pausing.specs.reaching.Stages.{StageReady}
use Rattle.pausing.specs.closing.Closed.{ToldTurn, Closed}

-- ---- told without an index, and with one
short-alone : (a : Result Accepted Refusal) → get_or (numbers a) 4 0 < 4294967296 → ShortTurn (alone a)
unfolding alone numbers turn_numbers indexed_numbers
short-alone (Ok a) h = (h, omega arith)
short-alone (Err r) h = (omega arith, omega arith)

short-beside : (a : Result AcceptedIndexed Refusal) → (get_or (indexed_numbers a) 4 0 < 4294967296) × (get_or (indexed_numbers a) 5 0 < 4294967296) → ShortTurn (beside a)
unfolding beside indexed_numbers turn_numbers
short-beside (Ok a) h = h
short-beside (Err r) h = (omega arith, omega arith)

module _ (d : Decided) (buf buf' : List ℕ) where
  pub told-alone : (a : Result Accepted Refusal) → Told d buf a buf' → (idx : List ℕ) → ToldTurn d false buf idx (alone a) buf' idx
  unfolding outcome_for
  told-alone a t idx = record { same = λ ws. (ap alone (t.same ws).0, (t.same ws).1, refl); short = short-alone a t.short }

  pub told-beside : (idx idx' : List ℕ) (a : Result AcceptedIndexed Refusal) → ToldIndexed d buf idx a buf' idx' → ToldTurn d true buf idx (beside a) buf' idx'
  unfolding outcome_for
  told-beside idx idx' a t = record { same = λ ws. (ap beside (t.same ws).0, (t.same ws).1, (t.same ws).2); short = short-beside a t.short }

-- ---- a stage
module _ (s ws : List ℕ) (x : Stage) where
  pub ready-over : (e : End) → x ≡ OverStage e → StageReady s ws x → Ended s ws × Faultless s ws
  unfolding StageReady
  ready-over e q h = rw q at h

  module _ (buf idx : List ℕ) (indexed : Bool) where
    pub closed-paused : (n : ℕ) → x ≡ PausedStage n → Closed s ws buf idx indexed x (PausedAnswer n) buf idx ws
    unfolding Closed
    closed-paused n q = rw q (refl, refl, refl, refl)

    pub closed-refused : (f : Refusal) → x ≡ RefusedStage f → (ws' : List ℕ) → ws' ≡ cleared ws (length ws) → Closed s ws buf idx indexed x (RefusedAnswer f) buf idx ws'
    unfolding Closed
    closed-refused f q ws' c = rw q (refl, refl, refl, c ∙ cleared-all ws)

    pub closed-over : (e : End) → x ≡ OverStage e → (r : TurnAnswer) (buf' idx' ws' : List ℕ)
        → ToldTurn (reported (report_in s ws e.reply) e.steps) indexed buf idx r buf' idx' → ws' ≡ cleared ws (length ws)
        → Closed s ws buf idx indexed x r buf' idx' ws'
    unfolding Closed
    closed-over e q r buf' idx' ws' t c = rw q (t, c ∙ cleared-all ws)
