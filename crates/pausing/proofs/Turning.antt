-- What is answered of a stage is the turn of the run.
use Rattle.answers.specs.Answers.{indexed_numbers}
use Prim.Native.Nat.{ℕ}
use native.Mathlib.Omega.{arith}
use mathlib.Core.Path.{◌≡◌, refl, sym, ap, ◌∙◌}
use mathlib.Core.Bool.{Bool, true, false, cond, ◌&&◌}
use mathlib.Core.List.{List}
use lib.Dec.{ltb}
use lib.ListN.{length, replicate}
use Rattle.masks.proofs.Both.{never}
use Rattle.answers.specs.declared.Refusal.{Refusal}
use Rattle.definition.specs.Module.{module_of}
use Rattle.definition.specs.Call.{Decided, reported, turned, decided, turned_back, outcome_of}
use Rattle.definition.specs.CallIndexed.{turned_back_with, outcome_with}
use Rattle.refusal_laws.proofs.Left.{decided-zero}
use Rattle.refusal_laws.proofs.Indexed.{outcome-with-zero}
use Rattle.run_state.specs.Course.{room_in}
use Rattle.report_size.specs.Reporting.{report_in}
use Rattle.pause_laws.specs.Turn.{most_steps, Turn, pauses_at, ends_as, is_seven, capped, turn_at}
use Rattle.pausing.specs.declared.Turn.{Turn as TurnAnswer}
use Rattle.pausing.specs.declared.Turn.TheVariants.{Refused as RefusedAnswer}
use Rattle.pausing.specs.declared.reaching.Stage.{Stage}
use Rattle.pausing.specs.declared.reaching.Stage.TheVariants.{Paused as PausedStage, Refused as RefusedStage, Over as OverStage}
use Rattle.pausing.specs.Turned.{turn_numbers, alone, beside, outcome_for, TurnAs}
use Rattle.pausing.specs.Resumed.{ShortTurn}
use Rattle.pausing.specs.reaching.Stages.{StageBy, turn_in}
use Rattle.pausing.specs.closing.Closed.{Closed}

-- ---- an end of a run leaves zeros
ends_at : (f : ℕ → Decided) (total : ℕ) (d : Decided) → turn_at f total ≡ ends_as d → f (capped total) ≡ d
unfolding turn_at
ends_at f total d e = go (ltb total most_steps && is_seven (f total)) e
  where
    go : (b : Bool) → cond b (pauses_at total) (ends_as (f (capped total))) ≡ ends_as d → f (capped total) ≡ d
    go true e = never (cc)
    go false e = cc

pub turn-zero : (s u : List ℕ) (total : ℕ) (ws buf idx : List ℕ) (indexed : Bool) (d : Decided) → turn_in s u total ≡ ends_as d
    → (outcome_for indexed d ws buf idx).workspace ≡ replicate (length ws) 0
unfolding outcome_for
turn-zero s u total ws buf idx false d e =
    rw (← ends_at (decided (module_of s) (room_in s u)) total d e) (decided-zero (module_of s) (room_in s u) (capped total) ws buf)
turn-zero s u total ws buf idx true d e =
    rw (← ends_at (decided (module_of s) (room_in s u)) total d e) (outcome-with-zero (module_of s) (room_in s u) (capped total) ws buf idx)

-- ---- a refusal, with an index or without
refused-turn : (f : Refusal) (ws buf idx : List ℕ) (indexed : Bool)
    → (RefusedAnswer f ≡ (outcome_for indexed (turned f) ws buf idx).answer)
    × (buf ≡ (outcome_for indexed (turned f) ws buf idx).report)
    × (idx ≡ (outcome_for indexed (turned f) ws buf idx).index)
unfolding outcome_for outcome_of outcome_with turned_back turned_back_with alone beside
refused-turn f ws buf idx false = (refl, refl, refl)
refused-turn f ws buf idx true = (refl, refl, refl)

-- ---- closed at the turn
module _ (s v ws buf idx : List ℕ) (indexed : Bool) (r : TurnAnswer) (buf' idx' ws' : List ℕ) where
  module _ (t : Turn) (long : length v ≡ length ws) (zeros : (d : Decided) → t ≡ ends_as d → (outcome_for indexed d ws buf idx).workspace ≡ replicate (length ws) 0) where
    left-zeros : (d : Decided) → t ≡ ends_as d → ws' ≡ replicate (length v) 0 → ws' ≡ (outcome_for indexed d ws buf idx).workspace
    left-zeros d e w = w ∙ ap (λ (n : ℕ). replicate n 0) long ∙ sym (zeros d e)

    turn_by : (x : Stage) → StageBy s v t x → Closed s v buf idx indexed x r buf' idx' ws' → TurnAs s ws buf idx indexed t r buf' idx' ws'
    unfolding StageBy Closed TurnAs
    turn_by (PausedStage n) (e, p) (a, b, i, w) = rw (e, w) (a, b, i, long, p)
    turn_by (RefusedStage f) e (a, b, i, w) =
        let k = refused-turn f ws buf idx indexed in
        rw e (a ∙ k.0, b ∙ k.1, i ∙ k.2, left-zeros (turned f) e w)
    turn_by (OverStage n) (e, h, g) (told, w) =
        let k = told.same ws in
        rw e (k.0, k.1, k.2, left-zeros (reported (report_in s v n.reply) n.steps) e w)

  pub closed-turn : (u : List ℕ) (total : ℕ) (x : Stage) → length v ≡ length ws → StageBy s v (turn_in s u total) x → Closed s v buf idx indexed x r buf' idx' ws'
      → TurnAs s ws buf idx indexed (turn_in s u total) r buf' idx' ws'
  closed-turn u total x long = turn_by (turn_in s u total) long (turn-zero s u total ws buf idx indexed) x

  pub closed-short : (x : Stage) → Closed s v buf idx indexed x r buf' idx' ws' → ShortTurn r
  unfolding Closed turn_numbers indexed_numbers
  closed-short (PausedStage n) (a, b, i, w) = rw a (omega arith, omega arith)
  closed-short (RefusedStage f) (a, b, i, w) = rw a (omega arith, omega arith)
  closed-short (OverStage n) (told, w) = told.short
