-- What is answered of a stage.
use Rattle.std.specs.Prelude.{ℕ, ◌≡◌, Bool, List, length, replicate}
use Rattle.definition.specs.Call.{Decided, reported}
use Rattle.report_size.specs.Reporting.{report_in}
use Rattle.pausing.specs.declared.Turn.{Turn as TurnAnswer}
use Rattle.pausing.specs.declared.Turn.TheVariants.{Paused as PausedAnswer, Refused as RefusedAnswer}
use Rattle.pausing.specs.declared.reaching.Stage.{Stage}
use Rattle.pausing.specs.declared.reaching.Stage.TheVariants.{Paused as PausedStage, Refused as RefusedStage, Over as OverStage}
use Rattle.pausing.specs.Turned.{outcome_for}
use Rattle.pausing.specs.Resumed.{ShortTurn}

-- told of a decision, whatever the workspace
pub record ToldTurn (d : Decided) (indexed : Bool) (buf idx : List ℕ) (r : TurnAnswer) (buf' idx' : List ℕ) : Type 0 where
  pub same : (ws : List ℕ) → (r ≡ (outcome_for indexed d ws buf idx).answer) × (buf' ≡ (outcome_for indexed d ws buf idx).report) × (idx' ≡ (outcome_for indexed d ws buf idx).index)
  pub short : ShortTurn r

unfoldable pub Closed : (s ws buf idx : List ℕ) (indexed : Bool) → Stage → TurnAnswer → (buf' idx' ws' : List ℕ) → Type 0
Closed s ws buf idx indexed (PausedStage n) r buf' idx' ws' = (r ≡ PausedAnswer n) × (buf' ≡ buf) × (idx' ≡ idx) × (ws' ≡ ws)
Closed s ws buf idx indexed (RefusedStage f) r buf' idx' ws' = (r ≡ RefusedAnswer f) × (buf' ≡ buf) × (idx' ≡ idx) × (ws' ≡ replicate (length ws) 0)
Closed s ws buf idx indexed (OverStage e) r buf' idx' ws' =
    ToldTurn (reported (report_in s ws e.reply) e.steps) indexed buf idx r buf' idx' × (ws' ≡ replicate (length ws) 0)
