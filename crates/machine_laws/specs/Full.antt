-- Where a full queue refuses a way: the machine's 8.
use Rattle.std.specs.Prelude.{ℕ, ◌<◌, ◌≤◌, ◌≡◌, ◌⊎◌, true, length, get_or}
use Rattle.std.proofs.Math.Option.{none, some}
use Rattle.definition.specs.Res.{Res, ok}
use Rattle.definition.specs.Machine.{Joined, Work}

-- the way's target is there, is new or changes, and the queue has no room
pub record Full {S : Type 0} (join : S → S → Res (Joined S)) (cap : ℕ) (w : Work S) (o : ℕ × S) : Type 0 where
  pub inside : o.0 < length w.states
  pub moves : (get_or w.states o.0 none ≡ none)
      ⊎ ((s : S) × (j : Joined S) × (get_or w.states o.0 none ≡ some s) × (join s o.1 ≡ ok j) × (j.changed ≡ true))
  pub full : cap ≤ length w.queue
