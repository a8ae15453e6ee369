-- What the code's answers stand for.
use Rattle.std.specs.Prelude.{ℕ, List, [], ◌∷◌, Option, Some, None}
use Rattle.std.proofs.Math.Option.{Option as Maybe, none, some}
use Rattle.ways.specs.declared.Ways.{Ways}
use Rattle.ways.specs.declared.Ways.TheVariants.{Zero, One, Two}

-- the targets, in the order in which they are taken
abbrev pub targets : Ways → List ℕ
targets Zero = []
targets (One a) = a ∷ []
targets (Two a b) = a ∷ b ∷ []

-- the local that is narrowed
abbrev pub receiver : Option ℕ → Maybe ℕ
receiver None = none
receiver (Some r) = some r
