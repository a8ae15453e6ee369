-- The machine has not stopped because of a full queue.
use mathlib.Core.Path.{◌≡◌}
use Rattle.definition.specs.Machine.{Where, due, done, stop}

abbrev pub Unfull : {C F R S : Type 0} → Where C F R S → Type 0
Unfull (due m) = Unit {0}
Unfull (done x) = Unit {0}
Unfull (stop x) = x.number ≡ 8 → ⊥
