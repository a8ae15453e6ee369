-- What settling comes to, where the queue is empty: in a round, after a fault and after none. The check's search goes by these in `settle`,
-- whatever the form in which a fault is passed on; so an edit that passes on another is refused for what it says.
use mathlib.Core.Bool.{true, false}
use mathlib.Core.List.{List}
use mathlib.Core.Path.{◌≡◌}
use Prim.Native.Nat.{ℕ}
use Rattle.std.specs.Prelude.{Option, Result, Ok, Err}
use Rattle.answers.specs.declared.Refusal.{Refusal}
use Rattle.run_state.specs.declared.Run.{Run}
use Rattle.rounds.specs.Ends.{GoesOn}
use Rattle.rounds.specs.Settling.{Onward}
use Rattle.rounds.specs.inspecting.Fault.{Inspected}
use Rattle.rounds.proofs.Ends.{settles-rounds, settles-validated, settles-stop}

pub round_settles : (s ws v : List ℕ) (r : Run) (x : Result (Option Run) Refusal) → r.validating ≡ false → GoesOn s ws v r x → Onward s ws v r x
round_settles = settles-rounds

pub fault_settles : (s ws : List ℕ) (r : Run) (f : Refusal) (y : Result (Unit {0}) Refusal) → r.validating ≡ true → Inspected s ws r.chunk r.steps y → y ≡ Err f → Onward s ws ws r (Err f)
fault_settles s ws r f y t i e = settles-stop s ws r t y i f e

pub faultless_settles : (s ws v : List ℕ) (r : Run) (x : Result (Option Run) Refusal) (y : Result (Unit {0}) Refusal) → r.validating ≡ true → Inspected s ws r.chunk r.steps y → y ≡ Ok tt → GoesOn s ws v r x → Onward s ws v r x
faultless_settles s ws v r x y t i e g = settles-validated s ws r t y i v x e g
