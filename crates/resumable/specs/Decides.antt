-- A test that answers a question: it says yes where that holds, and there alone.
use Rattle.std.specs.Prelude.{◌≡◌, Bool, true}

pub record Decides (b : Bool) (P : Type 0) : Type 0 where
  pub sound : b ≡ true → P
  pub complete : P → b ≡ true
