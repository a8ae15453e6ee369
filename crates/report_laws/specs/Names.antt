-- Which locals a cell names: the one that its value was read from, and the one that its predicate tests.
use Rattle.std.specs.Prelude.{ℕ, Option, None, Some}
use Rattle.flows.specs.declared.Predicate.{Predicate}
use Rattle.flows.specs.declared.Predicate.TheVariants.{Nothing as Untested, Tests}

-- N holds of the local, if there is one
unfoldable pub NamesLocal : (ℕ → Type 0) → Option ℕ → Type 0
NamesLocal N None = Unit {0}
NamesLocal N (Some l) = N l

unfoldable pub NamesReceiver : (ℕ → Type 0) → Predicate → Type 0
NamesReceiver N Untested = Unit {0}
NamesReceiver N (Tests r w) = N r
