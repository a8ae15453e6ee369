-- Visits, joins and the end of a chunk refuse by 13 to 18: what these numbers have, each refusal there has.
use Prim.Native.Nat.{ℕ, ◌≤◌}
use native.Mathlib.Omega.{arith}
use mathlib.Core.Bool.{Bool}
use mathlib.Core.Option.{Option}
use mathlib.Core.List.{List}
use Rattle.definition.specs.Module.{Chunk}
use Rattle.definition.specs.State.{State, Facts, join}
use Rattle.definition.specs.Leaves.{Known, leaves}
use Rattle.definition.specs.Start.{after_chunk}
use Rattle.refusal_laws.proofs.Only.{OfRes, OfPlace}
use Rattle.refusal_laws.proofs.Visits.{leaves_of, join-of, after-of}

module _ (P : ℕ → Type 0) (late : (n : ℕ) → 13 ≤ n → P n) where
  pub join-late : (x y : State) → OfRes P (join x y)
  join-late = join-of P (late 13 (omega arith)) (late 14 (omega arith)) (late 15 (omega arith)) (late 16 (omega arith)) (late 17 (omega arith)) (late 18 (omega arith))

  pub leaves-late : (k : Known) (b : Bool) (c : Chunk) (f : Facts) (i : ℕ) (s : State) → OfRes P (leaves k b c f i s)
  leaves-late = leaves_of P (late 13 (omega arith)) (late 14 (omega arith)) (late 15 (omega arith)) (late 16 (omega arith)) (late 17 (omega arith)) (late 18 (omega arith))

  pub after-late : (c : Chunk) (ss : List (Option State)) → OfPlace P (after_chunk c ss)
  after-late = after-of P (late 13 (omega arith)) (late 14 (omega arith)) (late 15 (omega arith)) (late 16 (omega arith)) (late 17 (omega arith)) (late 18 (omega arith))
