-- Answers of the definition whose refusals, if any, have only certain numbers.
use Prim.Native.Nat.{ℕ, zero, suc}
use mathlib.Core.Path.{◌≡◌, refl}
use mathlib.Core.Bool.{Bool, true, false, cond}
use mathlib.Core.Option.{Option, none, some}
use lib.Dec.{eqb}
use borrow.Author.Tests.{eqb-false}
use Rattle.std.proofs.Common.{Result, Ok, Err}
use Rattle.definition.specs.Res.{Res, ok, bad, bind}
use Rattle.definition.specs.Machine.{Where, due, done, stop, Ran, accepted, refused}
use Rattle.definition.specs.Leaves.{unless}
use Rattle.definition.specs.Call.{Decided, reported, turned}
use Rattle.answers.specs.declared.Refusal.{Refusal}
use Rattle.definition.specs.declared.Scan.{Scan}

-- what both choices have, the choice has
pub either : {A : Type 0} (P : A → Type 0) (b : Bool) {x y : A} → P x → P y → P (cond b x y)
either P true p q = p
either P false p q = q

-- a number where 0 is no refusal
abbrev pub OfFault : (ℕ → Type 0) → ℕ → Type 0
OfFault P zero = Unit {0}
OfFault P (suc n) = P (suc n)

abbrev pub OfRes : {A : Type 0} → (ℕ → Type 0) → Res A → Type 0
OfRes P (ok a) = Unit {0}
OfRes P (bad n) = P n

-- a number with its place, if there is one
abbrev pub OfPlace : (ℕ → Type 0) → Option (ℕ × ℕ) → Type 0
OfPlace P none = Unit {0}
OfPlace P (some x) = P x.0

abbrev pub OfWhere : {C F R S : Type 0} → (ℕ → Type 0) → Where C F R S → Type 0
OfWhere P (due m) = Unit {0}
OfWhere P (done x) = Unit {0}
OfWhere P (stop x) = P x.number

abbrev pub OfRan : {R S : Type 0} → (ℕ → Type 0) → Ran R S → Type 0
OfRan P (accepted x steps) = Unit {0}
OfRan P (refused r) = P r.number

abbrev pub OfDecided : (ℕ → Type 0) → Decided → Type 0
OfDecided P (reported r steps) = Unit {0}
OfDecided P (turned r) = P r.number

abbrev pub OfStep : (ℕ → Type 0) → Result Scan Refusal → Type 0
OfStep P (Ok t) = Unit {0}
OfStep P (Err r) = P r.number

abbrev pub OfForm : (ℕ → Type 0) → Result ℕ Refusal → Type 0
OfForm P (Ok w) = Unit {0}
OfForm P (Err r) = P r.number

module _ (P : ℕ → Type 0) where
  pub bind-of : {A B : Type 0} (r : Res A) (f : A → Res B) → OfRes P r → ((a : A) → OfRes P (f a)) → OfRes P (bind r f)
  bind-of (ok a) f p q = q a
  bind-of (bad n) f p q = p

  pub unless-of : {A : Type 0} (n : ℕ) (r : Res A) → OfFault P n → OfRes P r → OfRes P (unless n r)
  unless-of zero r p q = q
  unless-of (suc n) r p q = p

  -- a fault that is there
  pub there : (n : ℕ) → OfFault P n → eqb n 0 ≡ false → P n
  there zero h e = absurd (eqb-false 0 0 e refl)
  there (suc n) h e = h
