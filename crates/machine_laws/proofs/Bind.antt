-- Answers that may be refusals, inverted.
use Prim.Native.Nat.{ℕ}
use native.Mathlib.Omega.{arith}
use mathlib.Core.Path.{◌≡◌, refl}
use mathlib.Core.Option.{none, some}
use Rattle.definition.specs.Res.{Res, ok, bad, bind}

pub bad≢ok : {A : Type 0} {n : ℕ} {a : A} → bad n ≡ ok a → ⊥
bad≢ok h = let z : ◌≡◌ {A = ℕ} 0 1 = cc in omega arith

pub ok-inj : {A : Type 0} {a b : A} → ok a ≡ ok b → a ≡ b
ok-inj h = cc

pub bad-inj : {A : Type 0} {n m : ℕ} → ◌≡◌ {A = Res A} (bad n) (bad m) → n ≡ m
bad-inj h = cc

pub none≢some : {A : Type 0} {a : A} → none ≡ some a → ⊥
none≢some h = let z : ◌≡◌ {A = ℕ} 0 1 = cc in omega arith

pub some_inj : {A : Type 0} {a b : A} → some a ≡ some b → a ≡ b
some_inj h = cc

-- an accepted bind has an accepted first part, handed on as a variable
pub bind-use {ℓ} : {A B : Type 0} {C : Type ℓ} (r : Res A) (f : A → Res B) {b : B} → bind r f ≡ ok b → ((a : A) → r ≡ ok a → f a ≡ ok b → C) → C
bind-use (ok a) f h k = k a refl h
bind-use (bad n) f h k = absurd (bad≢ok h)
