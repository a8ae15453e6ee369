-- What is asked of a join and of a test of equality.
use Rattle.std.specs.Prelude.{◌≡◌, Bool, true}

pub record Joins {A : Type 0} (j : A → A → A) : Type 0 where
  pub idem : (x : A) → j x x ≡ x
  pub comm : (x y : A) → j x y ≡ j y x
  pub assoc : (x y z : A) → j (j x y) z ≡ j x (j y z)

-- the test says exactly equality
pub record Equals {A : Type 0} (same : A → A → Bool) : Type 0 where
  pub sound : (x y : A) → same x y ≡ true → x ≡ y
  pub whole : (x : A) → same x x ≡ true

abbrev pub Takes : {A : Type 0} → (A → A → A) → A → A → Type 0
Takes j x y = j x y ≡ x
