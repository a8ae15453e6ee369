-- What follows of any join: "x takes y in" is a preorder that further joins keep.
use mathlib.Core.Path.{◌≡◌, sym, ap, ◌∙◌}
use mathlib.Core.Bool.{Bool, false, not}
use borrow.Author.Tests.{not-false}
use Rattle.join_laws.specs.Join.{Equals, Joins, Takes}

module _ {A : Type 0} {j : A → A → A} (laws : Joins j) where
  pub takes-refl : (x : A) → Takes j x x
  takes-refl x = laws.idem x

  pub takes-trans : (x y z : A) → Takes j x y → Takes j y z → Takes j x z
  takes-trans x y z p q = ap (λ (t : A). j t z) (sym p) ∙ laws.assoc x y z ∙ ap (j x) q ∙ p

  -- a join takes in both its parts
  pub takes-right : (x y : A) → Takes j (j x y) y
  takes-right x y = laws.assoc x y y ∙ ap (j x) (laws.idem y)

  pub takes-left : (x y : A) → Takes j (j x y) x
  takes-left x y = rw (laws.comm x y) (takes-right y x)

  -- what x takes in, x joined further takes in
  pub takes-more : (x w y : A) → Takes j x y → Takes j (j x w) y
  takes-more x w y p =
      laws.assoc x w y ∙ ap (j x) (laws.comm w y) ∙ sym (laws.assoc x y w) ∙ ap (λ (t : A). j t w) p

  -- x takes in a join as soon as it takes in both parts
  pub takes-join : (x y z : A) → Takes j x y → Takes j x z → Takes j x (j y z)
  takes-join x y z p q = sym (laws.assoc x y z) ∙ ap (λ (t : A). j t z) p ∙ q

-- a join that leaves its first part as it was took the second in, and only then
module _ {A : Type 0} (j : A → A → A) {same : A → A → Bool} (equal : Equals same) where
  pub unchanged : (x y : A) → not (same x (j x y)) ≡ false → Takes j x y
  unchanged x y h = sym (equal.sound x (j x y) (not-false (same x (j x y)) h))

  pub still : (x y : A) → Takes j x y → not (same x (j x y)) ≡ false
  still x y p = ap (λ (z : A). not (same x z)) p ∙ ap not (equal.whole x)
