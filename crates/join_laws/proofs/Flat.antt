-- The laws of a flat join, over any test that says exactly equality.
use mathlib.Core.Path.{◌≡◌, refl, sym, ap, ◌∙◌}
use mathlib.Core.Logic.{◌⊎◌, inl, inr}
use mathlib.Core.Bool.{Bool, true, false, cond, true≢false}
use Rattle.widths.specs.Width.{flat}
use Rattle.join_laws.specs.Join.{Joins, Equals}

module _ {A : Type 0} (same : A → A → Bool) (top : A) (equal : Equals same) where
  flat-top : (x : A) → flat same top x top ≡ top
  flat-top x = go (same x top) refl
    where
      go : (t : Bool) → same x top ≡ t → flat same top x top ≡ top
      go true e = rw e (equal.sound x top e)
      go false e = rw e

  top-flat : (x : A) → flat same top top x ≡ top
  top-flat x = go (same top x) refl
    where
      go : (t : Bool) → same top x ≡ t → flat same top top x ≡ top
      go true e = rw e
      go false e = rw e

  flip : (x y : A) → same x y ≡ false → same y x ≡ true → ⊥
  flip x y p q = true≢false (sym (equal.whole x) ∙ ap (same x) (sym (equal.sound y x q)) ∙ p)

  flat-comm : (x y : A) → flat same top x y ≡ flat same top y x
  flat-comm x y = go (same x y) (same y x) refl refl
    where
      go : (s t : Bool) → same x y ≡ s → same y x ≡ t → flat same top x y ≡ flat same top y x
      go true true p q = rw (p, q) (equal.sound x y p)
      go true false p q = absurd (flip y x q p)
      go false true p q = absurd (flip x y p q)
      go false false p q = rw (p, q)

  flat-assoc : (x y z : A) → flat same top (flat same top x y) z ≡ flat same top x (flat same top y z)
  flat-assoc x y z = go (same x y) (same y z) refl refl
    where
      go : (s t : Bool) → same x y ≡ s → same y z ≡ t → flat same top (flat same top x y) z ≡ flat same top x (flat same top y z)
      go true true p q = rw (p, q, p) (rw (equal.sound x y p, q) refl)
      go true false p q = rw (p, q, equal.sound x y p, q) (sym (flat-top y))
      go false true p q = rw (p, q, p) (top-flat z)
      go false false p q = rw (p, q) (top-flat z ∙ sym (flat-top x))

  pub flat-joins : Joins (flat same top)
  flat-joins = record { idem = λ x. rw (equal.whole x); comm = flat-comm; assoc = flat-assoc }

  -- what takes in another is the other, or the top
  pub flat-kept : (x y : A) → flat same top x y ≡ x → (x ≡ top) ⊎ (y ≡ x)
  flat-kept x y h = go (same x y) refl h
    where
      go : (t : Bool) → same x y ≡ t → cond t x top ≡ x → (x ≡ top) ⊎ (y ≡ x)
      go true e h = inr (sym (equal.sound x y e))
      go false e h = inl (sym h)
