-- Lists joined and compared element by element.
use mathlib.Core.Path.{◌≡◌, refl, ap₂}
use mathlib.Core.Bool.{Bool, true, false, ◌&&◌}
use mathlib.Core.List.{List, [], ◌∷◌}
use Rattle.masks.proofs.Both.{both, never}
use Rattle.join_laws.specs.Join.{Joins, Equals}

-- up to the end of the shorter list
abbrev pub each : {A : Type 0} → (A → A → A) → List A → List A → List A
each j [] ys = []
each j (x ∷ xs) [] = []
each j (x ∷ xs) (y ∷ ys) = j x y ∷ each j xs ys

abbrev pub each_same : {A : Type 0} → (A → A → Bool) → List A → List A → Bool
each_same same [] [] = true
each_same same [] (y ∷ ys) = false
each_same same (x ∷ xs) [] = false
each_same same (x ∷ xs) (y ∷ ys) = same x y && each_same same xs ys

module _ {A : Type 0} {j : A → A → A} (laws : Joins j) where
  each-idem : (xs : List A) → each j xs xs ≡ xs
  each-idem [] = refl
  each-idem (x ∷ xs) = ap₂ ◌∷◌ (laws.idem x) (each-idem xs)

  each-comm : (xs ys : List A) → each j xs ys ≡ each j ys xs
  each-comm [] [] = refl
  each-comm [] (y ∷ ys) = refl
  each-comm (x ∷ xs) [] = refl
  each-comm (x ∷ xs) (y ∷ ys) = ap₂ ◌∷◌ (laws.comm x y) (each-comm xs ys)

  each-assoc : (xs ys zs : List A) → each j (each j xs ys) zs ≡ each j xs (each j ys zs)
  each-assoc [] ys zs = refl
  each-assoc (x ∷ xs) [] zs = refl
  each-assoc (x ∷ xs) (y ∷ ys) [] = refl
  each-assoc (x ∷ xs) (y ∷ ys) (z ∷ zs) = ap₂ ◌∷◌ (laws.assoc x y z) (each-assoc xs ys zs)

  pub each-joins : Joins (each j)
  each-joins = record { idem = each-idem; comm = each-comm; assoc = each-assoc }

module _ {A : Type 0} {same : A → A → Bool} (equal : Equals same) where
  each-sound : (xs ys : List A) → each_same same xs ys ≡ true → xs ≡ ys
  each-sound [] [] h = refl
  each-sound [] (y ∷ ys) h = never h
  each-sound (x ∷ xs) [] h = never h
  each-sound (x ∷ xs) (y ∷ ys) h =
      let (p, q) = both (same x y) (each_same same xs ys) h in
      ap₂ ◌∷◌ (equal.sound x y p) (each-sound xs ys q)

  each-whole : (xs : List A) → each_same same xs xs ≡ true
  each-whole [] = refl
  each-whole (x ∷ xs) = rw (equal.whole x) (each-whole xs)

  pub each-equals : Equals (each_same same)
  each-equals = record { sound = each-sound; whole = each-whole }
