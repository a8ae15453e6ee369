-- Rows joined place by place, and tables joined at one place: every law once, over any join.
use Prim.Native.Nat.{ℕ, zero, suc, ◌<◌, ◌≤◌}
use native.Mathlib.Omega.{arith}
use native.Mathlib.Decide.{ℕ_discrete, dec_lt}
use mathlib.Core.Path.{◌≡◌, refl, sym, ◌∙◌, ap, ap₂}
use mathlib.Core.Bool.{Bool, false}
use mathlib.Core.List.{List, [], ◌∷◌, head-eq_of_cons-eq, tail-eq_of_cons-eq}
use lib.ListN.{length, get_or, set, length-set}
use lib.Seq.{get_or-set_same, get_or-set_other, set-get_or}
use borrow.Author.Tests.{not-false}
use Rattle.join_laws.specs.Join.{Joins, Equals}
use Rattle.join_laws.proofs.Join.{takes-right, takes-more}
use Rattle.definition.specs.Leaves.{join_at, moved_at}

-- what is asked of a join here; a join of rows need not be commutative
pub record Grows {A : Type 0} (j : A → A → A) : Type 0 where
  pub self : (x : A) → j x x ≡ x
  pub takes : (x y : A) → j (j x y) y ≡ j x y
  pub keeps : (x y z : A) → j x z ≡ x → j (j x y) z ≡ j x y

pub grows-of : {A : Type 0} {j : A → A → A} → Joins j → Grows j
grows-of laws = record { self = laws.idem; takes = takes-right laws; keeps = takes-more laws }

-- ---- rows: the first one's length stays
abbrev pub over : {A : Type 0} → (A → A → A) → List A → List A → List A
over j [] ys = []
over j (x ∷ xs) [] = x ∷ xs
over j (x ∷ xs) (y ∷ ys) = j x y ∷ over j xs ys

module _ {A : Type 0} {j : A → A → A} (laws : Grows j) where
  over-self : (xs : List A) → over j xs xs ≡ xs
  over-self [] = refl
  over-self (x ∷ xs) = ap₂ ◌∷◌ (laws.self x) (over-self xs)

  over-takes : (xs ys : List A) → over j (over j xs ys) ys ≡ over j xs ys
  over-takes [] ys = refl
  over-takes (x ∷ xs) [] = refl
  over-takes (x ∷ xs) (y ∷ ys) = ap₂ ◌∷◌ (laws.takes x y) (over-takes xs ys)

  over-keeps : (xs ys zs : List A) → over j xs zs ≡ xs → over j (over j xs ys) zs ≡ over j xs ys
  over-keeps [] ys zs e = refl
  over-keeps (x ∷ xs) [] zs e = e
  over-keeps (x ∷ xs) (y ∷ ys) [] e = refl
  over-keeps (x ∷ xs) (y ∷ ys) (z ∷ zs) e =
      ap₂ ◌∷◌ (laws.keeps x y z (head-eq_of_cons-eq e)) (over-keeps xs ys zs (tail-eq_of_cons-eq e))

  pub over-grows : Grows (over j)
  over-grows = record { self = over-self; takes = over-takes; keeps = over-keeps }

module _ {A : Type 0} (j : A → A → A) where
  pub over-length : (xs ys : List A) → length (over j xs ys) ≡ length xs
  over-length [] ys = refl
  over-length (x ∷ xs) [] = refl
  over-length (x ∷ xs) (y ∷ ys) = ap suc (over-length xs ys)

  pub over-at : (d : A) (xs ys : List A) (n : ℕ) → n < length xs → n < length ys
      → get_or (over j xs ys) n d ≡ j (get_or xs n d) (get_or ys n d)
  over-at d [] ys n h k = absurd (omega arith)
  over-at d (x ∷ xs) [] n h k = absurd (omega arith)
  over-at d (x ∷ xs) (y ∷ ys) zero h k = refl
  over-at d (x ∷ xs) (y ∷ ys) (suc n) h k = over-at d xs ys n (omega arith) (omega arith)

  -- a row that takes in another does so at every place
  pub taken_at : (d : A) (xs ys : List A) (n : ℕ) → n < length xs → n < length ys → over j xs ys ≡ xs
      → j (get_or xs n d) (get_or ys n d) ≡ get_or xs n d
  taken_at d xs ys n h k e = sym (over-at d xs ys n h k) ∙ ap (λ (l : List A). get_or l n d) e

  -- past the second row the first one stays
  over-past : (d : A) (xs ys : List A) (n : ℕ) → length ys ≤ n → get_or (over j xs ys) n d ≡ get_or xs n d
  over-past d [] ys n h = refl
  over-past d (x ∷ xs) [] n h = refl
  over-past d (x ∷ xs) (y ∷ ys) zero h = absurd (omega arith)
  over-past d (x ∷ xs) (y ∷ ys) (suc n) h = over-past d xs ys n (omega arith)

-- ---- tables: the place n, if there is one, takes x in
abbrev pub In : {A : Type 0} → (A → A → A) → A → List A → ℕ → A → Type 0
In j d l n x = n < length l → j (get_or l n d) x ≡ get_or l n d

-- the second table is as long, and takes in all that the first does
pub record Wider {A : Type 0} (j : A → A → A) (d : A) (l l' : List A) : Type 0 where
  pub size : length l' ≡ length l
  pub keeps : (n : ℕ) (x : A) → In j d l n x → In j d l' n x

module _ {A : Type 0} (j : A → A → A) (d : A) where
  pub wider-refl : (l : List A) → Wider j d l l
  wider-refl l = record { size = refl; keeps = λ n x h. h }

  pub wider-trans : (a b c : List A) → Wider j d a b → Wider j d b c → Wider j d a c
  wider-trans a b c u v = record { size = v.size ∙ u.size; keeps = λ n x h. v.keeps n x (u.keeps n x h) }

  pub over-wider : Grows j → (xs ys : List A) → Wider j d xs (over j xs ys)
  over-wider laws xs ys = record { size = over-length j xs ys; keeps = λ n x h l. go n x (h (rw (← over-length j xs ys) l)) (dec_lt n (length ys)) l }
    where
      go : (n : ℕ) (x : A) → j (get_or xs n d) x ≡ get_or xs n d → Dec (n < length ys) → n < length (over j xs ys)
          → j (get_or (over j xs ys) n d) x ≡ get_or (over j xs ys) n d
      go n x h (yes k) l = rw (over-at j d xs ys n (rw (← over-length j xs ys) l) k) (laws.keeps (get_or xs n d) (get_or ys n d) x h)
      go n x h (no k) l = rw (over-past j d xs ys n (omega arith)) h

  pub at-still : {same : A → A → Bool} → Equals same → (l : List A) (i : ℕ) (x : A) → moved_at j same d l i x ≡ false
      → join_at j d l i x ≡ l
  unfolding join_at moved_at
  at-still {same} equal l i x e =
      rw (← equal.sound (get_or l i d) (j (get_or l i d) x) (not-false (same (get_or l i d) (j (get_or l i d) x)) e)) (set-get_or l i d)

  module _ (laws : Grows j) where
    pub at_has : (l : List A) (i : ℕ) (x : A) → In j d (join_at j d l i x) i x
    unfolding join_at
    at_has l i x h =
        let k : i < length l = rw (← length-set l i (j (get_or l i d) x)) h in
        rw (get_or-set_same l i (j (get_or l i d) x) d k) (laws.takes (get_or l i d) x)

    at-keeps : (l : List A) (i : ℕ) (x : A) (n : ℕ) (y : A) → In j d l n y → In j d (join_at j d l i x) n y
    unfolding join_at
    at-keeps l i x n y k h = go (ℕ_discrete n i)
      where
        h' : n < length l
        h' = rw (← length-set l i (j (get_or l i d) x)) h

        go : Dec (n ≡ i) → j (get_or (set l i (j (get_or l i d) x)) n d) y ≡ get_or (set l i (j (get_or l i d) x)) n d
        go (yes e) = rw (← e, get_or-set_same l n (j (get_or l n d) x) d h') (laws.keeps (get_or l n d) x y (k h'))
        go (no e) = rw (get_or-set_other l i n (j (get_or l i d) x) d e) (k h')

    pub at-wider : (l : List A) (i : ℕ) (x : A) → Wider j d l (join_at j d l i x)
    unfolding join_at
    at-wider l i x = record { size = length-set l i (j (get_or l i d) x); keeps = λ n y h. at-keeps l i x n y h }
