-- What holds of every element of a list.
use Prim.Native.Nat.{ℕ, zero, suc, ◌+◌, ◌<◌}
use native.Mathlib.Omega.{arith}
use native.Mathlib.Nat.{add-zero}
use native.Mathlib.Numerals.{add-one}
use mathlib.Core.Path.{◌≡◌, refl, sym, ap, ◌∙◌}
use mathlib.Core.Logic.{inl, inr}
use mathlib.Core.List.Memᴰ
use mathlib.Core.List.{List, [], ◌∷◌, map, Memᴰ}
use lib.ListN.{length, get_or}
use Rattle.definition.specs.Module.{row}
use Rattle.definition.specs.State.{join_cells}
use Rattle.cells.specs.declared.Cell.{Cell}

pub suc-out : (i j : ℕ) → i + suc j ≡ suc i + j
suc-out i j = omega arith

abbrev pub All : {A : Type 0} → (A → Type 0) → List A → Type 0
All P [] = Unit {0}
All P (x ∷ xs) = P x × All P xs

pub all-at : {A : Type 0} (P : A → Type 0) (d : A) (l : List A) (i : ℕ) → All P l → i < length l → P (get_or l i d)
all-at P d [] i a h = absurd (omega arith)
all-at P d (x ∷ xs) zero a h = a.0
all-at P d (x ∷ xs) (suc i) a h = all-at P d xs i a.1 (omega arith)

pub all_map : {A : Type 0} (P Q : A → Type 0) (l : List A) → ((x : A) → P x → Q x) → All P l → All Q l
all_map P Q [] f a = tt
all_map P Q (x ∷ xs) f a = (f x a.0, all_map P Q xs f a.1)

-- the elements numbered from n on
abbrev pub Each : {A : Type 0} → (ℕ → A → Type 0) → ℕ → List A → Type 0
Each P n [] = Unit {0}
Each P n (x ∷ xs) = P n x × Each P (n + 1) xs

pub each_at : {A : Type 0} (P : ℕ → A → Type 0) (d : A) (n : ℕ) (l : List A) (i : ℕ) → Each P n l → i < length l → P (n + i) (get_or l i d)
each_at P d n [] i a h = absurd (omega arith)
each_at P d n (x ∷ xs) zero a h = rw (add-zero n) a.0
each_at P d n (x ∷ xs) (suc i) a h = rw (suc-out n i, ← add-one n) (each_at P d (n + 1) xs i a.1 (omega arith))

-- ---- lists built element by element
pub row-length : {A : Type 0} (f : ℕ → A) (i n : ℕ) → length (row f i n) ≡ n
unfolding row
row-length f i zero = refl
row-length f i (suc n) = ap suc (row-length f (suc i) n)

pub row-at : {A : Type 0} (f : ℕ → A) (d : A) (i k n : ℕ) → n < k → get_or (row f i k) n d ≡ f (i + n)
unfolding row
row-at f d i zero n h = absurd (omega arith)
row-at f d i (suc k) zero h = ap f (sym (add-zero i))
row-at f d i (suc k) (suc n) h = row-at f d (suc i) k n (omega arith) ∙ ap f (sym (suc-out i n))

-- a member has a place
pub mem-at : {A : Type 0} {x : A} (d : A) (l : List A) → Memᴰ x l → (i : ℕ) × (i < length l) × (get_or l i d ≡ x)
mem-at d [] m = absurd (Memᴰ.not-nil m)
mem-at d (y ∷ ys) m =
    elim (Memᴰ.cases_cons m) [
      | inl e ↦ (0, omega arith, sym e)
      | inr k ↦ let (i, h, e) = mem-at d ys k in (suc i, omega arith, e)
    ]

pub map_at : {A B : Type 0} (f : A → B) (l : List A) (i : ℕ) (c : A) (d : B) → i < length l → get_or (map f l) i d ≡ f (get_or l i c)
map_at f [] i c d h = absurd (omega arith)
map_at f (x ∷ xs) zero c d h = refl
map_at f (x ∷ xs) (suc i) c d h = map_at f xs i c d (omega arith)

pub join_cells-length : (xs ys : List Cell) → length (join_cells xs ys) ≡ length xs
unfolding join_cells
join_cells-length [] ys = refl
join_cells-length (x ∷ xs) [] = refl
join_cells-length (x ∷ xs) (y ∷ ys) = ap suc (join_cells-length xs ys)
