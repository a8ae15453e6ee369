-- Laws of cells one behind another, and of what a write leaves alone.
use Prim.Native.Nat.{ℕ, zero, suc, ◌+◌, ◌*◌, ◌-◌, ◌<◌, ◌≤◌}
use mathlib.Core.Path.{◌≡◌, refl, ap, ap₂, ◌∙◌}
use mathlib.Core.Logic.{◌⊎◌, inl, inr}
use mathlib.Core.List.{List, [], ◌∷◌, ◌++◌}
use native.Mathlib.Omega.{arith}
use lib.ListN.{length, get_or, set, take, drop, length-set}
use lib.Seq.{get_or-set_other, take_at, drop_at}
use Rattle.cells.specs.declared.Cell.{Cell}
use Rattle.words.specs.Layout.{cell_at, put_cell, copy_n}
use Rattle.words.proofs.Laws.{cell_at-same, length-put_cell, put_cell-out, length-copy_n, copy_n-out}
use Rattle.words.specs.Rows.{cells_at, Outside}

-- ---- how many, which, and two parts
pub cells_at-length : (w : List ℕ) (at n : ℕ) → length (cells_at w at n) ≡ n
unfolding cells_at
cells_at-length w at zero = refl
cells_at-length w at (suc n) = ap suc (cells_at-length w (at + 16) n)

pub cells_at-get_d : (w : List ℕ) (at n k : ℕ) (d : Cell) → k < n → get_or (cells_at w at n) k d ≡ cell_at w (at + 16 * k)
unfolding cells_at
cells_at-get_d w at zero k d h = absurd (omega arith)
cells_at-get_d w at (suc n) zero d h = let e : at ≡ at + 16 * 0 = omega arith in ap (cell_at w) e
cells_at-get_d w at (suc n) (suc k) d h =
    let e : at + 16 + 16 * k ≡ at + 16 * suc k = omega arith in
    cells_at-get_d w (at + 16) n k d (omega arith) ∙ ap (cell_at w) e

pub cells_at-append : (w : List ℕ) (at a b : ℕ) → cells_at w at (a + b) ≡ cells_at w at a ++ cells_at w (at + 16 * a) b
unfolding cells_at
cells_at-append w at zero b =
    let e : 0 + b ≡ b = omega arith in
    let f : at ≡ at + 16 * 0 = omega arith in
    ap₂ (cells_at w) f e
cells_at-append w at (suc a) b =
    let e : suc a + b ≡ suc (a + b) = omega arith in
    let f : at + 16 + 16 * a ≡ at + 16 * suc a = omega arith in
    ap (cells_at w at) e
    ∙ ap (λ (l : List Cell). cell_at w at ∷ l) (cells_at-append w (at + 16) a b ∙ ap (λ (x : ℕ). cells_at w (at + 16) a ++ cells_at w x b) f)

pub cells_at-one : (w : List ℕ) (at : ℕ) → cells_at w at 1 ≡ cell_at w at ∷ []
unfolding cells_at
cells_at-one w at = refl

pub cells_at-take : (w : List ℕ) (at n k : ℕ) → k ≤ n → take k (cells_at w at n) ≡ cells_at w at k
cells_at-take w at n k h =
    let e : n ≡ k + (n - k) = omega arith in
    ap (λ (m : ℕ). take k (cells_at w at m)) e
    ∙ ap (take k) (cells_at-append w at k (n - k))
    ∙ take_at (cells_at w at k) (cells_at w (at + 16 * k) (n - k)) k (cells_at-length w at k)

pub cells_at-drop : (w : List ℕ) (at n k : ℕ) → k ≤ n → drop k (cells_at w at n) ≡ cells_at w (at + 16 * k) (n - k)
cells_at-drop w at n k h =
    let e : n ≡ k + (n - k) = omega arith in
    ap (λ (m : ℕ). drop k (cells_at w at m)) e
    ∙ ap (drop k) (cells_at-append w at k (n - k))
    ∙ drop_at (cells_at w at k) (cells_at w (at + 16 * k) (n - k)) k (cells_at-length w at k)

-- equal words, equal cells
pub cells_at-same : (w v : List ℕ) (a b n : ℕ) → ((j : ℕ) → j < 16 * n → get_or w (a + j) 0 ≡ get_or v (b + j) 0) → cells_at w a n ≡ cells_at v b n
unfolding cells_at
cells_at-same w v a b zero h = refl
cells_at-same w v a b (suc n) h =
    ap₂ ◌∷◌ (cell_at-same w v a b (λ k l. h k (omega arith)))
    (cells_at-same w v (a + 16) (b + 16) n (λ j l.
    let e : a + 16 + j ≡ a + (16 + j) = omega arith in
    let f : b + (16 + j) ≡ b + 16 + j = omega arith in
    ap (λ (i : ℕ). get_or w i 0) e ∙ h (16 + j) (omega arith) ∙ ap (λ (i : ℕ). get_or v i 0) f))

-- ---- what a write leaves alone
pub outside_refl : (a b : ℕ) (w : List ℕ) → Outside a b w w
outside_refl a b w = record { length = refl; word = λ j h. refl }

pub outside_trans : {a b : ℕ} {w v u : List ℕ} → Outside a b w v → Outside a b v u → Outside a b w u
outside_trans p q = record { length = q.length ∙ p.length; word = λ j h. q.word j h ∙ p.word j h }

pub outside-widen : {a b : ℕ} (c d : ℕ) {w v : List ℕ} → Outside a b w v → c ≤ a → b ≤ d → Outside c d w v
outside-widen {a} {b} c d {w} {v} p l m = record { length = p.length; word = word }
  where
    word : (j : ℕ) → (j < c) ⊎ (d ≤ j) → get_or v j 0 ≡ get_or w j 0
    word j (inl h) = p.word j (inl (omega arith))
    word j (inr h) = p.word j (inr (omega arith))

pub outside-put : (w : List ℕ) (at : ℕ) (c : Cell) → Outside at (at + 15) w (put_cell w at c)
outside-put w at c = record { length = length-put_cell w at c; word = put_cell-out w at c }

pub outside-copy : (w : List ℕ) (a b n : ℕ) → Outside b (b + n) w (copy_n w a b n)
outside-copy w a b n = record { length = length-copy_n w a b n; word = copy_n-out w a b n }

pub outside_set : (w : List ℕ) (at x : ℕ) → Outside at (at + 1) w (set w at x)
outside_set w at x = record { length = length-set w at x; word = word }
  where
    word : (j : ℕ) → (j < at) ⊎ (at + 1 ≤ j) → get_or (set w at x) j 0 ≡ get_or w j 0
    word j (inl h) = get_or-set_other w at j x 0 (λ e. omega arith)
    word j (inr h) = get_or-set_other w at j x 0 (λ e. omega arith)

-- cells beside what is written
pub cell_at-outside : {a b : ℕ} {w v : List ℕ} → Outside a b w v → (at : ℕ) → (at + 15 ≤ a) ⊎ (b ≤ at) → cell_at v at ≡ cell_at w at
cell_at-outside {a} {b} {w} {v} p at (inl h) = cell_at-same v w at at (λ k l. p.word (at + k) (inl (omega arith)))
cell_at-outside {a} {b} {w} {v} p at (inr h) = cell_at-same v w at at (λ k l. p.word (at + k) (inr (omega arith)))

pub cells_at-outside : {a b : ℕ} {w v : List ℕ} → Outside a b w v → (at n : ℕ) → (at + 16 * n ≤ a) ⊎ (b ≤ at) → cells_at v at n ≡ cells_at w at n
cells_at-outside {a} {b} {w} {v} p at n (inl h) = cells_at-same v w at at n (λ j l. p.word (at + j) (inl (omega arith)))
cells_at-outside {a} {b} {w} {v} p at n (inr h) = cells_at-same v w at at n (λ j l. p.word (at + j) (inr (omega arith)))

-- one of the cells written
pub cells_at-set : {a b : ℕ} {w v : List ℕ} → Outside a b w v → (at n k : ℕ) (c : Cell) → k < n → at + 16 * k ≤ a → b ≤ at + 16 * suc k → cell_at v (at + 16 * k) ≡ c → cells_at v at n ≡ set (cells_at w at n) k c
unfolding cells_at
cells_at-set p at zero k c h l m e = absurd (omega arith)
cells_at-set {a} {b} {w} {v} p at (suc n) zero c h l m e =
    let z : at ≡ at + 16 * 0 = omega arith in
    ap₂ ◌∷◌ (ap (cell_at v) z ∙ e) (cells_at-outside p (at + 16) n (inr (omega arith)))
cells_at-set {a} {b} {w} {v} p at (suc n) (suc k) c h l m e =
    let z : at + 16 + 16 * k ≡ at + 16 * suc k = omega arith in
    ap₂ ◌∷◌ (cell_at-outside p at (inl (omega arith)))
    (cells_at-set p (at + 16) n k c (omega arith) (omega arith) (omega arith) (ap (cell_at v) z ∙ e))
