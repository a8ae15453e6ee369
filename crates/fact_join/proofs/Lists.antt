-- Lists by their places: none has changed, or one has.
use Prim.Native.Nat.{ℕ, ◌+◌, ◌<◌}
use native.Mathlib.Omega.{arith}
use mathlib.Core.Path.{◌≡◌, sym, ap, ◌∙◌}
use mathlib.Core.Bool.{Bool, not}
use lib.ListN.{get_or, set}
use Rattle.definition.specs.Module.{row}
use Rattle.definition.specs.Leaves.{join_at, moved_at}
use Rattle.form_laws.proofs.Each.{row-at}
use Rattle.run_state.proofs.Rows.{row_same, row-set}

-- from place 0 on
pub places_same : {A : Type 0} (f g : ℕ → A) (n : ℕ) → ((j : ℕ) → j < n → g j ≡ f j) → row g 0 n ≡ row f 0 n
places_same f g n h = row_same g f 0 n (λ j a b. h j (omega arith))

-- a value joined in at the place k
module _ {A : Type 0} (f : ℕ → A) (n k : ℕ) (l : k < n) (j : A → A → A) (d : A) (x : A) where
  here : f k ≡ get_or (row f 0 n) k d
  here = let z : 0 + k ≡ k = omega arith in sym (row-at f d 0 n k l ∙ ap f z)

  pub places-joined : (g : ℕ → A) → ((i : ℕ) → i < n → (i ≡ k → ⊥) → g i ≡ f i) → g k ≡ j (f k) x → row g 0 n ≡ join_at j d (row f 0 n) k x
  unfolding join_at
  places-joined g h e =
      let z : 0 + k ≡ k = omega arith in
      row-set f g 0 n k l (λ i a b o. h i (omega arith) (λ q. o (omega arith)))
      ∙ ap (set (row f 0 n) k) (ap g z ∙ e ∙ ap (λ (t : A). j t x) here)

  pub places-moved : (same : A → A → Bool) → not (same (f k) (j (f k) x)) ≡ moved_at j same d (row f 0 n) k x
  unfolding moved_at
  places-moved same = ap (λ (t : A). not (same t (j t x))) here
