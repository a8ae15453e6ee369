-- Sums over lists: at one place changed, and bounded.
use Prim.Native.Nat.{ℕ, zero, suc, ◌+◌, ◌*◌, ◌<◌, ◌≤◌}
use native.Mathlib.Nat.{suc-mul}
use native.Mathlib.Omega.{arith}
use mathlib.Core.Path.{◌≡◌, refl}
use mathlib.Core.List.{List, [], ◌∷◌}
use lib.ListN.{length, get_or, set}
use Rattle.machine_laws.proofs.All.{All, nil, cons}
use Rattle.termination.specs.Left.{total}

module _ {A : Type 0} (f : A → ℕ) where
  -- a place that is there gives up what stood there for what stands there now
  pub total-set : (xs : List A) (i : ℕ) (x d : A) → i < length xs → total f (set xs i x) + f (get_or xs i d) ≡ total f xs + f x
  unfolding total
  total-set [] i x d l = absurd (omega arith)
  total-set (y ∷ ys) zero x d l = omega arith
  total-set (y ∷ ys) (suc i) x d l = let h = total-set ys i x d (omega arith) in omega arith

  pub total-past : (xs : List A) (i : ℕ) (x : A) → length xs ≤ i → total f (set xs i x) ≡ total f xs
  unfolding total
  total-past [] i x l = refl
  total-past (y ∷ ys) zero x l = absurd (omega arith)
  total-past (y ∷ ys) (suc i) x l = let h = total-past ys i x (omega arith) in omega arith

  pub total-most : (k : ℕ) {xs : List A} → All (λ x. f x ≤ k) xs → total f xs ≤ length xs * k
  unfolding total
  total-most k nil = omega arith
  total-most k (cons {xs = xs} p a) = let h = total-most k a in rw (suc-mul (length xs) k) (omega arith)

  more : {k j : ℕ} {xs : List A} → k ≤ j → All (λ x. f x ≤ k) xs → All (λ x. f x ≤ j) xs
  more l nil = nil
  more l (cons {x = x} p a) = cons {x = x} (omega arith) (more l a)

  -- each is at most the sum
  pub total-each : (xs : List A) → All (λ x. f x ≤ total f xs) xs
  unfolding total
  total-each [] = nil
  total-each (x ∷ xs) = cons {x = x} (omega arith) (more (omega arith) (total-each xs))
