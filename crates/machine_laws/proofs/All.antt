-- What holds of each element of a list holds of those of its parts, and of what is made of it.
use Prim.Native.Nat.{ℕ, zero, suc, ◌<◌}
use native.Mathlib.Omega.{arith}
use mathlib.Core.Option.{Option, none, some}
use mathlib.Core.List.{List, [], ◌∷◌, ◌++◌, map, Memᴰ}
use lib.ListN.{length, get_or, set, replicate, take, drop}
pub use Rattle.machine_laws.specs.All.{All, nil, cons}

module _ {A : Type 0} (P : A → Type 0) where
  pub all_append : {xs ys : List A} → All P xs → All P ys → All P (xs ++ ys)
  all_append nil b = b
  all_append (cons p a) b = cons p (all_append a b)

  pub all_set : {xs : List A} (i : ℕ) {x : A} → P x → All P xs → All P (set xs i x)
  all_set i p nil = nil
  all_set zero p (cons q a) = cons p a
  all_set (suc i) p (cons q a) = cons q (all_set i p a)

  pub all-get : {xs : List A} (i : ℕ) {d : A} → P d → All P xs → P (get_or xs i d)
  all-get i p nil = p
  all-get zero p (cons q a) = q
  all-get (suc i) p (cons q a) = all-get i p a

  pub all_replicate : (n : ℕ) {x : A} → P x → All P (replicate n x)
  all_replicate zero p = nil
  all_replicate (suc n) p = cons p (all_replicate n p)

  pub all_take : (n : ℕ) {xs : List A} → All P xs → All P (take n xs)
  all_take zero a = nil
  all_take (suc n) nil = nil
  all_take (suc n) (cons p a) = cons p (all_take n a)

  pub all_drop : (n : ℕ) {xs : List A} → All P xs → All P (drop n xs)
  all_drop zero a = a
  all_drop (suc n) nil = nil
  all_drop (suc n) (cons p a) = all_drop n a

-- place by place, and of a member
pub all_of : {A : Type 0} (P : A → Type 0) (d : A) (xs : List A) → ((i : ℕ) → i < length xs → P (get_or xs i d)) → All P xs
all_of P d [] h = nil
all_of P d (x ∷ xs) h = cons (h 0 (omega arith)) (all_of P d xs (λ i l. h (suc i) (omega arith)))

pub all-mem : {A : Type 0} {P : A → Type 0} {x : A} {xs : List A} → All P xs → Memᴰ x xs → P x
all-mem {P = P} (cons p a) (Memᴰ.head e) = rw e p
all-mem (cons p a) (Memᴰ.tail m) = all-mem a m
all-mem {A = A} {P = P} nil x4 = elim x4 [ ]

pub all_map : {A B : Type 0} {P : A → Type 0} (Q : B → Type 0) (f : A → B) {xs : List A} → ((x : A) → P x → Q (f x)) → All P xs → All Q (map f xs)
all_map Q f h nil = nil
all_map Q f h (cons {x = x} p a) = cons (h x p) (all_map Q f h a)

-- of what is there, if something is
abbrev pub Opt : {A : Type 0} → (A → Type 0) → Option A → Type 0
Opt P none = Unit {0}
Opt P (some x) = P x
