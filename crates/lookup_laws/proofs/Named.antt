-- The record of a chunk and an instruction among records that rise by both.
use Prim.Native.Nat.{ℕ}
use native.Mathlib.Omega.{arith}
use mathlib.Core.Path.{◌≡◌, refl}
use mathlib.Core.Logic.{inl, inr}
use mathlib.Core.Bool.{Bool, true, false, cond, ◌&&◌}
use mathlib.Core.Option.{Option, none, some}
use mathlib.Core.List.{List, [], ◌∷◌, Memᴰ}
use lib.Dec.{eqb}
use borrow.Author.Tests.{eq-eqb, ne_eqb, eqb-true}
use Rattle.definition.specs.Report.{Record}
use Rattle.consistent.specs.Rising.{Before, Rising}

-- the first record of these numbers
unfoldable pub is_of : ℕ → ℕ → Record → Bool
is_of c i x = eqb x.chunk c && eqb x.instruction i

unfoldable pub named : ℕ → ℕ → List Record → Option Record
named c i [] = none
named c i (x ∷ xs) = cond (is_of c i x) (some x) (named c i xs)

-- ---- among records that rise each is the one of its numbers
off-right : (b : Bool) → (b && false) ≡ false
off-right true = refl
off-right false = refl

own : (x : Record) → is_of x.chunk x.instruction x ≡ true
unfolding is_of
own x = rw (eq-eqb x.chunk x.chunk refl) (eq-eqb x.instruction x.instruction refl)

earlier : (x y : Record) → Before (λ z. z.chunk) (λ z. z.instruction) y x → is_of x.chunk x.instruction y ≡ false
unfolding is_of
earlier x y (inl l) = rw (ne_eqb y.chunk x.chunk (λ e. absurd (omega arith)))
earlier x y (inr l) = rw (ne_eqb y.instruction x.instruction (λ e. absurd (omega arith))) (off-right (eqb y.chunk x.chunk))

pub named-listed : (x : Record) (xs : List Record) → Rising xs → Memᴰ x xs → named x.chunk x.instruction xs ≡ some x
unfolding named
named-listed x (y ∷ ys) h (Memᴰ.head e) = rw (← e, own x)
named-listed x (y ∷ ys) h (Memᴰ.tail m) = rw (earlier x y (h.0 x m)) (named-listed x ys h.1 m)
named-listed x [] h x3 = elim x3 [ ]

pub named_none : (c i : ℕ) (xs : List Record) → ((x : Record) → Memᴰ x xs → x.chunk ≡ c → x.instruction ≡ i → ⊥) → named c i xs ≡ none
unfolding named is_of
named_none c i [] h = refl
named_none c i (x ∷ xs) h = go (eqb x.chunk c) (eqb x.instruction i) refl refl (named_none c i xs (λ y m. h y (Memᴰ.tail m)))
  where
    go : (a b : Bool) → eqb x.chunk c ≡ a → eqb x.instruction i ≡ b → named c i xs ≡ none → cond (a && b) (some x) (named c i xs) ≡ none
    go true true e k n = absurd (h x (Memᴰ.head refl) (eqb-true x.chunk c e) (eqb-true x.instruction i k))
    go true false e k n = n
    go false b e k n = n
