-- Slots without marks: their last words' lower halves, and every other word.
use Prim.Native.Nat.{ℕ, zero, suc, ◌+◌, ◌%◌, ◌<◌}
use mathlib.Core.Path.{◌≡◌, refl, ap, ◌∙◌}
use mathlib.Core.Bool.{Bool, true, false}
use mathlib.Core.List.{List}
use native.Mathlib.Numerals.{add-one}
use native.Mathlib.Omega.{arith}
use borrow.Author.Tests.{eqb-true, eqb-false}
use lib.Dec.{eqb}
use lib.ListN.{length, get_or, set, length-set}
use lib.Seq.{get_or-set_same, get_or-set_other}
use Rattle.layout.specs.declared.Tables.{Tables}
use Rattle.index_fill.specs.model.Model.{slot_of, unmarked_words}

pub length-unmarked : (t : Tables) (n : ℕ) (ws : List ℕ) → length (unmarked_words t n ws) ≡ length ws
unfolding unmarked_words
length-unmarked t zero ws = refl
length-unmarked t (suc n) ws = length-set (unmarked_words t n ws) (slot_of t n + 15) _ ∙ length-unmarked t n ws

pub unmarked-none : (t : Tables) (ws : List ℕ) → ws ≡ unmarked_words t 0 ws
unfolding unmarked_words
unmarked-none t ws = refl

-- one slot more
pub unmarked-more : (t : Tables) (n : ℕ) (ws v : List ℕ) → v ≡ unmarked_words t n ws
    → set v (slot_of t n + 15) (get_or v (slot_of t n + 15) 0 % 65536) ≡ unmarked_words t (n + 1) ws
unfolding unmarked_words
unmarked-more t n ws v e = rw (add-one n, e)

pub unmarked-out : (t : Tables) (n : ℕ) (ws : List ℕ) (a : ℕ) → ((k : ℕ) → k < n → a ≡ slot_of t k + 15 → ⊥) → get_or (unmarked_words t n ws) a 0 ≡ get_or ws a 0
unfolding unmarked_words
unmarked-out t zero ws a d = refl
unmarked-out t (suc n) ws a d =
    get_or-set_other (unmarked_words t n ws) (slot_of t n + 15) a _ 0 (d n (omega arith)) ∙ unmarked-out t n ws a (λ k l. d k (omega arith))

pub unmarked-in : (t : Tables) (n : ℕ) (ws : List ℕ) (k : ℕ) → k < n → slot_of t k + 15 < length ws
    → get_or (unmarked_words t n ws) (slot_of t k + 15) 0 ≡ get_or ws (slot_of t k + 15) 0 % 65536
unfolding unmarked_words
unmarked-in t zero ws k h l = absurd (omega arith)
unmarked-in t (suc n) ws k h l = go (eqb k n) refl (λ d. unmarked-in t n ws k (omega (arith, d)) l)
  where
    at : ℕ
    at = slot_of t k + 15

    go : (b : Bool) → eqb k n ≡ b → ((k ≡ n → ⊥) → get_or (unmarked_words t n ws) at 0 ≡ get_or ws at 0 % 65536) → get_or (unmarked_words t (suc n) ws) at 0 ≡ get_or ws at 0 % 65536
    go true e ih =
        rw (← eqb-true k n e)
        (get_or-set_same (unmarked_words t k ws) at _ 0 (omega (arith, length-unmarked t k ws))
        ∙ ap (λ (w : ℕ). w % 65536) (unmarked-out t k ws at (λ j i q. omega arith)))
    go false e ih = get_or-set_other (unmarked_words t n ws) (slot_of t n + 15) at _ 0 (λ q. eqb-false k n e (omega arith)) ∙ ih (eqb-false k n e)
