-- The walk over the fields, one field at a time.
use mathlib.Core.Path.{◌≡◌, refl, ap, ◌∙◌}
use mathlib.Core.List.{List, [], ◌∷◌}
use Prim.Native.Nat.{ℕ, zero, suc, ◌-◌, ◌<◌, ◌≤◌}
use native.Mathlib.Omega.{arith}
use borrow.Author.Tests.{lt-ltb, le-ltb}
use lib.ListN.{length}
use Rattle.description.specs.Fields.{next_at, fields_f, fields_from}

-- the next field stands further on
pub next-after : (s : List ℕ) (p : ℕ) → p < next_at s p
unfolding next_at
next-after s p = omega arith

-- any count that is large enough gives the same fields
pub enough : (f g : ℕ) (s : List ℕ) (p : ℕ) → length s - p ≤ f → length s - p ≤ g → fields_f f s p ≡ fields_f g s p
unfolding fields_f
enough zero zero s p hf hg = refl
enough zero (suc g) s p hf hg = rw (le-ltb p (length s) (omega arith))
enough (suc f) zero s p hf hg = rw (le-ltb p (length s) (omega arith))
enough (suc f) (suc g) s p hf hg = rw (enough f g s (next_at s p) (omega (arith, next-after s p)) (omega (arith, next-after s p)))

one_more : (f : ℕ) (s : List ℕ) (p : ℕ) → p < length s → fields_f (suc f) s p ≡ p ∷ fields_f f s (next_at s p)
unfolding fields_f
one_more f s p h = rw (lt-ltb p (length s) h)

pub fields-turn : (s : List ℕ) (p : ℕ) → p < length s → fields_from s p ≡ p ∷ fields_from s (next_at s p)
unfolding fields_from
fields-turn s p h =
    enough (length s - p) (suc (length s)) s p (omega arith) (omega arith)
    ∙ one_more (length s) s p h
    ∙ ap (λ (ps : List ℕ). p ∷ ps) (enough (length s) (length s - next_at s p) s (next_at s p) (omega arith) (omega arith))

pub fields-end : (s : List ℕ) (p : ℕ) → length s ≤ p → fields_from s p ≡ []
unfolding fields_from fields_f
fields-end s p h = enough (length s - p) zero s p (omega arith) (omega arith)
