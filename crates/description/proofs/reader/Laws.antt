-- Where `after` stands, by where the field ends; what is left, as a part of the bytes.
use mathlib.Core.Path.{◌≡◌, refl, sym, ap, ◌∙◌}
use mathlib.Core.Bool.{Bool, true, false}
use mathlib.Core.List.{List, []}
use Prim.Native.Nat.{ℕ, ◌+◌, ◌-◌, ◌<◌, ◌≤◌}
use native.Mathlib.Omega.{arith}
use borrow.Author.Tests.{lt-ltb, le-ltb, ltb-true, ltb-false}
use lib.Dec.{ltb}
use lib.ListN.{length, take, drop, length-drop}
use lib.Seq.{take_all}
use Rattle.description.specs.Fields.{next_at, len_at, fields_from}
use Rattle.description.proofs.Walk.{next-after, fields-end}
use Rattle.description.specs.reader.Reading.{after, left}

module _ (s : List ℕ) (p : ℕ) where
  pub after_next : next_at s p ≤ length s → after s p ≡ next_at s p
  unfolding after
  after_next h = rw (le-ltb (length s) (next_at s p) h)

  after-over : length s < next_at s p → after s p ≡ length s
  unfolding after
  after-over h = rw (lt-ltb (length s) (next_at s p) h)

  pub after_none : length s ≤ p → length s ≡ after s p
  after_none h = omega (arith, after-over (omega (arith, next-after s p)))

  -- the field's length is read
  module _ (n : ℕ) (e : n ≡ len_at s p) where
    pub next-read : p + 3 + n ≤ length s → p + 3 + n ≡ after s p
    unfolding next_at
    next-read h = omega (arith, e, after_next (omega (arith, e, h)))

    pub over-read : length s < p + 3 + n → length s ≡ after s p
    unfolding next_at
    over-read h = omega (arith, after-over (omega (arith, e, h)))

  -- the field ends inside, or it overruns
  by_end : {C : Type 0} → (next_at s p ≤ length s → C) → (length s < next_at s p → C) → C
  by_end {C} f g = go (ltb (length s) (next_at s p)) refl
    where
      go : (x : Bool) → ltb (length s) (next_at s p) ≡ x → C
      go true e = g (ltb-true (length s) (next_at s p) e)
      go false e = f (ltb-false (length s) (next_at s p) e)

  pub after-within : after s p ≤ length s
  after-within = by_end (λ h. omega (arith, after_next h)) (λ h. omega (arith, after-over h))

  after-further : p < length s → p < after s p
  after-further i = by_end (λ h. omega (arith, next-after s p, after_next h)) (λ h. omega (arith, i, after-over h))

  -- the fields from there on are those behind the field
  pub fields-after : fields_from s (after s p) ≡ fields_from s (next_at s p)
  fields-after =
      by_end (λ h. ap (fields_from s) (after_next h))
      (λ h. fields-end s (after s p) (omega (arith, after-over h)) ∙ sym (fields-end s (next_at s p) (omega (arith, h))))

  -- a walk that goes on so ends
  pub after_less : (q : ℕ) → p < length s → q ≡ after s p → length s - q < length s - p
  after_less q h e = omega (arith, h, e, after-further h)

  pub left-part : take (length s - p) (drop p s) ≡ left s p
  unfolding left
  left-part = take_all (length s - p) (drop p s) (omega (arith, length-drop p s))

  left-none : length s ≤ p → left s p ≡ []
  unfolding left
  left-none h = sym (take_all 0 (drop p s) (omega (arith, length-drop p s)))

pub left_end : (s : List ℕ) (p : ℕ) → length s ≤ p → left s (length s) ≡ left s p
left_end s p h = left-none s (length s) (omega arith) ∙ sym (left-none s p h)

pub left-all : (s : List ℕ) → left s 0 ≡ s
unfolding left
left-all s = refl
