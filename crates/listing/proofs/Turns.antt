-- The texts that a loop lays, one turn at a time.
use Prim.Native.Nat.{ℕ, zero, suc, ◌+◌, ◌-◌, ◌*◌, ◌/◌, ◌%◌, ◌^◌, ◌<◌, ◌≤◌}
use mathlib.Core.Path.{◌≡◌, refl, ap, ◌∙◌}
use mathlib.Core.List.{List, [], ◌∷◌, ◌++◌}
use native.Mathlib.Nat.{not-suc-le-zero, le_of_suc-le-suc}
use native.Mathlib.Numerals.{add-one}
use native.Mathlib.Omega.{arith}
use borrow.Author.Tests.{lt-ltb, le-ltb}
use lib.ListN.{length, drop, get_or}
use lib.Seq.{drop-cons}
use Rattle.le.specs.Le.{at16}
use Rattle.description.specs.Fields.{next_at, fields_from}
use Rattle.description.proofs.Walk.{fields-turn, fields-end}
use Rattle.listing.specs.Decimal.{digit_of, digits_from}
use Rattle.listing.specs.Listing.{spaced, masks_from, field_line, lines_of}

pub bytes-turn : (s : List ℕ) (k : ℕ) → k < length s → drop k s ≡ (get_or s k 0 ∷ []) ++ drop (k + 1) s
bytes-turn s k h = rw (add-one, drop-cons s k 0)

pub bytes-end : (s : List ℕ) (k : ℕ) → length s ≤ k → drop k s ≡ []
bytes-end [] zero h = refl
bytes-end [] (suc k) h = refl
bytes-end (x ∷ s) zero h = absurd (not-suc-le-zero h)
bytes-end (x ∷ s) (suc k) h = bytes-end s k (le_of_suc-le-suc h)

pub digits-turn : (k p n : ℕ) → k < 9 → digits_from (9 - k) p n ≡ digit_of p n ++ digits_from (9 - (k + 1)) (p / 10) n
unfolding digits_from
digits-turn k p n h = let e : 9 - k ≡ suc (9 - (k + 1)) = omega arith in ap (λ (j : ℕ). digits_from j p n) e

pub digits-end : (k p n : ℕ) → k ≤ 0 → digits_from k p n ≡ (48 + n % 10) ∷ []
unfolding digits_from
digits-end zero p n h = refl
digits-end (suc k) p n h = absurd (not-suc-le-zero h)

pub tenth : (k : ℕ) → k < 9 → 10 ^ (9 - k) / 10 ≡ 10 ^ (9 - (k + 1))
tenth k h = let e : 9 - k ≡ suc (9 - (k + 1)) = omega arith in ap (λ (j : ℕ). 10 ^ j / 10) e ∙ down (9 - (k + 1))
  where
    down : (j : ℕ) → 10 ^ suc j / 10 ≡ 10 ^ j
    down j = omega arith

-- a power of ten is not 0
pub ten-up : (p k : ℕ) → p ≡ 10 ^ k → 0 < p
ten-up p zero e = omega arith
ten-up p (suc k) e = omega (arith, ten-up (10 ^ k) k refl)

pub masks-turn : (s : List ℕ) (q n k : ℕ) → k < n
    → masks_from s (q + 49 * k) (n - k) ≡ spaced (at16 s (q + 49 * k)) ++ masks_from s (q + 49 * (k + 1)) (n - (k + 1))
unfolding masks_from
masks-turn s q n k h =
    let e : n - k ≡ suc (n - (k + 1)) = omega arith in
    let f : q + 49 * k + 49 ≡ q + 49 * (k + 1) = omega arith in
    ap (masks_from s (q + 49 * k)) e ∙ ap (λ (p : ℕ). spaced (at16 s (q + 49 * k)) ++ masks_from s p (n - (k + 1))) f

pub masks-end : (s : List ℕ) (q n : ℕ) → n ≤ 0 → masks_from s q n ≡ []
unfolding masks_from
masks-end s q zero h = refl
masks-end s q (suc n) h = absurd (not-suc-le-zero h)

-- ---- the lines from a place on
unfoldable pub lines_from : ℕ → List ℕ → ℕ → List ℕ
lines_from steps s p = lines_of steps s (fields_from s p)

module _ (steps : ℕ) (s : List ℕ) (p : ℕ) where
  pub lines_end : length s ≤ p → lines_from steps s p ≡ []
  unfolding lines_from lines_of
  lines_end h = rw (fields-end s p h)

  pub lines-over : p < length s → length s < next_at s p → lines_from steps s p ≡ []
  unfolding lines_from lines_of
  lines-over h o = rw (fields-turn s p h, lt-ltb (length s) (next_at s p) o)

  pub lines-turn : p < length s → next_at s p ≤ length s → lines_from steps s p ≡ field_line steps s p ++ lines_from steps s (next_at s p)
  unfolding lines_from lines_of
  lines-turn h f = rw (fields-turn s p h, le-ltb (length s) (next_at s p) f)
