-- Text laid one part after the other.
use Prim.Native.Nat.{ℕ, zero, suc, ◌+◌, ◌≤◌, min}
use mathlib.Core.Path.{◌≡◌, refl, sym, ap, ◌∙◌}
use mathlib.Core.List.{List, [], ◌∷◌, ◌++◌}
use native.Mathlib.Nat.{not-suc-le-zero, le_of_suc-le-suc}
use native.Mathlib.Omega.{arith, min_cases}
use lib.ListN.{length, set, length-append, length-set}
use Rattle.le.specs.Wrote.{put}
use Rattle.le.proofs.Laws.{put-put, length-put}
use Rattle.listing.specs.Laid.{Laid}

-- what is left to be laid from the place on, and the whole of it
pub record Rest (l : List ℕ) (at : ℕ) (whole l' : List ℕ) (to : ℕ) (rest : List ℕ) : Type 0 where
  pub bytes : put l' to rest ≡ put l at whole
  pub next : min (to + length rest) (length l) ≡ min (at + length whole) (length l)
  pub same : length l' ≡ length l
  pub within : to ≤ length l'

-- ---- past the end nothing is written
set_past : (l : List ℕ) (i x : ℕ) → length l ≤ i → set l i x ≡ l
set_past [] i x h = refl
set_past (y ∷ l) zero x h = absurd (not-suc-le-zero h)
set_past (y ∷ l) (suc i) x h = ap (λ (r : List ℕ). y ∷ r) (set_past l i x (le_of_suc-le-suc h))

put-past : (l : List ℕ) (i : ℕ) (b : List ℕ) → length l ≤ i → put l i b ≡ l
unfolding put
put-past l i [] h = refl
put-past l i (x ∷ b) h = ap (λ (r : List ℕ). put r (suc i) b) (set_past l i x h) ∙ put-past l (suc i) b (omega arith)

put_low : (l : List ℕ) (i : ℕ) (b : List ℕ) → put l (min i (length l)) b ≡ put l i b
put_low l i b =
    min_cases i (length l) (put l (min i (length l)) b ≡ put l i b) (λ h e. ap (λ (k : ℕ). put l k b) e)
    (λ h e. ap (λ (k : ℕ). put l k b) e ∙ put-past l (length l) b (omega arith) ∙ sym (put-past l i b h))

-- ---- nothing, one byte
pub laid_none : (l : List ℕ) (at : ℕ) → at ≤ length l → Laid l at [] l at
unfolding put
laid_none l at h = record { bytes = refl; next = omega arith; same = refl }

pub laid_one : (l : List ℕ) (at x : ℕ) → suc at ≤ length l → Laid l at (x ∷ []) (set l at x) (at + 1)
unfolding put
laid_one l at x h = record { bytes = refl; next = omega arith; same = length-set l at x }

pub laid-past : (l : List ℕ) (at x : ℕ) → at ≤ length l → length l ≤ at → Laid l at (x ∷ []) l at
laid-past l at x w h = record { bytes = sym (put-past l at (x ∷ []) h); next = omega arith; same = refl }

-- ---- one after the other
joined : (l : List ℕ) (at : ℕ) (a b : List ℕ) → put (put l at a) (min (at + length a) (length l)) b ≡ put l at (a ++ b)
joined l at a b =
    ap (λ (n : ℕ). put (put l at a) (min (at + length a) n) b) (sym (length-put l at a))
    ∙ put_low (put l at a) (at + length a) b
    ∙ put-put l at a b

pub and-on : {l l₁ l₂ : List ℕ} {at p r : ℕ} {a b : List ℕ} → Laid l at a l₁ p → Laid l₁ p b l₂ r → Laid l at (a ++ b) l₂ r
and-on {l} {l₁} {l₂} {at} {p} {r} {a} {b} x y =
    record {
      bytes = y.bytes ∙ rw (x.bytes, x.next) (joined l at a b);
      next = omega (arith, length-append a b);
      same = y.same ∙ x.same;
    }

-- ---- by turns
pub rest_all : (l : List ℕ) (at : ℕ) (whole : List ℕ) → at ≤ length l → Rest l at whole l at whole
rest_all l at whole h = record { bytes = refl; next = refl; same = refl; within = h }

pub rest-on : {l l₁ l₂ : List ℕ} {at p r : ℕ} {whole rest a b : List ℕ}
    → Rest l at whole l₁ p rest → Laid l₁ p a l₂ r → rest ≡ a ++ b → Rest l at whole l₂ r b
rest-on {l} {l₁} {l₂} {at} {p} {r} {whole} {rest} {a} {b} x y e =
    record {
      bytes = rw (y.bytes, y.next) (joined l₁ p a b) ∙ ap (put l₁ p) (sym e) ∙ x.bytes;
      next = omega (arith, length-append a b, ap length e);
      same = y.same ∙ x.same;
      within = omega arith;
    }

pub rest-last : {l l₁ l₂ : List ℕ} {at p r : ℕ} {whole a : List ℕ} → Rest l at whole l₁ p a → Laid l₁ p a l₂ r → Laid l at whole l₂ r
rest-last {l} {l₁} {l₂} {at} {p} {r} {whole} {a} x y =
    record { bytes = y.bytes ∙ x.bytes; next = omega arith; same = y.same ∙ x.same }

pub rest-none : {l l₁ : List ℕ} {at p : ℕ} {whole : List ℕ} → Rest l at whole l₁ p [] → Laid l at whole l₁ p
rest-none {l} {l₁} {at} {p} {whole} x = rest-last x (laid_none l₁ p x.within)
