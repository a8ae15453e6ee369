-- Laws of bytes given number by number: one more, two at each, of one length.
use Prim.Native.Nat.{ℕ, zero, suc, ◌+◌, ◌*◌, ◌-◌, ◌<◌, ◌≤◌}
use native.Mathlib.Nat.{add-zero}
use native.Mathlib.Omega.{arith}
use mathlib.Core.Path.{◌≡◌, refl, sym, ap, ap₂, ◌∙◌}
use mathlib.Core.List.{List, [], ◌++◌, append_assoc, append-nil}
use lib.ListN.{length, length-append}
use borrow.Author.Tests.{lt-ltb, le-ltb}
use Rattle.form_laws.proofs.Each.{suc-out}
use Rattle.report_size.specs.Span.{cut, span, spread}

spread-more : (f : ℕ → List ℕ) (i n : ℕ) → spread f i (suc n) ≡ spread f i n ++ f (i + n)
unfolding spread
spread-more f i zero = append-nil (f i) ∙ ap f (sym (add-zero i))
spread-more f i (suc n) =
    ap (λ (l : List ℕ). f i ++ l) (spread-more f (suc i) n ∙ ap (λ (k : ℕ). spread f (suc i) n ++ f k) (sym (suc-out i n)))
    ∙ sym (append_assoc (f i) (spread f (suc i) n) (f (i + suc n)))

spread_same : (f g : ℕ → List ℕ) (i n : ℕ) → ((k : ℕ) → i ≤ k → k < i + n → f k ≡ g k) → spread f i n ≡ spread g i n
unfolding spread
spread_same f g i zero e = refl
spread_same f g i (suc n) e = ap₂ ◌++◌ (e i (omega arith) (omega arith)) (spread_same f g (suc i) n (λ k l m. e k (omega arith) (omega arith)))

module _ (f : ℕ → List ℕ) (i : ℕ) where
  pub span_none : span f i i ≡ []
  unfolding span spread
  span_none = let z : i - i ≡ 0 = omega arith in ap (spread f i) z

  -- one number more
  pub span_more : (k : ℕ) → i ≤ k → span f i (k + 1) ≡ span f i k ++ f k
  unfolding span
  span_more k h =
      let a : k + 1 - i ≡ suc (k - i) = omega arith in
      let b : i + (k - i) ≡ k = omega arith in
      ap (spread f i) a ∙ spread-more f i (k - i) ∙ ap (λ (j : ℕ). spread f i (k - i) ++ f j) b

  pub long-more : (k : ℕ) → i ≤ k → length (span f i (k + 1)) ≡ length (span f i k) + length (f k)
  long-more k h = ap length (span_more k h) ∙ length-append (span f i k) (f k)

  -- what the first of them give is no longer than what all give
  grows : (k n : ℕ) → i ≤ k → length (span f i k) ≤ length (span f i (k + n))
  grows k zero h = let z : k + 0 ≡ k = omega arith in rw z (omega arith)
  grows k (suc n) h =
      let z : k + suc n ≡ k + n + 1 = omega arith in
      rw z (omega (arith, grows k n h, long-more (k + n) (omega arith)))

  pub span-room : (k e : ℕ) → i ≤ k → k < e → length (span f i k) + length (f k) ≤ length (span f i e)
  span-room k e h l =
      let z : k + 1 + (e - (k + 1)) ≡ e = omega arith in
      omega (arith, long-more k h, ap (λ (j : ℕ). length (span f i j)) z, grows (k + 1) (e - (k + 1)) (omega arith))

  pub span_same : (g : ℕ → List ℕ) (e : ℕ) → ((k : ℕ) → i ≤ k → k < e → f k ≡ g k) → span f i e ≡ span g i e
  unfolding span
  span_same g e h = spread_same f g i (e - i) (λ k l m. h k l (omega arith))

-- two at each number
spread-both : (f g : ℕ → List ℕ) (i n : ℕ) → length (spread (λ k. f k ++ g k) i n) ≡ length (spread f i n) + length (spread g i n)
unfolding spread
spread-both f g i zero = refl
spread-both f g i (suc n) =
    omega (
      arith,
      length-append (f i ++ g i) (spread (λ k. f k ++ g k) (suc i) n),
      length-append (f i) (g i),
      length-append (f i) (spread f (suc i) n),
      length-append (g i) (spread g (suc i) n),
      spread-both f g (suc i) n,
    )

pub span-both : (f g : ℕ → List ℕ) (i e : ℕ) → length (span (λ k. f k ++ g k) i e) ≡ length (span f i e) + length (span g i e)
unfolding span
span-both f g i e = spread-both f g i (e - i)

-- as long as another at each number
spread-alike : (f g : ℕ → List ℕ) (i n : ℕ) → ((k : ℕ) → i ≤ k → k < i + n → length (f k) ≡ length (g k)) → length (spread f i n) ≡ length (spread g i n)
unfolding spread
spread-alike f g i zero h = refl
spread-alike f g i (suc n) h =
    omega (
      arith,
      length-append (f i) (spread f (suc i) n),
      length-append (g i) (spread g (suc i) n),
      h i (omega arith) (omega arith),
      spread-alike f g (suc i) n (λ k l m. h k (omega arith) (omega arith)),
    )

pub span-alike : (f g : ℕ → List ℕ) (i e : ℕ) → ((k : ℕ) → length (f k) ≡ length (g k)) → length (span f i e) ≡ length (span g i e)
unfolding span
span-alike f g i e h = spread-alike f g i (e - i) (λ k l m. h k)

-- of one length at each number
spread-each : (f : ℕ → List ℕ) (size i n : ℕ) → ((k : ℕ) → i ≤ k → k < i + n → length (f k) ≡ size) → length (spread f i n) ≡ n * size
unfolding spread
spread-each f size i zero h = omega arith
spread-each f size i (suc n) h =
    omega (arith, length-append (f i) (spread f (suc i) n), h i (omega arith) (omega arith), spread-each f size (suc i) n (λ k l m. h k (omega arith) (omega arith)))

pub span-each : (f : ℕ → List ℕ) (size e : ℕ) → ((k : ℕ) → k < e → length (f k) ≡ size) → length (span f 0 e) ≡ e * size
unfolding span
span-each f size e h =
    let z : e - 0 ≡ e = omega arith in
    spread-each f size 0 (e - 0) (λ k l m. h k (omega arith)) ∙ ap (λ (n : ℕ). n * size) z

pub cut_in : (f : ℕ → List ℕ) (m k : ℕ) → k < m → cut f m k ≡ f k
unfolding cut
cut_in f m k h = rw (lt-ltb k m h)

pub cut_out : (f : ℕ → List ℕ) (m k : ℕ) → m ≤ k → cut f m k ≡ []
unfolding cut
cut_out f m k h = rw (le-ltb k m h)

pub span-cut : (f : ℕ → List ℕ) (m n : ℕ) → span (cut f m) 0 (m + n) ≡ span f 0 m
span-cut f m zero =
    let z : m + 0 ≡ m = omega arith in
    ap (span (cut f m) 0) z ∙ span_same (cut f m) 0 f m (λ k l h. cut_in f m k h)
span-cut f m (suc n) =
    let z : m + suc n ≡ m + n + 1 = omega arith in
    ap (span (cut f m) 0) z ∙ span_more (cut f m) 0 (m + n) (omega arith)
    ∙ ap (λ (l : List ℕ). span (cut f m) 0 (m + n) ++ l) (cut_out f m (m + n) (omega arith)) ∙ append-nil (span (cut f m) 0 (m + n)) ∙ span-cut f m n
