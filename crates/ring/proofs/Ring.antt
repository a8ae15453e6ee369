-- The laws of the ring: wrapping, a push and a pop as the entries have them.
use Prim.Native.Nat.{ℕ, zero, suc, ◌+◌, ◌-◌, ◌≤◌, ◌<◌}
use mathlib.Core.Path.{◌≡◌, refl, sym, ap, ap₂, ◌∙◌}
use mathlib.Core.Bool.{Bool, true, false}
use mathlib.Core.List.{List, [], ◌∷◌, ◌++◌}
use native.Mathlib.Omega.{arith}
use native.Mathlib.Numerals.{add-one}
use lib.Dec.{ltb}
use lib.ListN.{length, get_or, set, length-set}
use lib.Seq.{get_or-set_same, get_or-set_other}
use borrow.Author.Tests.{ltb-true, ltb-false, lt-ltb, le-ltb}
use Rattle.ring.specs.declared.Queue.{Queue}
use Rattle.ring.specs.Ring.{QueueReady, cap_of, due_of, entry_at, grown, popped_of, pushed, queue_of, slot, tab, wrap_of}

pub tab-eq : {A : Type 0} (f g : ℕ → A) (n k : ℕ) → ((q : ℕ) → k ≤ q → q < k + n → f q ≡ g q) → tab f k n ≡ tab g k n
tab-eq f g zero k e = refl
tab-eq f g (suc n) k e =
    ap₂ ◌∷◌ (e k (omega arith) (omega arith)) (tab-eq f g n (suc k) (λ q l m. e q (omega arith) (omega arith)))

pub tab-snoc : {A : Type 0} (f : ℕ → A) (n k m : ℕ) → m ≡ k + n → tab f k (suc n) ≡ tab f k n ++ (f m ∷ [])
tab-snoc f zero k m e = ap (λ (i : ℕ). f i ∷ []) (omega arith)
tab-snoc f (suc n) k m e = ap (λ (l : List _). f k ∷ l) (tab-snoc f n (suc k) m (omega arith))

pub tab-shift : {A : Type 0} (f : ℕ → A) (n k : ℕ) → tab f (suc k) n ≡ tab (λ (i : ℕ). f (suc i)) k n
tab-shift f zero k = refl
tab-shift f (suc n) k = ap (λ (l : List _). f (suc k) ∷ l) (tab-shift f n (suc k))

-- ---- laws of the wrapping, by the two cases of its test
wrap-low : (t cap : ℕ) → t < cap → wrap_of t cap ≡ t
wrap-low t cap h = rw (lt-ltb t cap h)

wrap-high : (t cap : ℕ) → cap ≤ t → wrap_of t cap ≡ t - cap
wrap-high t cap h = rw (le-ltb t cap h)

-- by cases on whether t is below cap: the wrapped number is t, or t less cap
pub wrap-cases : {P : Type 0} (t cap : ℕ) → (t < cap → wrap_of t cap ≡ t → P) → (cap ≤ t → wrap_of t cap ≡ t - cap → P) → P
wrap-cases {P} t cap f g = go (ltb t cap) refl
  where
    go : (b : Bool) → ltb t cap ≡ b → P
    go true e = let h = ltb-true t cap e in f h (wrap-low t cap h)
    go false e = let h = ltb-false t cap e in g h (wrap-high t cap h)

pub wrap-lt : (t cap : ℕ) → t < cap + cap → wrap_of t cap < cap
wrap-lt t cap h = wrap-cases t cap (λ l e. omega arith) (λ l e. omega arith)

-- entries at different places lie in different slots
wrap-apart : (h i j cap : ℕ) → h < cap → i < j → j < cap → wrap_of (h + i) cap ≡ wrap_of (h + j) cap → ⊥
wrap-apart h i j cap a b c e =
    wrap-cases (h + i) cap
    (λ l p. wrap-cases (h + j) cap (λ m q. omega arith) (λ m q. omega arith))
    (λ l p. wrap-cases (h + j) cap (λ m q. omega arith) (λ m q. omega arith))

-- the i-th entry after the head is the entry i of the next head
wrap-next : (h i cap : ℕ) → h < cap → suc i < cap → wrap_of (h + suc i) cap ≡ wrap_of (wrap_of (h + 1) cap + i) cap
wrap-next h i cap a b =
    wrap-cases (h + 1) cap
    (λ l p. ap (λ (t : ℕ). wrap_of t cap) (omega arith))
    (λ l p.
    let m : h + suc i - cap ≡ wrap_of (h + 1) cap + i = omega arith in
    wrap-high (h + suc i) cap (omega arith) ∙ m ∙ sym (wrap-low (wrap_of (h + 1) cap + i) cap (omega arith)))

pub length-pushed : (w : List ℕ) (base : ℕ) (q : Queue) (x : ℕ) → length (pushed w base q x) ≡ length w
unfolding pushed
length-pushed w base q x = length-set w _ x

-- a push puts its entry last
pub entries-push : (w : List ℕ) (base : ℕ) (q : Queue) (x : ℕ) → QueueReady w base q → q.count < cap_of w base → queue_of (pushed w base q x) base (grown q) ≡ queue_of w base q ++ (x ∷ [])
unfolding queue_of pushed slot
entries-push w base q x r l =
    ap (λ (c : ℕ). tab (entry_at v base c h) 0 (n + 1)) (ap (λ (k : ℕ). k - base) (length-set w _ x))
    ∙ ap (tab (entry_at v base cap h) 0) (add-one n)
    ∙ tab-snoc (entry_at v base cap h) n 0 n (omega arith)
    ∙ (λ i. tab-eq (entry_at v base cap h) (entry_at w base cap h) n 0 (λ j a b. old j (omega arith)) i ++ (new i ∷ []))
  where
    h : ℕ
    h = q.head

    n : ℕ
    n = q.count

    cap : ℕ
    cap = cap_of w base

    v : List ℕ
    v = set w (base + wrap_of (h + n) cap) x

    old : (j : ℕ) → j < n → entry_at v base cap h j ≡ entry_at w base cap h j
    old j a =
        get_or-set_other w (base + wrap_of (h + n) cap) (base + wrap_of (h + j) cap) x 0
        (λ e. wrap-apart h j n cap r.head a l (omega arith))

    new : entry_at v base cap h n ≡ x
    new = get_or-set_same w (base + wrap_of (h + n) cap) x 0 (omega (arith, r.fits, wrap-lt (h + n) cap (omega (arith, r.head))))

-- a pop takes the first
pub entries-pop : (w : List ℕ) (base : ℕ) (q : Queue) → QueueReady w base q → 0 < q.count → queue_of w base q ≡ due_of w base q ∷ queue_of w base (popped_of w base q)
unfolding queue_of slot
entries-pop w base q r l = go q.count r.count l
  where
    h : ℕ
    h = q.head

    cap : ℕ
    cap = cap_of w base

    go : (n : ℕ) → n ≤ cap → 0 < n → tab (entry_at w base cap h) 0 n ≡ get_or w (base + h) 0 ∷ tab (entry_at w base cap (wrap_of (h + 1) cap)) 0 (n - 1)
    go zero a b = absurd (omega arith)
    go (suc n) a b =
        let e : h + 0 ≡ h = omega arith in
        let p : suc n - 1 ≡ n = omega arith in
        ap₂ ◌∷◌ (ap (λ (t : ℕ). get_or w (base + t) 0) (ap (λ (t : ℕ). wrap_of t cap) e ∙ wrap-low h cap r.head))
        (tab-shift (entry_at w base cap h) n 0
        ∙ tab-eq _ _ n 0 (λ i c d. ap (λ (t : ℕ). get_or w (base + t) 0) (wrap-next h i cap r.head (omega arith)))
        ∙ ap (tab (entry_at w base cap (wrap_of (h + 1) cap)) 0) (sym p))

-- the queue is ready again
pub ready-push : (w : List ℕ) (base : ℕ) (q : Queue) (x : ℕ) → QueueReady w base q → q.count < cap_of w base → QueueReady (pushed w base q x) base (grown q)
ready-push w base q x r l =
    let e = length-pushed w base q x in
    record { fits = omega (arith, r.fits); head = omega (arith, r.head); count = omega arith }

pub ready-pop : (w : List ℕ) (base : ℕ) (q : Queue) → QueueReady w base q → 0 < q.count → QueueReady w base (popped_of w base q)
ready-pop w base q r l =
    record {
      fits = r.fits;
      head = wrap-lt (q.head + 1) (cap_of w base) (omega (arith, r.head));
      count = omega (arith, r.count);
    }

-- the words below the queue stay
pub push-below : (w : List ℕ) (base : ℕ) (q : Queue) (x j : ℕ) → j < base → get_or (pushed w base q x) j 0 ≡ get_or w j 0
unfolding pushed
push-below w base q x j l = get_or-set_other w _ j x 0 (λ e. omega arith)
