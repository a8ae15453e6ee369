-- Entries that are among others, and as many: if the first differ, the two have the same entries.
use Prim.Native.Nat.{ℕ, suc, ◌≤◌}
use native.Mathlib.Omega.{arith}
use mathlib.Core.Path.{◌≡◌, refl, sym, ◌∙◌, ap}
use mathlib.Core.Logic.{◌⊎◌, inl, inr, ⊎_elim}
use mathlib.Core.Bool.{Bool, true, false, ◌||◌, or-true}
use mathlib.Core.List.Memᴰ
use mathlib.Core.List.{List, [], ◌∷◌, Memᴰ}
use lib.Dec.{eqb}
use lib.ListN.{length}
use borrow.Author.Tests.{eqb-true, eq-eqb}
use Rattle.masks.proofs.Both.{never, both}
use Rattle.lookup.specs.declared.Entry.{Entry}
use Rattle.report_index.specs.Index.{same, among, all_among, matched}

-- ---- as many, and each among them: the others are among the first
abbrev pub Distinct : {A : Type 0} → List A → Type 0
Distinct [] = Unit {0}
Distinct (x ∷ xs) = (Memᴰ x xs → ⊥) × Distinct xs

module _ {A : Type 0} where
  -- the list without the element at a position
  without : {x : A} {xs : List A} → Memᴰ x xs → List A
  without {xs = y ∷ ys} (Memᴰ.head e) = ys
  without {xs = y ∷ ys} (Memᴰ.tail m) = y ∷ without m
  without {xs = []} x3 = elim x3 [ ]

  without-length : {x : A} {xs : List A} (m : Memᴰ x xs) → length xs ≡ suc (length (without m))
  unfolding without
  without-length (Memᴰ.head e) = refl
  without-length (Memᴰ.tail m) = ap suc (without-length m)

  without-cases : {x y : A} {xs : List A} (m : Memᴰ x xs) → Memᴰ y xs → (y ≡ x) ⊎ Memᴰ y (without m)
  unfolding without
  without-cases (Memᴰ.head e) (Memᴰ.head k) = inl (k ∙ sym e)
  without-cases (Memᴰ.head e) (Memᴰ.tail n) = inr n
  without-cases (Memᴰ.tail m) (Memᴰ.head k) = inr (Memᴰ.head k)
  without-cases (Memᴰ.tail m) (Memᴰ.tail n) = ⊎_elim (λ e. inl e) (λ k. inr (Memᴰ.tail k)) (without-cases m n)

  pub pigeonhole : (xs ys : List A) → Distinct xs → length ys ≤ length xs → ((x : A) → Memᴰ x xs → Memᴰ x ys)
      → (y : A) → Memᴰ y ys → Memᴰ y xs
  pigeonhole [] (z ∷ ys) d l h y m = absurd (omega arith)
  pigeonhole (x ∷ xs) ys d l h y m =
      let k = h x (Memᴰ.head refl) in
      ⊎_elim (λ e. Memᴰ.head e)
      (λ n. Memᴰ.tail (pigeonhole xs (without k) d.1 (omega (arith, without-length k))
      (λ z j. ⊎_elim (λ e. absurd (d.0 (Memᴰ.cast (sym e) j))) (λ i. i) (without-cases k (h z (Memᴰ.tail j)))) y n))
      (without-cases k m)
  pigeonhole [] [] d l h y m = elim m [ ]

-- ---- the tests
pub same-is : (e f : Entry) → same e f ≡ true → e ≡ f
unfolding same
same-is e f h =
    let l = both _ _ h in
    let p = both _ _ l.0 in
    let n = both _ _ p.0 in
    let a = eqb-true e.chunk f.chunk n.0 in
    let b = eqb-true e.instruction f.instruction n.1 in
    let c = eqb-true e.first f.first p.1 in
    let d = eqb-true e.length f.length l.1 in
    (λ i. record { chunk = a i; instruction = b i; first = c i; length = d i })

own : (n : ℕ) → eqb n n ≡ true
own n = eq-eqb n n refl

pub is_same : (e f : Entry) → e ≡ f → same e f ≡ true
unfolding same
is_same e f h = rw (← h) (simp own)

pub among-mem : (e : Entry) (fs : List Entry) → among e fs ≡ true → Memᴰ e fs
unfolding among
among-mem e [] h = never h
among-mem e (f ∷ fs) h = go (same e f) refl (among-mem e fs) h
  where
    go : (b : Bool) → same e f ≡ b → (among e fs ≡ true → Memᴰ e fs) → (b || among e fs) ≡ true → Memᴰ e (f ∷ fs)
    go true k below h = Memᴰ.head (same-is e f k)
    go false k below h = Memᴰ.tail (below h)

pub mem-among : {e : Entry} {fs : List Entry} → Memᴰ e fs → among e fs ≡ true
unfolding among
mem-among {e = e} {fs = f ∷ fs} (Memᴰ.head k) = rw (is_same e f k)
mem-among {e = e} {fs = f ∷ fs} (Memᴰ.tail m) = rw (mem-among m) (or-true (same e f))
mem-among {e = e} {fs = []} x'' = elim x'' [ ]

pub all_among_lem : {e : Entry} (es fs : List Entry) → all_among es fs ≡ true → Memᴰ e es → Memᴰ e fs
unfolding all_among
all_among_lem (g ∷ es) fs h (Memᴰ.head k) = Memᴰ.cast k (among-mem g fs (both (among g fs) (all_among es fs) h).0)
all_among_lem (g ∷ es) fs h (Memᴰ.tail m) = all_among_lem es fs (both (among g fs) (all_among es fs) h).1 m
all_among_lem {e = e} [] fs h x'' = elim x'' [ ]

pub among-all : (es fs : List Entry) → ((e : Entry) → Memᴰ e es → Memᴰ e fs) → all_among es fs ≡ true
unfolding all_among
among-all [] fs h = refl
among-all (e ∷ es) fs h = rw (mem-among (h e (Memᴰ.head refl))) (among-all es fs (λ g m. h g (Memᴰ.tail m)))

-- those that differ and match others are the same as they
pub matched-same : (es fs : List Entry) → Distinct es → matched es fs ≡ true → (e : Entry)
    → (Memᴰ e es → Memᴰ e fs) × (Memᴰ e fs → Memᴰ e es)
unfolding matched
matched-same es fs d h e =
    let k = both (eqb (length es) (length fs)) (all_among es fs) h in
    (all_among_lem es fs k.1, pigeonhole es fs d (omega (arith, eqb-true (length es) (length fs) k.0)) (λ g. all_among_lem es fs k.1) e)
