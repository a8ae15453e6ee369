-- Entries that rise: those that stand before a chunk and an instruction come first, and one of them at most has both.
use Prim.Native.Nat.{ℕ, zero, suc, ◌+◌, ◌-◌, ◌<◌, ◌≤◌}
use native.Mathlib.Nat.{add-zero, zero-add}
use native.Mathlib.Omega.{arith}
use mathlib.Core.Path.{◌≡◌, refl, sym, ◌∙◌}
use mathlib.Core.Logic.{◌⊎◌, inl, inr}
use mathlib.Core.Bool.{Bool, true, false, ◌&&◌, ◌||◌, or-true, true≢false}
use mathlib.Core.List.{List}
use lib.Dec.{eqb, ltb}
use borrow.Author.Tests.{ltb-true, ltb-false, eqb-true, lt-ltb, eq-eqb}
use Rattle.masks.proofs.Both.{never, both}
use Rattle.lookup.specs.declared.Entry.{Entry}
use Rattle.report_index.specs.Index.{entry_no, entries_no, is_before, rises}
use Rattle.report_index.specs.entries.Split.{Split}

-- ---- an entry that stands before a chunk and an instruction
abbrev Before : ℕ → ℕ → Entry → Type 0
Before c i e = (e.chunk < c) ⊎ ((e.chunk ≡ c) × (e.instruction < i))

told : (c i : ℕ) (e : Entry) → is_before c i e ≡ true → Before c i e
unfolding is_before
told c i e h = go (ltb e.chunk c) (eqb e.chunk c) (ltb e.instruction i) refl refl refl h
  where
    go : (a b d : Bool) → ltb e.chunk c ≡ a → eqb e.chunk c ≡ b → ltb e.instruction i ≡ d → (a || (b && d)) ≡ true → Before c i e
    go true b d p q r h = inl (ltb-true e.chunk c p)
    go false true true p q r h = inr (eqb-true e.chunk c q, ltb-true e.instruction i r)
    go false true false p q r h = never h
    go false false d p q r h = never h

tells : (c i : ℕ) (e : Entry) → Before c i e → is_before c i e ≡ true
unfolding is_before
tells c i e (inl l) = rw (lt-ltb e.chunk c l)
tells c i e (inr l) = rw (eq-eqb e.chunk c l.0, lt-ltb e.instruction i l.1) (or-true (ltb e.chunk c))

pub before-before : (c i : ℕ) (f e : Entry) → is_before f.chunk f.instruction e ≡ true → is_before c i f ≡ true → is_before c i e ≡ true
before-before c i f e p q = tells c i e (go (told f.chunk f.instruction e p) (told c i f q))
  where
    go : Before f.chunk f.instruction e → Before c i f → Before c i e
    go (inl l) (inl m) = inl (omega arith)
    go (inl l) (inr m) = inl (omega arith)
    go (inr l) (inl m) = inl (omega arith)
    go (inr l) (inr m) = inr (omega arith, omega arith)

-- none stands before its own
pub before-own : (c i : ℕ) (e : Entry) → e.chunk ≡ c → e.instruction ≡ i → is_before c i e ≡ true → ⊥
before-own c i e p q h = go (told c i e h)
  where
    go : Before c i e → ⊥
    go (inl l) = omega arith
    go (inr l) = omega arith

-- ---- where those that stand before a chunk and an instruction end, as far as is known: from low to high
pub record Between (x : List ℕ) (n c i low high : ℕ) : Type 0 where
  pub order : low ≤ high
  pub inside : high ≤ n
  pub below : (k : ℕ) → k < low → is_before c i (entry_no x k) ≡ true
  pub above : (k : ℕ) → high ≤ k → k < n → is_before c i (entry_no x k) ≡ false

pub anywhere : (x : List ℕ) (n c i : ℕ) → Between x n c i 0 n
anywhere x n c i = record { order = omega arith; inside = omega arith; below = λ k l. absurd (omega arith); above = λ k a l. absurd (omega arith) }

pub narrowed : {x : List ℕ} {n c i low high : ℕ} → Between x n c i low high → high ≤ low → Split x n c i low
narrowed h l = record { inside = omega (arith, h.order, h.inside); below = h.below; above = λ k a. h.above k (omega arith) }

-- ---- entries that rise
module _ (x : List ℕ) where
  -- an entry stands before the next
  abbrev pub climbs : ℕ → Bool
  climbs k = is_before (entry_no x (suc k)).chunk (entry_no x (suc k)).instruction (entry_no x k)

  rises-each : (n k j : ℕ) → rises (entries_no x k n) ≡ true → suc j < n → climbs (k + j) ≡ true
  unfolding rises entries_no
  rises-each (suc (suc n)) k zero h l = rw add-zero (both (climbs k) (rises (entries_no x (suc k) (suc n))) h).0
  rises-each (suc (suc n)) k (suc j) h l =
      let e : suc k + j ≡ k + suc j = omega arith in
      rw e at (rises-each (suc n) (suc k) j (both (climbs k) (rises (entries_no x (suc k) (suc n))) h).1 (omega arith))
  rises-each zero k j h l = absurd (omega arith)
  rises-each (suc zero) k j h l = absurd (omega arith)

  -- the first k rise
  abbrev pub Climbing : ℕ → Type 0
  Climbing k = (j : ℕ) → suc j < k → climbs j ≡ true

  each-rises : (n k : ℕ) → ((j : ℕ) → suc j < n → climbs (k + j) ≡ true) → rises (entries_no x k n) ≡ true
  unfolding rises entries_no
  each-rises zero k h = refl
  each-rises (suc zero) k h = refl
  each-rises (suc (suc n)) k h =
      let s : climbs k ≡ true = rw add-zero at (h zero (omega arith)) in
      rw s (each-rises (suc n) (suc k) (λ j l. let e : k + suc j ≡ suc k + j = omega arith in rw e at (h (suc j) (omega arith))))

  pub climbing-rises : (n : ℕ) → Climbing n → rises (entries_no x 0 n) ≡ true
  climbing-rises n h = each-rises n 0 (λ j l. rw zero-add (h j l))

  module _ (k : ℕ) (b : Bool) (e : b ≡ is_before (entry_no x k).chunk (entry_no x k).instruction (entry_no x (k - 1))) where
    pub climbing-more : Climbing k → b ≡ true → Climbing (k + 1)
    climbing-more h t j l = go (ltb (suc j) k) refl
      where
        go : (d : Bool) → ltb (suc j) k ≡ d → climbs j ≡ true
        go true q = h j (ltb-true (suc j) k q)
        go false q =
            let p : k - 1 ≡ j = omega (arith, ltb-false (suc j) k q) in
            let r : k ≡ suc j = omega (arith, ltb-false (suc j) k q) in
            rw (p, r) at (sym e ∙ t)

    pub climbing-ends : (n : ℕ) → 0 < k → k < n → b ≡ false → rises (entries_no x 0 n) ≡ false
    climbing-ends n a l f = go (rises (entries_no x 0 n)) refl
      where
        go : (d : Bool) → rises (entries_no x 0 n) ≡ d → d ≡ false
        go true q = let r : suc (k - 1) ≡ k = omega arith in sym (rw (zero-add, r) at (rises-each n 0 (k - 1) q (omega arith))) ∙ sym e ∙ f
        go false q = refl

  module _ (n : ℕ) (up : rises (entries_no x 0 n) ≡ true) where
    climb : Climbing n
    climb k l = rw zero-add at (rises-each n 0 k up l)

    -- those before a chunk and an instruction come first
    pub before-down : (c i k m : ℕ) → k ≤ m → m < n → is_before c i (entry_no x m) ≡ true → is_before c i (entry_no x k) ≡ true
    before-down c i k m a l h = let e : m ≡ k + (m - k) = omega arith in go (m - k) (omega arith) (rw e at h)
      where
        go : (d : ℕ) → k + d < n → is_before c i (entry_no x (k + d)) ≡ true → is_before c i (entry_no x k) ≡ true
        go zero l h = rw add-zero at h
        go (suc d) l h =
            let e : k + suc d ≡ suc (k + d) = omega arith in
            go d (omega arith) (before-before c i (entry_no x (suc (k + d))) (entry_no x (k + d)) (climb (k + d) (omega arith)) (rw e at h))

    pub before-up : (c i k m : ℕ) → k ≤ m → m < n → is_before c i (entry_no x k) ≡ false → is_before c i (entry_no x m) ≡ false
    before-up c i k m a l h = go (is_before c i (entry_no x m)) refl
      where
        go : (b : Bool) → is_before c i (entry_no x m) ≡ b → b ≡ false
        go true e = sym (before-down c i k m a l e) ∙ h
        go false e = refl

    -- so one entry that is looked at tells of all on one side of it
    pub raised : {c i low high : ℕ} → Between x n c i low high → (m : ℕ) → m < high → is_before c i (entry_no x m) ≡ true → Between x n c i (m + 1) high
    raised {c} {i} h m l e =
        record { order = omega arith; inside = h.inside; below = λ k b. before-down c i k m (omega arith) (omega (arith, h.inside)) e; above = h.above }

    pub lowered : {c i low high : ℕ} → Between x n c i low high → (m : ℕ) → low ≤ m → m < high → is_before c i (entry_no x m) ≡ false → Between x n c i low m
    lowered {c} {i} h m l b e =
        record { order = l; inside = omega (arith, h.inside); below = h.below; above = λ k a q. before-up c i m k a q e }

    -- an entry of this chunk and instruction is the first that does not stand before them
    pub entry-at : (c i r k : ℕ) → Split x n c i r → k < n → (entry_no x k).chunk ≡ c → (entry_no x k).instruction ≡ i → k ≡ r
    entry-at c i r k s l p q =
        let a : k < r → ⊥ = λ m. before-own c i (entry_no x k) p q (s.below k m) in
        let b : r < k → ⊥ = λ m. true≢false (sym (before-down c i r (k - 1) (omega arith) (omega arith) (last (k - 1) (omega arith))) ∙ s.above r (omega arith) (omega arith)) in
        omega arith
      where
        last : (j : ℕ) → suc j ≡ k → is_before c i (entry_no x j) ≡ true
        last j e = rw (← p, ← q, ← e) (climb j (omega arith))
