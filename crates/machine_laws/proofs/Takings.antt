-- A run's answer is what stands after its takings, and its steps are their number.
use Prim.Native.Nat.{ℕ, zero, suc, ◌+◌, ◌<◌, ◌≤◌}
use native.Mathlib.Omega.{arith}
use native.Mathlib.Nat.{add-zero, zero-add, add-suc, suc-add}
use mathlib.Core.Path.{◌≡◌, refl, sym, ◌∙◌, ap}
use mathlib.Core.Logic.{◌⊎◌, inl, inr}
use Rattle.answers.specs.declared.Refusal.{Refusal}
use Rattle.answers.specs.Answers.{refusal}
use Rattle.definition.specs.Machine.{Machine, Final, Stop, Where, due, done, stop, Ran, Analysis, accepted, refused, halt, next, entry_due, on_next, run, begun, check}
use Rattle.machine_laws.specs.Takings.{Due, after-takings, takings, says, Counted, Spent}
use Rattle.machine_laws.proofs.Sweep.{refused≢accepted, accepted-inj, Goes}

pub done≢due : {C F R S : Type 0} {x : Final R S} {m : Machine C F S} → ◌≡◌ {A = Where C F R S} (done x) (due m) → ⊥
done≢due h = let z : ◌≡◌ {A = ℕ} 0 1 = cc in omega arith

pub stop≢due : {C F R S : Type 0} {x : Stop} {m : Machine C F S} → ◌≡◌ {A = Where C F R S} (stop x) (due m) → ⊥
stop≢due h = let z : ◌≡◌ {A = ℕ} 0 1 = cc in omega arith

-- the run is over
abbrev pub Over : {C F R S : Type 0} → Where C F R S → Type 0
Over (due m) = ⊥
Over (done x) = Unit {0}
Over (stop x) = Unit {0}

refused-inj : {R S : Type 0} {r r' : Refusal} → ◌≡◌ {A = Ran R S} (refused r) (refused r') → r ≡ r'
refused-inj h = cc

module _ {C F R S G : Type 0} (α : Analysis C F R S G) where
  pub goes-is : (left steps : ℕ) (w : Where C F R S) → Goes α left steps w ≡ says α (steps + takings α left w) (after-takings α left w)
  unfolding run on_next says takings after-takings
  goes-is zero steps (due m) = rw add-zero
  goes-is zero steps (done x) = rw add-zero
  goes-is zero steps (stop x) = rw add-zero
  goes-is (suc left) steps (due m) = rw (add-suc, ← suc-add) (goes-is left (suc steps) (next α m))
  goes-is (suc left) steps (done x) = rw add-zero
  goes-is (suc left) steps (stop x) = rw add-zero

  -- a run of a + b takings is a run of b after a
  pub goes-split : (a b steps : ℕ) (w : Where C F R S) → Goes α (a + b) steps w ≡ Goes α b (steps + takings α a w) (after-takings α a w)
  unfolding run on_next takings after-takings
  goes-split zero b steps w = rw (zero-add, add-zero)
  goes-split (suc a) b steps (due m) = rw (suc-add, add-suc, ← suc-add) (goes-split a b (suc steps) (next α m))
  goes-split (suc a) b steps (done x) = rw add-zero
  goes-split (suc a) b steps (stop x) = rw add-zero

  pub takings-most : (k : ℕ) (w : Where C F R S) → takings α k w ≤ k
  unfolding takings
  takings-most zero w = omega arith
  takings-most (suc k) (due m) = let l = takings-most k (next α m) in omega arith
  takings-most (suc k) (done x) = omega arith
  takings-most (suc k) (stop x) = omega arith

  -- all are taken where an entry is still due
  pub takings-due : (k : ℕ) (w : Where C F R S) (m : Machine C F S) → after-takings α k w ≡ due m → takings α k w ≡ k
  unfolding takings after-takings
  takings-due zero w m h = refl
  takings-due (suc k) (due m') m h = ap suc (takings-due k (next α m') m h)
  takings-due (suc k) (done x) m h = absurd (done≢due h)
  takings-due (suc k) (stop x) m h = absurd (stop≢due h)

  -- the last taking ends the run
  pub takings-end : (k : ℕ) (w : Where C F R S) → after-takings α (takings α k w) w ≡ after-takings α k w
  unfolding takings after-takings
  takings-end zero w = refl
  takings-end (suc k) (due m) = takings-end k (next α m)
  takings-end (suc k) (done x) = refl
  takings-end (suc k) (stop x) = refl

  -- before it an entry is due
  pub due-before : (k j : ℕ) (w : Where C F R S) → j < takings α k w → Due (after-takings α j w)
  unfolding takings after-takings
  due-before zero j w l = absurd (omega arith)
  due-before (suc k) zero (due m) l = (m, refl)
  due-before (suc k) (suc j) (due m) l = due-before k j (next α m) (omega arith)
  due-before (suc k) zero (done x) l = absurd (omega arith)
  due-before (suc k) (suc j) (done x) l = absurd (omega arith)
  due-before (suc k) zero (stop x) l = absurd (omega arith)
  due-before (suc k) (suc j) (stop x) l = absurd (omega arith)

  -- more takings change nothing once the run is over
  pub takings-over : (k k' : ℕ) (w : Where C F R S) → k ≤ k' → Over (after-takings α k w)
      → (after-takings α k' w ≡ after-takings α k w) × (takings α k' w ≡ takings α k w)
  unfolding takings after-takings
  takings-over zero zero w l h = (refl, refl)
  takings-over zero (suc k') (due m) l h = absurd h
  takings-over zero (suc k') (done x) l h = (refl, refl)
  takings-over zero (suc k') (stop x) l h = (refl, refl)
  takings-over (suc k) zero w l h = absurd (omega arith)
  takings-over (suc k) (suc k') (due m) l h = let (e, n) = takings-over k k' (next α m) (omega arith) h in (e, ap suc n)
  takings-over (suc k) (suc k') (done x) l h = (refl, refl)
  takings-over (suc k) (suc k') (stop x) l h = (refl, refl)

  -- ---- what is said, inverted
  pub says-accepted : (n : ℕ) (w : Where C F R S) (x : Final R S) (k : ℕ) → says α n w ≡ accepted x k → (w ≡ done x) × (n ≡ k)
  unfolding says
  says-accepted n (due m) x k h = absurd (refused≢accepted h)
  says-accepted n (done y) x k h = let (e, p) = accepted-inj h in (ap done e, p)
  says-accepted n (stop y) x k h = absurd (refused≢accepted h)

  -- a refusal is the limit's, or of where the machine stopped
  abbrev Refused : ℕ → Where C F R S → Refusal → Type 0
  Refused n w ρ =
      ((m : Machine C F S) × (w ≡ due m) × (ρ ≡ refusal 7 m.number (entry_due m.queue) n))
      ⊎ ((w ≡ halt ρ.number ρ.chunk ρ.instruction) × (n ≡ ρ.steps))

  says-refused : (n : ℕ) (w : Where C F R S) (ρ : Refusal) → says α n w ≡ refused ρ → Refused n w ρ
  unfolding says
  says-refused n (due m) ρ h = inl (m, refl, sym (refused-inj h))
  says-refused n (done x) ρ h = absurd (refused≢accepted (sym h))
  says-refused n (stop x) ρ h =
      let e = refused-inj h in
      inr (ap stop (λ i. record { number = (e i).number; chunk = (e i).chunk; instruction = (e i).instruction }), ap (λ r. r.steps) e)

  takings-full : (n : ℕ) (w : Where C F R S) → ((k : ℕ) → k < n → Due (after-takings α k w)) → takings α n w ≡ n
  unfolding takings after-takings
  takings-full zero w h = refl
  takings-full (suc n) (due m) h = ap suc (takings-full n (next α m) (λ k l. h (suc k) (omega arith)))
  takings-full (suc n) (done x) h = absurd (done≢due (h 0 (omega arith)).1)
  takings-full (suc n) (stop x) h = absurd (stop≢due (h 0 (omega arith)).1)

  -- ---- the check
  -- THEOREM: the check says what stands after its takings, and their number
  pub check-is : (limit : ℕ) (r : R) → check α limit r ≡ says α (takings α limit (begun α r)) (after-takings α limit (begun α r))
  unfolding check
  check-is limit r = rw zero-add at (goes-is limit 0 (begun α r))

  counted : (w : Where C F R S) (limit n : ℕ) (end : Where C F R S) → after-takings α limit w ≡ end → takings α limit w ≡ n → Counted α w limit n end
  counted w limit n end e p = record {
    within = let l = takings-most limit w in omega arith;
    ends = rw (← p) (takings-end limit w ∙ e);
    before = λ k l. due-before limit k w (rw p l);
  }

  counted-says : (w : Where C F R S) (limit n : ℕ) (end : Where C F R S) → Over end → Counted α w limit n end
      → says α (takings α limit w) (after-takings α limit w) ≡ says α n end
  counted-says w limit n end o h =
      let over : Over (after-takings α n w) = rw h.ends o in
      let (e, p) = takings-over n limit w h.within over in
      rw (e, p, takings-full n w h.before, h.ends)

  pub accepted-counted : (limit : ℕ) (r : R) (x : Final R S) (n : ℕ) → check α limit r ≡ accepted x n → Counted α (begun α r) limit n (done x)
  accepted-counted limit r x n h =
      let (e, p) = says-accepted (takings α limit (begun α r)) (after-takings α limit (begun α r)) x n (sym (check-is limit r) ∙ h) in
      counted (begun α r) limit n (done x) e p

  pub counted-accepted : (limit : ℕ) (r : R) (x : Final R S) (n : ℕ) → Counted α (begun α r) limit n (done x) → check α limit r ≡ accepted x n
  unfolding says
  counted-accepted limit r x n h = check-is limit r ∙ counted-says (begun α r) limit n (done x) tt h

  pub refused-counted : (limit : ℕ) (r : R) (ρ : Refusal) → check α limit r ≡ refused ρ
      → Spent α limit r ρ ⊎ Counted α (begun α r) limit ρ.steps (halt ρ.number ρ.chunk ρ.instruction)
  refused-counted limit r ρ h = go (says-refused (takings α limit (begun α r)) (after-takings α limit (begun α r)) ρ (sym (check-is limit r) ∙ h))
    where
      go : Refused (takings α limit (begun α r)) (after-takings α limit (begun α r)) ρ
          → Spent α limit r ρ ⊎ Counted α (begun α r) limit ρ.steps (halt ρ.number ρ.chunk ρ.instruction)
      go (inl (m, e, p)) = inl (m, e, rw (takings-due limit (begun α r) m e) at p)
      go (inr (e, p)) = inr (counted (begun α r) limit ρ.steps (halt ρ.number ρ.chunk ρ.instruction) e p)

  pub counted-refused : (limit : ℕ) (r : R) (x : Stop) (n : ℕ) → Counted α (begun α r) limit n (stop x)
      → check α limit r ≡ refused (refusal x.number x.chunk x.instruction n)
  unfolding says
  counted-refused limit r x n h = check-is limit r ∙ counted-says (begun α r) limit n (stop x) tt h

  pub spent-refused : (limit : ℕ) (r : R) (m : Machine C F S) → after-takings α limit (begun α r) ≡ due m
      → check α limit r ≡ refused (refusal 7 m.number (entry_due m.queue) limit)
  unfolding says
  spent-refused limit r m e = check-is limit r ∙ (rw (takings-due limit (begun α r) m e, e) refl)

  -- THEOREM: no more steps than the limit
  pub accepted-within : (limit : ℕ) (r : R) (x : Final R S) (n : ℕ) → check α limit r ≡ accepted x n → n ≤ limit
  accepted-within limit r x n h = (accepted-counted limit r x n h).within

  pub refused-within : (limit : ℕ) (r : R) (ρ : Refusal) → check α limit r ≡ refused ρ → ρ.steps ≤ limit
  refused-within limit r ρ h = go (refused-counted limit r ρ h)
    where
      go : Spent α limit r ρ ⊎ Counted α (begun α r) limit ρ.steps (halt ρ.number ρ.chunk ρ.instruction) → ρ.steps ≤ limit
      go (inl (m, e, p)) = let q : ρ.steps ≡ limit = ap (λ r. r.steps) p in omega arith
      go (inr c) = c.within

  -- a run of a + b takings that is not over after a is a run of b from there
  pub run-split : (a b steps : ℕ) (m m' : Machine C F S) → after-takings α a (due m) ≡ due m' → run α (a + b) steps m
      ≡ run α b (steps + a) m'
  unfolding on_next
  run-split a b steps m m' e = goes-split a b steps (due m) ∙ (rw (takings-due a (due m) m' e, e) refl)
