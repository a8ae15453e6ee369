-- A run with a limit beside the run with the last one: it is 7 while that one goes on, and that one afterwards.
use Prim.Native.Nat.{ℕ, ◌<◌, ◌≤◌}
use native.Mathlib.Omega.{arith}
use mathlib.Core.Path.{◌≡◌, refl, sym, ap, ◌∙◌}
use mathlib.Core.Logic.{◌⊎◌, inl, inr}
use Rattle.answers.specs.declared.Refusal.{Refusal}
use Rattle.answers.specs.Answers.{refusal}
use Rattle.definition.specs.Machine.{Analysis, Machine, Where, due, done, stop, Ran, accepted, refused, entry_due, begun, check}
use Rattle.machine_laws.specs.Takings.{Due, after-takings, takings, says}
use Rattle.machine_laws.proofs.Takings.{Over, takings-most, takings-due, takings-end, due-before, takings-over, check-is, spent-refused}

-- the steps that an outcome has
unfoldable pub ran_steps : {R S : Type 0} → Ran R S → ℕ
ran_steps (accepted x n) = n
ran_steps (refused r) = r.steps

module _ {C F R S G : Type 0} (α : Analysis C F R S G) (f : R) (most total : ℕ) (l : total ≤ most) where
  abbrev begins : Where C F R S
  begins = begun α f

  abbrev whole : ℕ
  whole = takings α most begins

  said-steps : (n : ℕ) (w : Where C F R S) → ran_steps (says α n w) ≡ n
  unfolding says ran_steps
  said-steps n (due m) = refl
  said-steps n (done x) = refl
  said-steps n (stop x) = refl

  pub whole-steps : ran_steps (check α most f) ≡ whole
  whole-steps = ap ran_steps (check-is α most f) ∙ said-steps whole (after-takings α most begins)

  -- while it goes on
  pub before : total < whole → (m : Machine C F S) × (check α total f ≡ refused (refusal 7 m.number (entry_due m.queue) total))
  before h = let (m, e) = due-before α most total begins h in (m, spent-refused α total f m e)

  -- what a run stands at, over or not
  kind : (w : Where C F R S) → Over w ⊎ Due w
  kind (due m) = inr (m, refl)
  kind (done x) = inl tt
  kind (stop x) = inl tt

  ended : whole ≤ total → Over (after-takings α most begins) → (after-takings α total begins ≡ after-takings α most begins) × (takings α total begins ≡ whole)
  ended h o =
      let e = takings-end α most begins in
      let (a, n) = takings-over α whole total begins h (rw (← e) at o) in
      let (b, k) = takings-over α whole most begins (takings-most α most begins) (rw (← e) at o) in
      (a ∙ e, n ∙ sym k)

  -- afterwards: it is the same, and nothing is due unless this is the last total
  pub behind : whole ≤ total → (check α total f ≡ check α most f) × ((total ≡ most) ⊎ Over (after-takings α total begins))
  behind h = go (kind (after-takings α most begins))
    where
      go : Over (after-takings α most begins) ⊎ Due (after-takings α most begins) → (check α total f ≡ check α most f) × ((total ≡ most) ⊎ Over (after-takings α total begins))
      go (inl o) =
          let (a, n) = ended h o in (
            check-is α total f ∙ (λ i. says α (n i) (a i)) ∙ sym (check-is α most f),
            inr (rw a o),
          )
      go (inr (m, e)) = let z : total ≡ most = let k = takings-due α most begins m e in omega arith in (ap (λ (n : ℕ). check α n f) z, inl z)
