-- The takings of a run, one after the other: where it stands after so many of them, and what it means that a run ends after exactly so many.
use Rattle.std.specs.Prelude.{ℕ, zero, suc, ◌<◌, ◌≤◌, ◌≡◌}
use Rattle.answers.specs.declared.Refusal.{Refusal}
use Rattle.answers.specs.Answers.{refusal}
use Rattle.definition.specs.Machine.{Machine, Where, due, done, stop, Ran, Analysis, accepted, refused, next, entry_due, begun}

-- an entry is due
abbrev pub Due : {C F R S : Type 0} → Where C F R S → Type 0
Due {C} {F} {R} {S} w = (m : Machine C F S) × (w ≡ due m)

module _ {C F R S G : Type 0} (α : Analysis C F R S G) where
  -- where the machine stands after k takings, or where it ended
  unfoldable pub after-takings : ℕ → Where C F R S → Where C F R S
  after-takings zero w = w
  after-takings (suc k) (due m) = after-takings k (next α m)
  after-takings (suc k) (done x) = done x
  after-takings (suc k) (stop x) = stop x

  -- how many takings that is
  unfoldable pub takings : ℕ → Where C F R S → ℕ
  takings zero w = 0
  takings (suc k) (due m) = suc (takings k (next α m))
  takings (suc k) (done x) = 0
  takings (suc k) (stop x) = 0

  -- what is answered there: 7 where an entry is still due
  unfoldable pub says : ℕ → Where C F R S → Ran R S
  says n (due m) = refused (refusal 7 m.number (entry_due m.queue) n)
  says n (done x) = accepted x n
  says n (stop x) = refused (refusal x.number x.chunk x.instruction n)

  -- a run from w that ends after exactly n takings, of at most `limit`
  pub record Counted (w : Where C F R S) (limit n : ℕ) (end : Where C F R S) : Type 0 where
    pub within : n ≤ limit
    pub ends : after-takings n w ≡ end
    pub before : (k : ℕ) → k < n → Due (after-takings k w)

  -- the machine's 7: an entry is due after `limit` takings
  abbrev pub Spent : ℕ → R → Refusal → Type 0
  Spent limit r ρ =
      (m : Machine C F S) × (after-takings limit (begun α r) ≡ due m) × (ρ ≡ refusal 7 m.number (entry_due m.queue) limit)
