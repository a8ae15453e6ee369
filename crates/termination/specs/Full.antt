-- 8 of a run: a taking that has to put an entry into a full queue. Over any state, facts, join and rule.
use Rattle.std.specs.Prelude.{ℕ, suc, ◌<◌, ◌≡◌, List, ◌∷◌, ◌++◌, get_or}
use Rattle.std.proofs.Math.Option.{none, some}
use Rattle.answers.specs.declared.Refusal.{Refusal}
use Rattle.answers.specs.Answers.{refusal}
use Rattle.definition.specs.Res.{ok}
use Rattle.definition.specs.Machine.{Effect, Work, Machine, Analysis, due, puts, begun}
use Rattle.machine_laws.specs.Takings.{after-takings}
use Rattle.machine_laws.specs.Full.{Full}

module _ {C F R S G : Type 0} (α : Analysis C F R S G) where
  -- where the entry due is visited, the ways before one are put, and that one finds the queue full
  pub record FullAt (m : Machine C F S) : Type 0 where
    pub entry : ℕ
    pub others : List ℕ
    pub queued : m.queue ≡ entry ∷ others
    pub state : S
    pub recorded : get_or m.states entry none ≡ some state
    pub effect : Effect S G
    pub rule : α.leaves m.validating m.chunk (α.view m.facts) entry state ≡ ok effect
    pub before : List (ℕ × S)
    pub way : ℕ × S
    pub behind : List (ℕ × S)
    pub ways : effect.ways ≡ before ++ (way ∷ behind)
    pub work : Work S
    pub came : puts α.join α.room (record { states = m.states; queue = others }) before ≡ ok work
    pub full : Full α.join α.room work way

  -- within the limit a machine comes to such a taking, and the refusal names it
  pub record Filled (limit : ℕ) (r : R) (ρ : Refusal) : Type 0 where
    pub taken : ℕ
    pub within : taken < limit
    pub machine : Machine C F S
    pub stands : after-takings α taken (begun α r) ≡ due machine
    pub at : FullAt machine
    pub named : ρ ≡ refusal 8 machine.number at.entry (suc taken)
