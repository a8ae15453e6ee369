-- A chunk's run as a relation: successive visits.
use Prim.Native.Nat.{ℕ}
use mathlib.Core.Path.{◌≡◌, refl}
use mathlib.Core.Option.{Option, none, some}
use mathlib.Core.List.{List, ◌∷◌}
use lib.ListN.{get_or}
use Rattle.definition.specs.Res.{Res, ok}
use Rattle.definition.specs.Machine.{Joined, Effect, Work, Seen, puts, visit_at, visit}
use Rattle.machine_laws.proofs.Bind.{ok-inj, bind-use}
use Rattle.machine_laws.proofs.Moves.{Recorded}

module _ {F R S G : Type 0} (join : S → S → Res (Joined S)) (cap : ℕ) (view : F → R) (absorb : F → G → F) (leaves : R → ℕ → S → Res (Effect S G)) where
  -- from facts, states and queue to facts, states and queue
  pub data Steps : F → List (Option S) → List ℕ → F → List (Option S) → List ℕ → Type 0 where
    stay : {f : F} {st : List (Option S)} {q : List ℕ} → Steps f st q f st q
    -- an entry whose state is absent
    drop : {f f' : F} {st st' : List (Option S)} {i : ℕ} {q q' : List ℕ} → get_or st i none ≡ none → Steps f st q f' st' q' → Steps f st (i ∷ q) f' st' q'
    step : {f f' : F} {st st' : List (Option S)} {i : ℕ} {q q' : List ℕ} {s : S} {e : Effect S G} {w : Work S} → Recorded st i s
        → leaves (view f) i s ≡ ok e → puts join cap (record { states = st; queue = q }) e.ways ≡ ok w
        → Steps (absorb f e.gives) w.states w.queue f' st' q' → Steps f st (i ∷ q) f' st' q'

  -- what an accepted visit does is one of these
  module _ {f f' : F} {st st' : List (Option S)} {i : ℕ} {q q' : List ℕ} where
    visited-at : (r : Seen F S) (o : Option S) → get_or st i none ≡ o → visit_at join cap view absorb leaves f st q i o ≡ ok r
        → Steps r.facts r.work.states r.work.queue f' st' q' → Steps f st (i ∷ q) f' st' q'
    unfolding visit_at
    visited-at r none e h s = drop e (rw (← ok-inj h) at s)
    visited-at r (some x) e h s =
        bind-use (leaves (view f) i x) _ h λ l p h₁.
        bind-use (puts join cap (record { states = st; queue = q }) l.ways) _ h₁ λ w p₂ h₂.
        step e p p₂ (rw (← ok-inj h₂) at s)

    pub visited : (r : Seen F S) → visit join cap view absorb leaves f st q i ≡ ok r
        → Steps r.facts r.work.states r.work.queue f' st' q' → Steps f st (i ∷ q) f' st' q'
    unfolding visit
    visited r h s = visited-at r (get_or st i none) refl h s
