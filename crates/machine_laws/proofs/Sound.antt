-- T1, T2, T3 of an accepted check, over any rules that keep what is asked here.
use Prim.Native.Nat.{ℕ}
use mathlib.Core.Path.{◌≡◌, refl, sym, ◌∙◌}
use mathlib.Core.Logic.{◌⊎◌, inl, inr}
use mathlib.Core.Bool.{Bool, true, false, true≢false}
use mathlib.Core.Option.{Option, none}
use mathlib.Core.List.Memᴰ
use mathlib.Core.List.{List, [], ◌∷◌, Memᴰ}
use lib.ListN.{length}
use Rattle.definition.specs.Res.{Res, ok}
use Rattle.definition.specs.Machine.{Joined, Effect, Final, Analysis, accepted, adds, check}
use Rattle.machine_laws.proofs.Moves.{Laws, Recorded, TakenIn, Grown}
use Rattle.machine_laws.proofs.Settle.{Frame, Settled, Inv, steps-still, steps-settle, steps-carry}
use Rattle.machine_laws.proofs.Same.{steps-agree}
use Rattle.machine_laws.proofs.Reach.{Chain, first, steps-reach}
use Rattle.machine_laws.proofs.Sweep.{Each, none_left, one_more, Working, Sweep, swept, skip, work, Idle, Apart, check-apart}
pub use Rattle.machine_laws.proofs.Asked.{Held, Rules}

-- ---- what an accepted check leaves
module _ {C R S G : Type 0} (join : S → S → Res (Joined S)) (start : C → R → List (Option S)) (after : C → List (Option S) → Option (ℕ × ℕ))
    (leaves : C → R → ℕ → S → Res (Effect S G)) (Fits : R → G → Type 0) (Pass : C → ℕ → ℕ → Type 0) where
  -- one reachable chunk
  pub record Fixed (r : R) (c : C) (st : List (Option S)) : Type 0 where
    pub size : length st ≡ length (start c r)
    pub starts : (i : ℕ) (s : S) → Recorded (start c r) i s → TakenIn join st i s
    pub held : (i : ℕ) (s : S) → Recorded st i s → Held join (leaves c) Fits r st i s
    pub reached : (i : ℕ) (s : S) → Recorded st i s → Chain (Pass c) st i
    pub quiet-after : after c st ≡ none

-- validation's facts never change
abbrev same-frame : {F R G : Type 0} (view : F → R) → Frame {F = F} {R = R} {G = G} view (λ f g. f)
same-frame view = record {
  Quiet = λ f. Unit {0};
  still = λ f g q. (q, refl);
  Has = λ f g. Unit {0};
  has = λ f g. tt;
  keeps = λ f g h a. tt;
  Good = λ f. Unit {0};
  good = λ f g a. tt;
}

module _ {C F R S G : Type 0} (α : Analysis C F R S G) (laws : Laws α.join) (frame : Frame α.view α.absorb) (Fits : R → G → Type 0)
    (Pass : C → ℕ → ℕ → Type 0) (rules : Rules α frame Fits Pass) where
  module _ {c : C} {f f' : F} {st st' : List (Option S)} {q q' : List ℕ} where
    round-still : Working α false c f st q f' st' q' → frame.Quiet f' → frame.Quiet f × (α.view f' ≡ α.view f)
    unfolding adds
    round-still a z = steps-still α.join laws α.room α.view α.absorb frame (α.leaves false c) a z

    validation-still : Working α true c f st q f' st' q' → α.view f' ≡ α.view f
    unfolding adds
    validation-still a = (steps-still α.join laws α.room α.view (λ f g. f) (same-frame α.view) (α.leaves true c) a tt).1

  -- a chunk's run in the last round and in validation: the same states, so what the first settled holds of the second
  chunk-fixed : (r : R) (c : C) (f f₁ last g g₁ : F) (st st' : List (Option S)) → α.view f ≡ r → α.view g ≡ r → α.view last ≡ r → α.moved last ≡ false
      → frame.Good last → frame.Quiet f₁ → ((x : G) → frame.Has f₁ x → frame.Has last x) → Working α false c f (α.start c r) (0 ∷ []) f₁ st []
      → Working α true c g (α.start c r) (0 ∷ []) g₁ st' [] → α.after c st' ≡ none → Fixed α.join α.start α.after (α.leaves true) Fits Pass r c st'
  unfolding adds
  chunk-fixed r c f f₁ last g g₁ st st' ef eg el low good quiet kept a b none_after = record {
    size = ends.1.size;
    starts = λ i s e l. let (s', e', k) = ends.1.grows i s e in (s', e', k s (laws.self s));
    held = λ i s e. hold i s (ends.0 i s e) (ends-round.0 i s (rw same e));
    reached = steps-reach α.join laws α.room α.view (λ f g. f) (α.leaves true c) (Pass c) (rules.passes true c) b (λ i s e. rw (rules.first-only c r i s e) first);
    quiet-after = none_after;
  }
    where
      queued : (i : ℕ) (s : S) → Recorded (α.start c r) i s → Memᴰ i (0 ∷ [])
      queued i s e = Memᴰ.head (rules.first-only c r i s e)

      ends : Inv α.join laws α.room α.view (λ f g. f) (same-frame α.view) (α.leaves true c) g₁ st' [] × Grown α.join (α.start c r) st'
      ends = steps-settle α.join laws α.room α.view (λ f g. f) (same-frame α.view) (α.leaves true c) b tt (λ i s e. inl (queued i s e))

      ends-round : Inv α.join laws α.room α.view α.absorb frame (α.leaves false c) f₁ st [] × Grown α.join (α.start c r) st
      ends-round = steps-settle α.join laws α.room α.view α.absorb frame (α.leaves false c) a quiet (λ i s e. inl (queued i s e))

      same : st ≡ st'
      same =
          steps-agree α.join laws α.room α.view α.absorb frame (α.leaves false c) (λ f g. f) (same-frame α.view) (α.leaves true c)
          (λ r i s e e' h h'. sym (rules.agree c r i s e' e h' h)) (ef ∙ sym eg) a b quiet tt

      reads : α.view g₁ ≡ r
      reads = validation-still b ∙ eg

      reads-round : α.view f₁ ≡ r
      reads-round = (round-still a quiet).1 ∙ ef

      fit : (e e' : Effect S G) → e ≡ e' → frame.Has f₁ e'.gives → Fits r e.gives
      fit e e' q h = rw (q, ← el) (rules.fitting last e'.gives good low (kept e'.gives h))

      hold : (i : ℕ) (s : S) → Memᴰ i [] ⊎ Settled α.join laws α.room α.view (λ f g. f) (same-frame α.view) (α.leaves true c) g₁ st' i s
          → Memᴰ i [] ⊎ Settled α.join laws α.room α.view α.absorb frame (α.leaves false c) f₁ st i s → Held α.join (α.leaves true c) Fits r st' i s
      hold i s (inl m) k = absurd (Memᴰ.not-nil m)
      hold i s (inr h) (inl m) = absurd (Memᴰ.not-nil m)
      hold i s (inr h) (inr k) =
          let leaving : α.leaves true c r i s ≡ ok h.out = rw reads at h.leaving in
          let leaving' : α.leaves false c r i s ≡ ok k.out = rw reads-round at k.leaving in
          record { out = h.out; leaving = leaving; taken = h.taken; fits = fit h.out k.out (rules.agree c r i s h.out k.out leaving leaving') k.had }

  -- a chunk with its states: fixed if it is reachable, with none if it is not
  abbrev pub Left : R → C → List (Option S) → Type 0
  Left r c st = (α.reachable c ≡ true → Fixed α.join α.start α.after (α.leaves true) Fits Pass r c st) × (α.reachable c ≡ false → st ≡ [])

  sweep-still : {f f' : F} {cs : List C} {sts : List (List (Option S))} → Sweep α false f cs f' sts → frame.Quiet f'
      → frame.Quiet f × (α.view f' ≡ α.view f) × ((g : G) → frame.Has f g → frame.Has f' g)
  unfolding adds
  sweep-still swept z = (z, refl, λ g h. h)
  sweep-still (skip e s) z = sweep-still s z
  sweep-still (work {c = c} e a n s) z =
      let (z₁, e₁, k₁) = sweep-still s z in
      let (z₂, e₂) = round-still a z₁ in
      (z₂, e₁ ∙ e₂, λ g h. k₁ g (steps-carry α.join α.room α.view α.absorb (α.leaves false c) (λ f. frame.Has f g) (λ f h. frame.keeps f g h) a h))

  sweep-good : {f f' : F} {cs : List C} {sts : List (List (Option S))} → Sweep α false f cs f' sts → frame.Good f → frame.Good f'
  unfolding adds
  sweep-good swept g = g
  sweep-good (skip e s) g = sweep-good s g
  sweep-good (work {c = c} e a n s) g = sweep-good s (steps-carry α.join α.room α.view α.absorb (α.leaves false c) frame.Good frame.good a g)

  sweep-same : {f f' : F} {cs : List C} {sts : List (List (Option S))} → Sweep α true f cs f' sts → α.view f' ≡ α.view f
  sweep-same swept = refl
  sweep-same (skip e s) = sweep-same s
  sweep-same (work e a n s) = sweep-same s ∙ validation-still a

  -- the last round and validation side by side
  sweeps-fixed : {f last g g' : F} {cs : List C} {sts sts' : List (List (Option S))} → α.moved last ≡ false → frame.Good last → Sweep α false f cs last sts
      → Sweep α true g cs g' sts' → α.view g ≡ α.view last → Each (Left (α.view last)) cs sts'
  sweeps-fixed low good swept swept eg = none_left
  sweeps-fixed low good (skip e s) (skip e' s') eg = one_more (λ u. absurd (true≢false (sym u ∙ e)), λ u. refl) (sweeps-fixed low good s s' eg)
  sweeps-fixed low good (skip e s) (work e' b n' s') eg = absurd (true≢false (sym e' ∙ e))
  sweeps-fixed low good (work e a n s) (skip e' s') eg = absurd (true≢false (sym e ∙ e'))
  sweeps-fixed {last = last} {g = g} low good (work {f = f} {f₁ = f₁} {c = c} {st = st} e a n s) (work {f₁ = g₁} {st = st'} e' b n' s') eg =
      let (z₁, e₁, k₁) = sweep-still s (rules.calm last low) in
      let (_, e₂) = round-still a z₁ in
      let e₃ : α.view g₁ ≡ α.view g = validation-still b in
      let ef : α.view f ≡ α.view last = sym (e₁ ∙ e₂) in
      one_more (
        λ u. chunk-fixed (α.view last) c f f₁ last g g₁ st st' ef eg refl low good z₁ k₁ (rw ef at a) (rw eg at b) (n' refl),
        λ u. absurd (true≢false (sym e ∙ u)),
      )
      (sweeps-fixed low good s s' (e₃ ∙ eg))

  idle-left : {r : R} {cs : List C} {sts : List (List (Option S))} → Each (λ c st. (α.reachable c ≡ false) × (st ≡ [])) cs sts → Each (Left r) cs sts
  idle-left none_left = none_left
  idle-left (one_more p e) = one_more (λ u. absurd (true≢false (sym u ∙ p.0)), λ u. p.1) (idle-left e)

  -- THEOREM: what an accepted check leaves
  pub check_sound : (limit : ℕ) (r : R) (x : Final R S) (n : ℕ)
      → check α limit r ≡ accepted x n → Each (Left x.facts) α.chunks x.states
  check_sound limit r x n h = go (check-apart α limit r x n h)
    where
      go : Idle α α.chunks x.states ⊎ Apart α x → Each (Left x.facts) α.chunks x.states
      go (inl a) = idle-left a
      go (inr a) =
          let eg = rules.reopened a.last a.low in
          let ex : x.facts ≡ α.view a.last = sym a.reads ∙ (sweep-same a.validation ∙ eg) in
          rw ex (sweeps-fixed a.low (sweep-good a.round (rules.good_start a.from)) a.round a.validation eg)
