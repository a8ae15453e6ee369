-- What validation records is reached along ways that left recorded instructions, perhaps in states that were smaller then. Over any rule.
use Prim.Native.Nat.{ℕ}
use mathlib.Core.Path.{◌≡◌, refl, sym, ◌∙◌, ap}
use mathlib.Core.Logic.{◌⊎◌, inl, inr}
use mathlib.Core.Bool.{true, false, true≢false}
use mathlib.Core.Option.{Option}
use mathlib.Core.List.{List, [], Memᴰ}
use Rattle.definition.specs.Res.{Res, ok}
use Rattle.definition.specs.Machine.{Joined, Effect, Work, Final, Analysis, accepted, adds, check}
use Rattle.machine_laws.proofs.Moves.{Takes, Laws, Recorded, Grown, Moved, Via, puts-inv}
use Rattle.machine_laws.proofs.Steps.{Steps, stay, drop, step}
use Rattle.machine_laws.proofs.Sweep.{Each, none_left, one_more, Sweep, swept, skip, work, Idle, Apart, check-apart}

module _ {S G : Type 0} (join : S → S → Res (Joined S)) (leaves : ℕ → S → Res (Effect S G)) where
  -- each pass leaves a recorded instruction, in a state that the recorded one has taken in
  pub data Trail (st : List (Option S)) : ℕ → Type 0 where
    first : Trail st 0
    onto : {i t : ℕ} {s was x : S} {e : Effect S G} → Trail st i → Recorded st i s → Takes join s was → leaves i was ≡ ok e
        → Memᴰ {A = ℕ × S} (t, x) e.ways → Trail st t

  abbrev pub Trails : List (Option S) → Type 0
  Trails st = (i : ℕ) (s : S) → Recorded st i s → Trail st i

  trail-grown : {a b : List (Option S)} {i : ℕ} → Grown join a b → Trail a i → Trail b i
  trail-grown g first = first
  trail-grown g (onto {i = i} {s = s} {was = w} h r t l m) =
      let (s', r', k) = g.grows i s r in
      onto (trail-grown g h) r' (k w t) l m

  move-trails : Laws join → (a b : Work S) (i : ℕ) (s : S) (e : Effect S G) → Moved join (Via e.ways) a b → Recorded a.states i s → leaves i s ≡ ok e
      → Trails a.states → Trails b.states
  move-trails laws a b i s e m r l h j y q =
      let (s', r', k) = m.grown.grows i s r in
      elim (m.fresh j y q) [
        | inl q' ↦ trail-grown m.grown (h j y q')
        | inr (_, v) ↦ onto (trail-grown m.grown (h i s r)) r' (k s (laws.self s)) l v.1
      ]

module _ {F R S G : Type 0} (join : S → S → Res (Joined S)) (laws : Laws join) (cap : ℕ) (view : F → R) (leaves : R → ℕ → S → Res (Effect S G)) where
  -- a run of a chunk that adds nothing to the facts
  abbrev Run : F → List (Option S) → List ℕ → F → List (Option S) → List ℕ → Type 0
  Run = Steps join cap view (λ f g. f) leaves

  run-facts : {f f' : F} {st st' : List (Option S)} {q q' : List ℕ} → Run f st q f' st' q' → f ≡ f'
  run-facts stay = refl
  run-facts (drop e s) = run-facts s
  run-facts (step r l p s) = run-facts s

  run-trails : {f f' : F} {st st' : List (Option S)} {q q' : List ℕ} → Run f st q f' st' q' → Trails join (leaves (view f)) st
      → Trails join (leaves (view f)) st'
  run-trails stay h = h
  run-trails (drop e s) h = run-trails s h
  run-trails (step {f = f} {st = st} {i = i} {q = q} {s = x} {e = e} {w = w} r l p s) h =
      let (m, _) = puts-inv join laws cap (record { states = st; queue = q }) w e.ways p in
      run-trails s (move-trails join (leaves (view f)) laws (record { states = st; queue = q }) w i x e m r l h)

module _ {C F R S G : Type 0} (α : Analysis C F R S G) (laws : Laws α.join)
    (first-only : (c : C) (r : R) (i : ℕ) (s : S) → Recorded (α.start c r) i s → i ≡ 0) where
  abbrev Trailed : R → C → List (Option S) → Type 0
  Trailed r c st = α.reachable c ≡ true → Trails α.join (α.leaves true c r) st

  sweep-trails : {f f' : F} {cs : List C} {sts : List (List (Option S))} → Sweep α true f cs f' sts
      → (f ≡ f') × Each (Trailed (α.view f)) cs sts
  unfolding adds
  sweep-trails swept = (refl, none_left)
  sweep-trails (skip e s) =
      let (p, h) = sweep-trails s in
      (p, one_more (λ u. absurd (true≢false (sym u ∙ e))) h)
  sweep-trails (work {f = f} {f₁ = f₁} {c = c} e a n s) =
      let (p, h) = sweep-trails s in
      let q : f ≡ f₁ = run-facts α.join laws α.room α.view (α.leaves true c) a in (
        q ∙ p,
        one_more (λ u. run-trails α.join laws α.room α.view (α.leaves true c) a (λ i s r. rw (first-only c (α.view f) i s r) first)) (rw (← q) at h),
      )

  idle-trails : {r : R} {cs : List C} {sts : List (List (Option S))} → Each (λ c st. (α.reachable c ≡ false) × (st ≡ [])) cs sts
      → Each (Trailed r) cs sts
  idle-trails none_left = none_left
  idle-trails (one_more p e) = one_more (λ u. absurd (true≢false (sym u ∙ p.0))) (idle-trails e)

  -- THEOREM: what an accepted check records is reached
  pub check-trails : (limit : ℕ) (r : R) (x : Final R S) (n : ℕ) → check α limit r ≡ accepted x n
      → Each (λ c st. α.reachable c ≡ true → Trails α.join (α.leaves true c x.facts) st) α.chunks x.states
  check-trails limit r x n h = go (check-apart α limit r x n h)
    where
      go : Idle α α.chunks x.states ⊎ Apart α x → Each (Trailed x.facts) α.chunks x.states
      go (inl a) = idle-trails a
      go (inr a) =
          let (p, e) = sweep-trails a.validation in
          rw (sym a.reads ∙ ap α.view (sym p)) e
