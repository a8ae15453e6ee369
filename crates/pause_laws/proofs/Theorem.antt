-- However a run is cut, it comes to what the run never cut comes to, and pauses before.
use Prim.Native.Nat.{ℕ, ◌-◌, ◌<◌, ◌≤◌}
use native.Mathlib.Omega.{arith}
use mathlib.Core.Path.{◌≡◌, refl, sym, ap, ◌∙◌}
use mathlib.Core.Logic.{◌⊎◌, inl, inr}
use mathlib.Core.Bool.{Bool, true, false, cond, ◌&&◌}
use mathlib.Core.Option.{Option, none, some}
use mathlib.Core.List.{List}
use lib.Dec.{eqb, ltb, leb}
use borrow.Author.Tests.{eqb-true, ltb-true, ltb-false, lt-ltb, le-ltb}
use Rattle.std.proofs.Common.{Result, Ok, Err}
use Rattle.answers.specs.declared.Refusal.{Refusal}
use Rattle.answers.specs.Answers.{nowhere, refusal}
use Rattle.definition.specs.Machine.{Ran, accepted, refused, begun}
use Rattle.definition.specs.Module.{Module, module_of}
use Rattle.definition.specs.State.{State, Facts}
use Rattle.definition.specs.Leaves.{Known}
use Rattle.definition.specs.Form.{form_of}
use Rattle.definition.specs.Start.{admitted, first_facts, overfull, reply_maximum, known_of}
use Rattle.definition.specs.Call.{Decided, reported, turned, analysis_of, run_of, on_ran, admitted_run, on_reply, known, on_admitted, decided, on_form, decide}
use Rattle.machine_laws.specs.Takings.{after-takings, takings}
use Rattle.machine_laws.proofs.Takings.{Over, takings-most}
use Rattle.refusal_laws.proofs.Only.{OfPlace}
use Rattle.refusal_laws.proofs.Rules.{admitted_of}
use Rattle.refusal_laws.proofs.Forms.{form-numbers}
use Rattle.termination.proofs.Full.{run-seven}
use Rattle.pause_laws.specs.Turn.{most_steps, Turn, pauses_at, ends_as, is_seven, capped, turn_at, turn_of, steps_of, Uncut}
use Rattle.pause_laws.proofs.Forms.{form-steps}
use Rattle.pause_laws.proofs.Runs.{ran_steps, whole-steps, before, behind}

-- ---- by what is decided
module _ (d : ℕ → Decided) (total : ℕ) where
  -- a 7 below the last total, while the run never cut goes on
  pauses : total < most_steps → is_seven (d total) ≡ true → total < steps_of (d most_steps) → Uncut d total
  unfolding Uncut turn_at
  pauses l e h = rw (lt-ltb total most_steps l, e, lt-ltb total (steps_of (d most_steps)) h)

  -- over: what is decided at the last total, whether by then or because no more steps can be had
  ends : steps_of (d most_steps) ≤ total → (total < most_steps → (is_seven (d total) ≡ false) × (d total ≡ d most_steps)) → Uncut d total
  unfolding Uncut turn_at capped
  ends h e = go (ltb total most_steps) refl
    where
      go : (b : Bool) → ltb total most_steps ≡ b
          → cond (b && is_seven (d total)) (pauses_at total) (ends_as (d (cond b total most_steps))) ≡ cond (ltb total (steps_of (d most_steps))) (pauses_at total) (ends_as (d most_steps))
      go true q = let (x, y) = e (ltb-true total most_steps q) in rw (x, y, le-ltb total (steps_of (d most_steps)) h)
      go false q = rw (le-ltb total (steps_of (d most_steps)) h)

  -- the same at every limit, and no 7
  same : (r : Refusal) → (r.number ≡ 7 → ⊥) → r.steps ≡ 0 → ((n : ℕ) → d n ≡ turned r) → Uncut d total
  unfolding is_seven steps_of
  same r x z e =
      ends (omega (arith, ap steps_of (e most_steps), z))
      (λ l. (ap is_seven (e total) ∙ not-seven (eqb r.number 7) refl, e total ∙ sym (e most_steps)))
    where
      not-seven : (b : Bool) → eqb r.number 7 ≡ b → b ≡ false
      not-seven true q = absurd (x (eqb-true r.number 7 q))
      not-seven false q = refl

-- ---- a run
module _ (k : Known) (cap : ℕ) (f : Facts) (reply total : ℕ) where
  abbrev decides : ℕ → Decided
  decides n = on_ran k reply (run_of k cap n f)

  ran-steps : (x : Ran Facts State) → steps_of (on_ran k reply x) ≡ ran_steps x
  unfolding on_ran steps_of ran_steps
  ran-steps (accepted x n) = refl
  ran-steps (refused r) = refl

  whole_is : steps_of (decides most_steps) ≡ takings (analysis_of k cap) most_steps (begun (analysis_of k cap) f)
  unfolding run_of
  whole_is = ran-steps (run_of k cap most_steps f) ∙ whole-steps (analysis_of k cap) f most_steps most_steps (omega arith)

  not-seven : Over (after-takings (analysis_of k cap) total (begun (analysis_of k cap) f)) → (x : Ran Facts State) → run_of k cap total f ≡ x → is_seven (on_ran k reply x) ≡ false
  unfolding on_ran is_seven
  not-seven o (accepted x n) e = refl
  not-seven o (refused r) e = go (eqb r.number 7) refl
    where
      go : (b : Bool) → eqb r.number 7 ≡ b → b ≡ false
      go true q = let (m, p, z) = (run-seven k cap total f r).0 (e, eqb-true r.number 7 q) in absurd (rw p at o)
      go false q = refl

  run-uncut : Uncut decides total
  unfolding run_of is_seven on_ran
  run-uncut = go (ltb total (steps_of (decides most_steps))) refl
    where
      most : takings (analysis_of k cap) most_steps (begun (analysis_of k cap) f) ≤ most_steps
      most = takings-most (analysis_of k cap) most_steps (begun (analysis_of k cap) f)

      due-seven : total < takings (analysis_of k cap) most_steps (begun (analysis_of k cap) f) → is_seven (decides total) ≡ true
      due-seven l =
          let (m, e) = before (analysis_of k cap) f most_steps total (omega (arith, l, most)) l in
          ap (λ (x : Ran Facts State). is_seven (on_ran k reply x)) e

      over : total < most_steps → takings (analysis_of k cap) most_steps (begun (analysis_of k cap) f) ≤ total → (is_seven (decides total) ≡ false) × (decides total ≡ decides most_steps)
      over l h =
          let (e, w) = behind (analysis_of k cap) f most_steps total (omega arith) h in
          (ended w, ap (on_ran k reply) e)
        where
          ended : (total ≡ most_steps) ⊎ Over (after-takings (analysis_of k cap) total (begun (analysis_of k cap) f)) → is_seven (decides total) ≡ false
          ended (inl z) = absurd (omega arith)
          ended (inr o) = not-seven o (run_of k cap total f) refl

      go : (b : Bool) → ltb total (steps_of (decides most_steps)) ≡ b → Uncut decides total
      go true q =
          let h = ltb-true total (steps_of (decides most_steps)) q in
          let l : total < takings (analysis_of k cap) most_steps (begun (analysis_of k cap) f) = omega (arith, h, whole_is) in
          pauses decides total (omega (arith, l, most)) (due-seven l) h
      go false q =
          let h = ltb-false total (steps_of (decides most_steps)) q in
          ends decides total h (λ l. over l (omega (arith, h, whole_is)))

-- ---- a module: refused at every limit alike, by 9 to 12, or as its run
abbrev Before : ℕ → Type 0
Before n = (9 ≤ n) × (n ≤ 12)

module _ (m : Module) (cap total : ℕ) where
  abbrev k : Known
  k = known_of m (first_facts m)

  decided-uncut : Uncut (decided m cap) total
  unfolding decided on_admitted known on_reply admitted_run known_of
  decided-uncut = at-chunks (admitted m m.chunks) refl
    where
      at-inits : (n : ℕ) (b : Bool) → Uncut (λ limit. cond b (turned (nowhere 12 0)) (on_ran k n (run_of k cap limit (first_facts m)))) total
      at-inits n true = same _ total (nowhere 12 0) (λ e. omega arith) refl (λ l. refl)
      at-inits n false = run-uncut k cap (first_facts m) n total

      at-reply : (o : Option ℕ) → Uncut (λ limit. on_reply k cap limit (first_facts m) o) total
      at-reply none = same _ total (nowhere 11 0) (λ e. omega arith) refl (λ l. refl)
      at-reply (some n) = at-inits n (overfull m)

      at-chunks : (o : Option (ℕ × ℕ)) → admitted m m.chunks ≡ o → Uncut (λ limit. on_admitted m cap limit o) total
      at-chunks (some x) a =
          let p : OfPlace Before (admitted m m.chunks) = admitted_of Before (omega arith, omega arith) (omega arith, omega arith) m m.chunks in
          let q : Before x.0 = rw a at p in
          same _ total (refusal x.0 x.1 65535 0) (λ e. omega (arith, q.0)) refl (λ l. refl)
      at-chunks none a = at-reply (reply_maximum k.reply)

-- THEOREM: with any total, a run that may pause is where the run never cut is: over with what that comes to, or paused while that goes on
pub turn-uncut : (s : List ℕ) (words total : ℕ) → Uncut (decide s words) total
unfolding decide on_form
turn-uncut s words total = by_form (form_of s) refl
  where
    by-room : (w : ℕ) (b : Bool) → Uncut (λ limit. cond b (turned (nowhere 5 0)) (decided (module_of s) (words - w) limit)) total
    by-room w true = same _ total (nowhere 5 0) (λ e. omega arith) refl (λ l. refl)
    by-room w false = decided-uncut (module_of s) (words - w) total

    by_form : (x : Result ℕ Refusal) → form_of s ≡ x → Uncut (λ limit. on_form s words limit x) total
    by_form (Err r) e = same _ total r (λ z. let n = form-numbers s r e in omega (arith, n.1)) (form-steps s r e) (λ l. refl)
    by_form (Ok w) e = by-room w (leb words w)

-- ---- read off it
-- what a turn comes to, by the steps of the run never cut
pub reached : (s : List ℕ) (words total : ℕ) → steps_of (decide s words most_steps) ≤ total → turn_of s words total ≡ ends_as (decide s words most_steps)
unfolding turn_of Uncut
reached s words total h = turn-uncut s words total ∙ rw (le-ltb total (steps_of (decide s words most_steps)) h)

pub unreached : (s : List ℕ) (words total : ℕ) → total < steps_of (decide s words most_steps) → turn_of s words total ≡ pauses_at total
unfolding turn_of Uncut
unreached s words total h = turn-uncut s words total ∙ rw (lt-ltb total (steps_of (decide s words most_steps)) h)
