-- A run that is begun, and one that is taken up, are at their turns.
use Prim.Native.Nat.{ℕ, zero, suc, ◌+◌, ◌*◌, ◌-◌, ◌<◌, ◌≤◌}
use native.Mathlib.Omega.{arith}
use native.Mathlib.Nat.{zero-add, suc-add, add-zero}
use mathlib.Core.Path.{◌≡◌, refl, sym, ap, ◌∙◌}
use mathlib.Core.Logic.{◌⊎◌, inl, inr}
use mathlib.Core.Bool.{Bool, true, false, cond}
use mathlib.Core.List.{List}
use lib.Dec.{eqb, ltb}
use lib.ListN.{length, get_or}
use borrow.Author.Tests.{eqb-true, ltb-true, ltb-false}
use Rattle.answers.specs.declared.Refusal.{Refusal}
use Rattle.definition.specs.Machine.{Analysis, Where, due, done, stop, begun, next}
use Rattle.definition.specs.Module.{Module, Chunk, module_of}
use Rattle.definition.specs.State.{State, Facts, Live}
use Rattle.definition.specs.Start.{first_facts, known_of}
use Rattle.definition.specs.Call.{Decided, turned, analysis_of, decided}
use Rattle.form_laws.specs.Good.{words_of}
use Rattle.layout.specs.Layout.{head_words}
use Rattle.machine_laws.specs.Takings.{after-takings, takings}
use Rattle.machine_laws.proofs.Takings.{takings-due}
use Rattle.termination.proofs.Full.{run-seven}
use Rattle.termination.proofs.Turned.{Stopped, decided-run}
use Rattle.run_state.specs.declared.Run.{Run}
use Rattle.run_state.specs.Course.{machine_in, room_in, known_as, analysis_in, Prepared, Between}
use Rattle.run.specs.declared.RunTo.{RunTo}
use Rattle.run.specs.Running.{RanTo}
use Rattle.start.specs.Starting.{Reknown}
use Rattle.resumable.specs.Resumable.{CanGoOn}
use Rattle.paused.specs.Stored.{paused_at, paused_words, run_in}
use Rattle.paused.proofs.Stored.{run-same}
use Rattle.paused.proofs.Front.{machine-front, between-front}
use Rattle.pause_laws.specs.Turn.{most_steps, Turn, ends_as, is_seven, turn_at}
use Rattle.pausing.specs.Paused.{Paused}
use Rattle.pausing.specs.declared.reaching.Stage.{Stage}
use Rattle.pausing.specs.reaching.Stages.{total_of, stage_of, stage_words, StageBy, turn_in, Running, SameRun}
use Rattle.pausing.proofs.reaching.Staging.{turn_last, turn-ends, after-add, staged}
use Rattle.std.specs.Prelude.{Result}

-- ---- refused at every limit alike: 9 to 12
module _ (m : Module) (f : Refusal) (always : (cap limit : ℕ) → decided m cap limit ≡ turned f) where
  -- 7 has the limit for its steps, so it is none of these
  at-limit : (limit : ℕ) → f.number ≡ 7 → (f.steps ≡ limit) ⊎ (f.number ≡ 7 → ⊥)
  at-limit limit z = go (decided-run m 0 limit f (always 0 limit))
    where
      go : Stopped m 0 limit f → (f.steps ≡ limit) ⊎ (f.number ≡ 7 → ⊥)
      go (inl b) = inr (λ e. omega (arith, b.0))
      go (inr (a, e)) =
          let (k, p, q) = (run-seven (known_of m (first_facts m)) 0 limit (first_facts m) f).0 (e, z) in
          inl (ap (λ (r : Refusal). r.steps) q)

  not-seven : f.number ≡ 7 → ⊥
  not-seven z = go (at-limit 0 z) (at-limit 1 z)
    where
      go : (f.steps ≡ 0) ⊎ (f.number ≡ 7 → ⊥) → (f.steps ≡ 1) ⊎ (f.number ≡ 7 → ⊥) → ⊥
      go (inl a) (inl b) = omega arith
      go (inr x) b = x z
      go (inl a) (inr y) = y z

  pub turn-always : (cap total : ℕ) → turn_at (decided m cap) total ≡ ends_as (turned f)
  unfolding is_seven
  turn-always cap total = go (ltb total most_steps) refl
    where
      no : (b : Bool) → eqb f.number 7 ≡ b → b ≡ false
      no true q = absurd (not-seven (eqb-true f.number 7 q))
      no false q = refl

      go : (b : Bool) → ltb total most_steps ≡ b → turn_at (decided m cap) total ≡ ends_as (turned f)
      go true q =
          let l = ltb-true total most_steps q in
          turn-ends (decided m cap) total (omega arith) (ap is_seven (always cap total) ∙ no (eqb f.number 7) refl) ∙ ap ends_as (always cap total)
      go false q = turn_last (decided m cap) total (ltb-false total most_steps q) ∙ ap ends_as (always cap most_steps)

-- ---- takings, one part after the other
pub takings-add : {C F R S G : Type 0} (α : Analysis C F R S G) (a b : ℕ) (w : Where C F R S) → takings α (a + b) w ≡ takings α a w + takings α b (after-takings α a w)
unfolding takings after-takings
takings-add α zero b w = rw (zero-add, zero-add)
takings-add α (suc a) b (due m) = rw (suc-add, suc-add) (ap suc (takings-add α a b (next α m)))
takings-add α (suc a) zero (done x) = rw (suc-add, zero-add)
takings-add α (suc a) (suc b) (done x) = rw (suc-add, zero-add)
takings-add α (suc a) zero (stop x) = rw (suc-add, zero-add)
takings-add α (suc a) (suc b) (stop x) = rw (suc-add, zero-add)

-- ---- a total is capped
module _ (n a : ℕ) (l : n < most_steps) where
  pub total-most : total_of n a ≤ most_steps
  unfolding total_of
  total-most = go (ltb (n + a) most_steps) refl
    where
      go : (b : Bool) → ltb (n + a) most_steps ≡ b → cond b (n + a) most_steps ≤ most_steps
      go true q = let k = ltb-true (n + a) most_steps q in omega arith
      go false q = omega arith

  pub total-more : n ≤ total_of n a
  unfolding total_of
  total-more = go (ltb (n + a) most_steps)
    where
      go : (b : Bool) → n ≤ cond b (n + a) most_steps
      go true = omega arith
      go false = omega arith

  pub total-turn : (d : ℕ → Decided) → turn_at d (total_of n a) ≡ turn_at d (n + a)
  unfolding total_of
  total-turn d = go (ltb (n + a) most_steps) refl
    where
      go : (b : Bool) → ltb (n + a) most_steps ≡ b → turn_at d (cond b (n + a) most_steps) ≡ turn_at d (n + a)
      go true q = refl
      go false q = let k = ltb-false (n + a) most_steps q in turn_last d most_steps (omega arith) ∙ sym (turn_last d (n + a) k)

-- ---- begun: the run stands where the machine stands after these takings
pub begun-staged : (s ws v u : List ℕ) (total reply : ℕ) (x : Result RunTo Refusal) → total ≤ most_steps → length v ≡ length ws → Running s reply
    → RanTo s v u total 0 (begun (analysis_in s v) (first_facts (module_of s))) x → StageBy s (stage_words u x) (turn_in s ws total) (stage_of s u reply x)
begun-staged s ws v u total reply x most long runs t =
    rw (ap (λ (n : ℕ). turn_at (decided (module_of s) (n - words_of (module_of s))) total) long) at
    (staged s v u total reply most t.long runs x t.stands (rw zero-add at t.at))

-- ---- taken up
module _ (s w ws : List ℕ) (n : ℕ) (p : Paused s w n) (k : SameRun s w ws) (prepared : Prepared s ws) where
  pub run-here : run_in ws ≡ run_in w
  run-here = run-same w ws (λ j l. k.front (paused_at + j) (omega arith) (omega arith))

  between-here : Between s ws (run_in w)
  between-here = between-front s w ws k.long k.behind (run_in w) prepared p.between

  pub goes_on : CanGoOn s ws (run_in ws)
  unfolding CanGoOn
  goes_on = rw run-here (between-here, p.some)

  steps-here : (run_in ws).steps ≡ n
  steps-here = ap (λ (r : Run). r.steps) run-here ∙ p.steps

  abbrev begins : Where Chunk Live Facts State
  begins = begun (analysis_in s ws) (first_facts (module_of s))

  stands_here : due (machine_in s ws (run_in ws)) ≡ after-takings (analysis_in s ws) n begins
  stands_here =
      ap (λ (r : Run). due (machine_in s ws r)) run-here
      ∙ ap due (machine-front s w ws k.long k.behind (run_in w) p.between)
      ∙ sym p.state
      ∙ ap (λ (m : ℕ). after-takings (analysis_of (known_as s) (m - words_of (module_of s))) n (begun (analysis_of (known_as s) (m - words_of (module_of s))) (first_facts (module_of s)))) (sym k.long)

  pub went_on : (u : List ℕ) (a reply : ℕ) (x : Result RunTo Refusal) → Running s reply
      → RanTo s ws u (total_of (run_in ws).steps a - (run_in ws).steps) (run_in ws).steps (due (machine_in s ws (run_in ws))) x
      → StageBy s (stage_words u x) (turn_in s ws (n + a)) (stage_of s u reply x)
  went_on u a reply x runs t =
      let limit = total_of n a in
      let more = total-more n a p.below in
      let sum : n + (limit - n) ≡ limit = omega (arith, more) in
      let left : total_of (run_in ws).steps a - (run_in ws).steps ≡ limit - n = ap (λ (m : ℕ). total_of m a - m) steps-here in
      let at : after-takings (analysis_in s ws) (limit - n) (due (machine_in s ws (run_in ws))) ≡ after-takings (analysis_in s ws) limit begins =
      ap (after-takings (analysis_in s ws) (limit - n)) stands_here
      ∙ sym (after-add (analysis_in s ws) n (limit - n) begins)
      ∙ ap (λ (m : ℕ). after-takings (analysis_in s ws) m begins) sum in
      let counted : n + takings (analysis_in s ws) (limit - n) (due (machine_in s ws (run_in ws))) ≡ takings (analysis_in s ws) limit begins =
      ap (λ (m : ℕ). m + takings (analysis_in s ws) (limit - n) (due (machine_in s ws (run_in ws)))) (sym (takings-due (analysis_in s ws) n begins (machine_in s ws (run_in ws)) (sym stands_here)))
      ∙ ap (λ v. takings (analysis_in s ws) n begins + takings (analysis_in s ws) (limit - n) v) stands_here
      ∙ sym (takings-add (analysis_in s ws) n (limit - n) begins)
      ∙ ap (λ (m : ℕ). takings (analysis_in s ws) m begins) sum in
      rw (total-turn n a p.below (decided (module_of s) (room_in s ws))) at
      (staged s ws u limit reply (total-most n a p.below) t.long runs x
      (t.stands ∙ ap (λ (m : ℕ). after-takings (analysis_in s ws) m (due (machine_in s ws (run_in ws)))) left ∙ at)
      (rw (ap (λ (m : ℕ). m + takings (analysis_in s ws) (total_of (run_in ws).steps a - (run_in ws).steps) (due (machine_in s ws (run_in ws)))) steps-here
      ∙ ap (λ (m : ℕ). n + takings (analysis_in s ws) m (due (machine_in s ws (run_in ws)))) left ∙ counted) at t.at))

-- what was written in front leaves the run
pub same-again : (s w ws v : List ℕ) → SameRun s w ws → Reknown s ws v → SameRun s w v
same-again s w ws v k r =
    record {
      long = r.kept.long ∙ k.long;
      front = λ j a b. r.front j (omega arith) b ∙ k.front j a b;
      behind = λ j h. r.behind j h ∙ k.behind j h;
    }
