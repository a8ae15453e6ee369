-- Each way through the functions of `reaching` comes to what its contract says.
use Prim.Native.Nat.{ℕ, ◌+◌, ◌-◌, ◌<◌, ◌≤◌}
use native.Mathlib.Omega.{arith}
use mathlib.Core.Path.{◌≡◌, refl, sym, ap, ◌∙◌}
use mathlib.Core.Bool.{Bool, true, false, cond}
use mathlib.Core.List.{List}
use lib.Dec.{eqb, ltb}
use lib.ListN.{length}
use borrow.Author.Tests.{ltb-false, le-ltb, eq-eqb, ne_eqb}
use Rattle.answers.specs.declared.Refusal.{Refusal}
use Rattle.answers.specs.Answers.{refusal}
use Rattle.mark.specs.Marks.{word_range, with_mark}
use Rattle.ring.specs.Ring.{due_of}
use Rattle.definition.specs.Machine.{Where, due, begun}
use Rattle.definition.specs.Module.{Chunk, module_of}
use Rattle.definition.specs.State.{State, Facts, Live}
use Rattle.definition.specs.Leaves.{opened}
use Rattle.definition.specs.Start.{first_facts}
use Rattle.definition.specs.Call.{turned, decided}
use Rattle.form_laws.specs.Good.{Good, words_of}
use Rattle.layout.specs.Layout.{head_words}
use Rattle.layout.specs.declared.Tables.{Tables}
use Rattle.layout.specs.Indexed.{tables_of}
use Rattle.layout.proofs.Apart.{reply-in}
use Rattle.visit.specs.Held.{live_in}
use Rattle.machine_laws.specs.Takings.{takings}
use Rattle.run_state.specs.declared.Run.{Run}
use Rattle.run_state.specs.Course.{machine_in, room_in, analysis_in, Prepared, Between, Ended}
use Rattle.run.specs.declared.RunTo.{RunTo}
use Rattle.run.specs.Running.{StandsAt, RanTo}
use Rattle.start.specs.Starting.{StartedAs, Reknown, RebuiltAs}
use Rattle.report_size.specs.Reporting.{Faultless}
use Rattle.resumable.specs.Decides.{Decides}
use Rattle.resumable.specs.Resumable.{CanGoOn}
use Rattle.paused.specs.Stored.{mark_at, stored, run_in}
use Rattle.pause_laws.specs.Turn.{most_steps, turn_at}
use Rattle.pausing.specs.declared.reaching.End.{End}
use Rattle.pausing.specs.declared.reaching.Stage.{Stage}
use Rattle.pausing.specs.declared.reaching.Stage.TheVariants.{Paused as PausedStage, Refused as RefusedStage, Over as OverStage}
use Rattle.pausing.specs.reaching.Stages.{total_of, pause_stage, pause_words, stage_of, stage_words, RanReady, StageReady, StageEnded, StageBy, turn_in, Running, Begun, TakenUp, Tested}
use Rattle.pausing.proofs.reaching.Staging.{stage-ready}
use Rattle.pausing.proofs.reaching.Going.{turn-always, begun-staged, goes_on, went_on, same-again}
use Rattle.std.specs.Prelude.{Result, Ok, Err}
use Rattle.run.specs.declared.RunTo.TheVariants.{Due as StillDue, Over as Finished}

-- ---- the total
module _ (n a : ℕ) (l : n ≤ most_steps) where
  pub total-capped : most_steps - n < a → most_steps ≡ total_of n a
  unfolding total_of
  total-capped h = rw (le-ltb (n + a) most_steps (omega (arith, l, h)))

  pub total-summed : a ≤ most_steps - n → n + a ≡ total_of n a
  unfolding total_of
  total-summed h = go (ltb (n + a) most_steps) refl
    where
      go : (b : Bool) → ltb (n + a) most_steps ≡ b → n + a ≡ cond b (n + a) most_steps
      go true q = refl
      go false q = let k = ltb-false (n + a) most_steps q in omega (arith, k, l, h)

  pub total-least : (limit : ℕ) → limit ≡ total_of n a → n ≤ limit
  unfolding total_of
  total-least limit e = rw e (go (ltb (n + a) most_steps))
    where
      go : (b : Bool) → n ≤ cond b (n + a) most_steps
      go true = omega arith
      go false = l

-- ---- a pause
pub front-in : (s ws : List ℕ) → Prepared s ws → head_words ≤ length ws
front-in s ws p = omega (arith, reply-in (module_of s), p.room)

module _ (s ws : List ℕ) (r : Run) where
  pub run_fits : Between s ws r → (head_words ≤ length ws) × (r.chunk < word_range)
  run_fits b = (front-in s ws b.prepared, omega (arith, b.chunk, b.prepared.indexed.good.chunks_most))

  pub last-total : (f : Refusal) → r.steps ≡ most_steps → f ≡ refusal 7 r.chunk (due_of ws (words_of (module_of s)) r.queue) r.steps
      → (RefusedStage f ≡ pause_stage s ws r) × (ws ≡ pause_words ws r)
  unfolding pause_stage pause_words
  last-total f e q = let z = eq-eqb r.steps most_steps e in (rw z (ap RefusedStage q), rw z)

  pub run-stored : (u v : List ℕ) → (r.steps ≡ most_steps → ⊥) → u ≡ stored ws r → v ≡ with_mark u mark_at
      → (PausedStage r.steps ≡ pause_stage s ws r) × (v ≡ pause_words ws r)
  unfolding pause_stage pause_words
  run-stored u v n e q = let z = ne_eqb r.steps most_steps n in (rw z, rw z (q ∙ ap (λ (x : List ℕ). with_mark x mark_at) e))

-- ---- a stage
pub due-ready : (s ws : List ℕ) (ran : Result RunTo Refusal) (r : Run) → ran ≡ Ok (StillDue r) → RanReady s ws ran → Between s ws r × (0 < r.queue.count)
unfolding RanReady
due-ready s ws ran r e h = rw e at h

module _ (s ws : List ℕ) (reply : ℕ) (ran : Result RunTo Refusal) where
  pub stage-due : (u : List ℕ) (x : Stage) (r : Run) → ran ≡ Ok (StillDue r) → (x ≡ pause_stage s ws r) × (u ≡ pause_words ws r)
      → (x ≡ stage_of s ws reply ran) × (u ≡ stage_words ws ran)
  unfolding stage_of stage_words
  stage-due u x r e h = rw e h

  pub stage-halt : (f : Refusal) → ran ≡ Err f → (RefusedStage f ≡ stage_of s ws reply ran) × (ws ≡ stage_words ws ran)
  unfolding stage_of stage_words
  stage-halt f e = rw e (refl, refl)

  pub stage-over : (n : ℕ) → ran ≡ Ok (Finished n) → (OverStage (record { reply = reply; steps = n }) ≡ stage_of s ws reply ran) × (ws ≡ stage_words ws ran)
  unfolding stage_of stage_words
  stage-over n e = rw e (refl, refl)

-- ---- what a run up to a limit leaves
module _ (s v u : List ℕ) (left steps : ℕ) (from : Where Chunk Live Facts State) where
  pub ran-ready : (x : Result RunTo Refusal) → RanTo s v u left steps from x → RanReady s u x
  unfolding RanReady StandsAt
  ran-ready x t = go (steps + takings (analysis_in s v) left from) x t.at
    where
      go : (k : ℕ) (x : Result RunTo Refusal) → StandsAt s u k x → RanReady s u x
      go k (Ok (StillDue r)) (b, some, e) = (b, some)
      go k (Err f) e = tt
      go k (Ok (Finished n)) e = tt

  ran-ended : (reply : ℕ) (x : Result RunTo Refusal) → RanTo s v u left steps from x → StageEnded s (stage_words u x) (stage_of s u reply x)
  unfolding StandsAt StageEnded stage_words stage_of pause_stage
  ran-ended reply x t = go (steps + takings (analysis_in s v) left from) x t.at
    where
      pausing : (r : Run) (b : Bool) (f : Refusal) (w : List ℕ) → StageEnded s w (cond b (RefusedStage f) (PausedStage r.steps))
      pausing r true f w = tt
      pausing r false f w = tt

      go : (k : ℕ) (x : Result RunTo Refusal) → StandsAt s u k x → StageEnded s (stage_words u x) (stage_of s u reply x)
      go k (Ok (StillDue r)) h = pausing r (eqb r.steps most_steps) _ _
      go k (Err f) e = tt
      go k (Ok (Finished n)) (e, q) = e

  -- the stage of it
  pub ran-kept : (reply : ℕ) (ran : Result RunTo Refusal) (z : List ℕ) (x : Stage) → RanTo s v u left steps from ran → (x ≡ stage_of s u reply ran) × (z ≡ stage_words u ran) → StageEnded s z x
  ran-kept reply ran z x t (p, q) = rw (p, q) (ran-ended reply ran t)

-- ---- begun
module _ (s ws v : List ℕ) where
  pub started-ready : (x : Result ℕ Refusal) (reply : ℕ) → x ≡ Ok reply → StartedAs s ws v x
      → Prepared s v × (live_in s v false ≡ opened (first_facts (module_of s))) × (length v ≡ length ws) × Running s reply
  unfolding StartedAs
  started-ready x reply e h = rw e at h

  pub begun-refused : (a : ℕ) (x : Result ℕ Refusal) (f : Refusal) → x ≡ Err f → StartedAs s ws v x → length v ≡ length ws → Begun s ws v a (RefusedStage f)
  unfolding StartedAs StageBy
  begun-refused a x f e h l =
      let always : (cap limit : ℕ) → decided (module_of s) cap limit ≡ turned f = rw e at h in
      record { long = l; stage = turn-always (module_of s) f always (room_in s ws) a }

  pub begun-ran : (a : ℕ) (u z : List ℕ) (x : Result ℕ Refusal) (reply : ℕ) (ran : Result RunTo Refusal) (y : Stage) → x ≡ Ok reply → StartedAs s ws v x → a ≤ most_steps
      → RanTo s v u a 0 (begun (analysis_in s v) (first_facts (module_of s))) ran → (y ≡ stage_of s u reply ran) × (z ≡ stage_words u ran) → length z ≡ length ws
      → Begun s ws z a y
  begun-ran a u z x reply ran y e h most t (p, q) l =
      let (prepared, live, long, runs) = started-ready x reply e h in
      record { long = l; stage = rw (p, q) (begun-staged s ws v u a reply ran most long runs t) }

-- ---- begun afresh
pub fill-ready : (s : List ℕ) (n : ℕ) (t : Tables) → Good s (words_of (module_of s)) → words_of (module_of s) < n → t ≡ tables_of s
    → Good s t.queue_at × (t.queue_at ≤ n)
unfolding tables_of
fill-ready s n t g l e = rw e (g, omega (arith, l))

pub afresh-ready : (s ws u : List ℕ) (a : ℕ) (x : Stage) → Begun s ws u a x → StageReady s u x
afresh-ready s ws u a x b = stage-ready s u (turn_in s ws a) x b.stage

-- ---- tested
true-false : {A : Type 0} (b : Bool) → b ≡ true → b ≡ false → A
true-false true p q = absurd (let z : ◌≡◌ {A = ℕ} 1 0 = ap (λ (b : Bool). cond b 1 0) q in omega (arith, z))
true-false false p q = absurd (let z : ◌≡◌ {A = ℕ} 0 1 = ap (λ (b : Bool). cond b 1 0) p in omega (arith, z))

module _ (s ws : List ℕ) (e : End) where
  pub faultless-kept : (b : Bool) → Ended s ws → Decides b (Faultless s ws) → b ≡ true → Tested s ws ws (OverStage e) (OverStage e)
  unfolding StageReady
  faultless-kept b h d t = record { long = refl; ready = (h, d.sound t); kept = λ k. (refl, refl) }

  pub faulty-afresh : (u : List ℕ) (x : Stage) (b : Bool) → Decides b (Faultless s ws) → b ≡ false → StageReady s u x × (length u ≡ length ws)
      → Tested s ws u (OverStage e) x
  unfolding StageReady
  faulty-afresh u x b d t (h, l) = record { long = l; ready = h; kept = λ k. true-false b (d.complete k.1) t }

module _ (s ws : List ℕ) (x : Stage) where
  pub tested-paused : (n : ℕ) → x ≡ PausedStage n → Tested s ws ws x (PausedStage n)
  unfolding StageReady
  tested-paused n e = record { long = refl; ready = tt; kept = λ k. (refl, sym e) }

  pub tested-refused : (f : Refusal) → x ≡ RefusedStage f → Tested s ws ws x (RefusedStage f)
  unfolding StageReady
  tested-refused f e = record { long = refl; ready = tt; kept = λ k. (refl, sym e) }

  pub over-ended : (e : End) → x ≡ OverStage e → StageEnded s ws x → Ended s ws
  unfolding StageEnded
  over-ended e q h = rw q at h

  pub tested-over : (u : List ℕ) (y : Stage) (e : End) → x ≡ OverStage e → Tested s ws u (OverStage e) y → Tested s ws u x y
  tested-over u y e q h = rw q h

-- ---- gone on
module _ (s ws : List ℕ) (r : Run) (b : Bool) (here : r ≡ run_in ws) (decides : Decides b (CanGoOn s ws r)) where
  pub may-go : b ≡ true → Between s ws r × (0 < r.queue.count)
  unfolding CanGoOn
  may-go e = decides.sound e

  pub gone-afresh : (u : List ℕ) (a : ℕ) (x : Stage) → Prepared s ws → b ≡ false → StageReady s u x × (length u ≡ length ws) → TakenUp s ws u a x
  gone-afresh u a x prepared e (h, l) =
      record {
        long = l;
        ready = h;
        stage = λ w n p k. true-false b (decides.complete (rw here (goes_on s w ws n p k prepared))) e;
      }

pub gone-on : (s ws u v z : List ℕ) (a reply limit : ℕ) (r : Run) (ran : Result RunTo Refusal) (x y : Stage) → Prepared s ws → Running s reply → r ≡ run_in ws
    → limit ≡ total_of r.steps a → RanTo s ws u (limit - r.steps) r.steps (due (machine_in s ws r)) ran
    → (x ≡ stage_of s u reply ran) × (v ≡ stage_words u ran) → Tested s v z x y → length z ≡ length ws → TakenUp s ws z a y
gone-on s ws u v z a reply limit r ran x y prepared runs here total t (p, q) d l =
    record {
      long = l;
      ready = d.ready;
      stage = λ w n paused k.
          let h : StageBy s v (turn_in s ws (n + a)) x = rw (p, q) (went_on s w ws n paused k prepared u a reply ran runs (rw here at (rw total at t))) in
          let (e, f) = d.kept (stage-ready s v (turn_in s ws (n + a)) x h) in
          rw (e, f) h;
    }

-- ---- taken up
module _ (s ws v : List ℕ) (x : Result ℕ Refusal) (rebuilt : RebuiltAs s ws v x) where
  pub rebuilt-ready : (reply : ℕ) → x ≡ Ok reply → Prepared s v × Reknown s ws v × Running s reply
  unfolding RebuiltAs
  rebuilt-ready reply e = rw e at rebuilt

  pub taken_refused : (a : ℕ) (f : Refusal) → x ≡ Err f → length v ≡ length ws → TakenUp s ws v a (RefusedStage f)
  unfolding RebuiltAs StageReady StageBy
  taken_refused a f e l =
      let always : (cap limit : ℕ) → decided (module_of s) cap limit ≡ turned f = rw e at rebuilt in
      record { long = l; ready = tt; stage = λ w n p k. turn-always (module_of s) f always (room_in s ws) (n + a) }

  pub taken-on : (a reply : ℕ) (u : List ℕ) (y : Stage) → x ≡ Ok reply → TakenUp s v u a y → TakenUp s ws u a y
  taken-on a reply u y e t =
      let (prepared, k, runs) = rebuilt-ready reply e in
      record {
        long = t.long ∙ k.kept.long;
        ready = t.ready;
        stage = λ w n p same.
            rw (ap (λ (m : ℕ). turn_at (decided (module_of s) (m - words_of (module_of s))) (n + a)) k.kept.long) at
            (t.stage w n p (same-again s w ws v same k));
      }
