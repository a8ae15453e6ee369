-- Where a run stands at a total is its turn.
use Prim.Native.Nat.{ℕ, zero, suc, ◌+◌, ◌-◌, ◌<◌, ◌≤◌}
use native.Mathlib.Omega.{arith}
use native.Mathlib.Nat.{zero-add, suc-add}
use mathlib.Core.Path.{◌≡◌, refl, sym, ap, ◌∙◌}
use mathlib.Core.Bool.{Bool, true, false, cond, ◌&&◌}
use mathlib.Core.List.{List}
use lib.Dec.{eqb, ltb}
use lib.ListN.{length}
use borrow.Author.Tests.{eqb-true, eqb-false, ltb-true, ltb-false, lt-ltb, le-ltb}
use Rattle.answers.specs.declared.Refusal.{Refusal}
use Rattle.answers.specs.Answers.{refusal}
use Rattle.mark.specs.Marks.{with_mark}
use Rattle.ring.specs.Ring.{due_of}
use Rattle.definition.specs.Machine.{Analysis, Where, Machine, due, done, stop, Ran, accepted, refused, entry_due, begun, next}
use Rattle.definition.specs.Module.{Chunk, module_of}
use Rattle.definition.specs.State.{State, Facts, Live}
use Rattle.definition.specs.Start.{first_facts}
use Rattle.definition.specs.Call.{Decided, reported, turned, analysis_of, run_of, on_ran, decided}
use Rattle.form_laws.specs.Good.{words_of}
use Rattle.machine_laws.specs.Takings.{after-takings, takings, says}
use Rattle.machine_laws.proofs.Takings.{Over, check-is, takings-due, spent-refused}
use Rattle.termination.proofs.Full.{run-seven}
use Rattle.run_state.specs.declared.Run.{Run}
use Rattle.run_state.specs.Course.{machine_in, final_in, room_in, known_as, analysis_in, Between, Ended}
use Rattle.run.specs.declared.RunTo.{RunTo}
use Rattle.run.specs.Running.{stands_in, StandsAt}
use Rattle.run.proofs.Turns.{due-entry}
use Rattle.report_size.specs.Reporting.{Faultless, report_in}
use Rattle.run_laws.proofs.Faultless.{run-faultless}
use Rattle.paused.specs.Stored.{mark_at, stored}
use Rattle.pause_laws.specs.Turn.{most_steps, Turn, pauses_at, ends_as, is_seven, capped, turn_at}
use Rattle.pausing.specs.declared.reaching.Stage.{Stage}
use Rattle.pausing.specs.declared.reaching.Stage.TheVariants.{Paused as PausedStage, Refused as RefusedStage, Over as OverStage}
use Rattle.pausing.specs.reaching.Stages.{pause_stage, pause_words, stage_of, stage_words, StageReady, StageBy, turn_in, Running}
use Rattle.pausing.proofs.reaching.Storing.{paused}
use Rattle.run.specs.declared.RunTo.TheVariants.{Due as StillDue, Over as Finished}
use Rattle.std.specs.Prelude.{Result, Ok, Err}

-- ---- a turn by what is decided
module _ (d : ℕ → Decided) (total : ℕ) where
  pub turn-pauses : total < most_steps → is_seven (d total) ≡ true → turn_at d total ≡ pauses_at total
  unfolding turn_at
  turn-pauses l e = rw (lt-ltb total most_steps l, e)

  pub turn_last : most_steps ≤ total → turn_at d total ≡ ends_as (d most_steps)
  unfolding turn_at capped
  turn_last l = rw (le-ltb total most_steps l)

  pub turn-ends : total ≤ most_steps → is_seven (d total) ≡ false → turn_at d total ≡ ends_as (d total)
  unfolding turn_at capped
  turn-ends l e = go (ltb total most_steps) refl
    where
      go : (b : Bool) → ltb total most_steps ≡ b → cond (b && is_seven (d total)) (pauses_at total) (ends_as (d (cond b total most_steps))) ≡ ends_as (d total)
      go true q = rw e
      go false q = let z : most_steps ≡ total = let k = ltb-false total most_steps q in omega arith in ap (λ (n : ℕ). ends_as (d n)) z

-- ---- takings, one part after the other
module _ {C F R S G : Type 0} (α : Analysis C F R S G) where
  pub after-add : (a b : ℕ) (w : Where C F R S) → after-takings α (a + b) w ≡ after-takings α b (after-takings α a w)
  unfolding after-takings
  after-add zero b w = rw zero-add
  after-add (suc a) b (due m) = rw suc-add (after-add a b (next α m))
  after-add (suc a) zero (done x) = rw suc-add
  after-add (suc a) (suc b) (done x) = rw suc-add
  after-add (suc a) zero (stop x) = rw suc-add
  after-add (suc a) (suc b) (stop x) = rw suc-add

due-over : {C F R S : Type 0} (w : Where C F R S) → Over w → (m : Machine C F S) → w ≡ due m → ⊥
due-over w o m e = rw e at o

-- ---- a stage by where the run stands
module _ (s w u : List ℕ) (total reply : ℕ) (most : total ≤ most_steps) (long : length u ≡ length w) (runs : Running s reply) where
  abbrev begins : Where Chunk Live Facts State
  begins = begun (analysis_in s w) (first_facts (module_of s))

  abbrev at : Where Chunk Live Facts State
  at = after-takings (analysis_in s w) total begins

  abbrev d : ℕ → Decided
  d = decided (module_of s) (room_in s w)

  ran-is : run_of (known_as s) (room_in s w) total (first_facts (module_of s)) ≡ says (analysis_in s w) (takings (analysis_in s w) total begins) at
  unfolding run_of
  ran-is = check-is (analysis_in s w) total (first_facts (module_of s))

  decides : (x : Ran Facts State) → says (analysis_in s w) (takings (analysis_in s w) total begins) at ≡ x → d total ≡ on_ran (known_as s) reply x
  decides x e = runs (room_in s w) total ∙ ap (on_ran (known_as s) reply) (ran-is ∙ e)

  -- refused
  staged-halt : (f : Refusal) → stop (record { number = f.number; chunk = f.chunk; instruction = f.instruction }) ≡ at
      → f.steps ≡ takings (analysis_in s w) total begins → turn_in s w total ≡ ends_as (turned f)
  unfolding on_ran is_seven says
  staged-halt f e n =
      let x : says (analysis_in s w) (takings (analysis_in s w) total begins) at ≡ refused f = λ i. says (analysis_in s w) (sym n i) (sym e i) in
      let q = decides (refused f) x in
      turn-ends d total most (ap is_seven q ∙ no (eqb f.number 7) refl x) ∙ ap ends_as q
    where
      no : (b : Bool) → eqb f.number 7 ≡ b → says (analysis_in s w) (takings (analysis_in s w) total begins) at ≡ refused f → b ≡ false
      no true q x =
          let (m, p, z) = (run-seven (known_as s) (room_in s w) total (first_facts (module_of s)) f).0 (ran-is ∙ x, eqb-true f.number 7 q) in
          absurd (due-over at (rw (← e) tt) m p)
      no false q x = refl

  -- over
  staged-over : (n : ℕ) → done (final_in s u) ≡ at → n ≡ takings (analysis_in s w) total begins → Ended s u
      → (turn_in s w total ≡ ends_as (reported (report_in s u reply) n)) × Ended s u × Faultless s u
  unfolding on_ran is_seven says report_in
  staged-over n e k ended =
      let x : says (analysis_in s w) (takings (analysis_in s w) total begins) at ≡ accepted (final_in s u) n = λ i. says (analysis_in s w) (sym k i) (sym e i) in
      let q = decides (accepted (final_in s u) n) x in
      (turn-ends d total most (ap is_seven q) ∙ ap ends_as q, ended, run-faultless s u (room_in s w) total n ended (ran-is ∙ x))

  -- an entry is due
  module _ (r : Run) (e : due (machine_in s u r) ≡ at) (b : Between s u r) (some : 0 < r.queue.count) (n : r.steps ≡ takings (analysis_in s w) total begins) where
    steps-are : r.steps ≡ total
    steps-are = n ∙ takings-due (analysis_in s w) total begins (machine_in s u r) (sym e)

    abbrev seven : Refusal
    seven = refusal 7 r.chunk (due_of u (words_of (module_of s)) r.queue) r.steps

    is-seven : d total ≡ turned seven
    unfolding on_ran says machine_in
    is-seven =
        decides (refused seven)
        ((λ i. says (analysis_in s w) (sym n i) (sym e i))
        ∙ ap (λ (i : ℕ). refused (refusal 7 r.chunk i r.steps)) (due-entry s u r b.queued.ready some))

    staged-due : StageBy s (pause_words u r) (turn_in s w total) (pause_stage s u r)
    unfolding pause_words pause_stage StageBy is_seven
    staged-due = go (eqb r.steps most_steps) refl
      where
        go : (c : Bool) → eqb r.steps most_steps ≡ c
            → StageBy s (cond c u (with_mark (stored u r) mark_at)) (turn_in s w total) (cond c (RefusedStage seven) (PausedStage r.steps))
        go true q =
            let z : total ≡ most_steps = let k = eqb-true r.steps most_steps q in omega (arith, steps-are) in
            turn_last d total (omega arith) ∙ ap (λ (k : ℕ). ends_as (d k)) (sym z) ∙ ap ends_as is-seven
        go false q =
            let l : r.steps < most_steps = let k = eqb-false r.steps most_steps q in omega (arith, steps-are, most) in (
              turn-pauses d total (omega (arith, l, steps-are)) (ap is_seven is-seven) ∙ ap pauses_at (sym steps-are),
              paused s u r b some r.steps refl l
                  (ap (λ (k : ℕ). after-takings (analysis_in s u) k (begun (analysis_in s u) (first_facts (module_of s)))) steps-are
                  ∙ ap (λ (k : ℕ). after-takings (analysis_of (known_as s) (k - words_of (module_of s))) total (begun (analysis_of (known_as s) (k - words_of (module_of s))) (first_facts (module_of s)))) long
                  ∙ sym e),
            )

  pub staged : (x : Result RunTo Refusal) → stands_in s u x ≡ at → StandsAt s u (takings (analysis_in s w) total begins) x
      → StageBy s (stage_words u x) (turn_in s w total) (stage_of s u reply x)
  unfolding stands_in StandsAt stage_words stage_of StageBy
  staged (Ok (StillDue r)) e (b, some, n) = staged-due r e b some n
  staged (Err f) e n = staged-halt f e n
  staged (Ok (Finished n)) e (ended, k) = staged-over n e k ended

-- ---- what a stage asks for
pub stage-ready : (s ws : List ℕ) (t : Turn) (x : Stage) → StageBy s ws t x → StageReady s ws x
unfolding StageBy StageReady
stage-ready s ws t (PausedStage n) h = tt
stage-ready s ws t (RefusedStage f) h = tt
stage-ready s ws t (OverStage e) (p, q, r) = (q, r)
