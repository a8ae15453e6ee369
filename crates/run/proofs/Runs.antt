-- What a run comes to by where it stands at the limit. The check's search goes by these in `run`, whatever the form in which a refusal is passed
-- on; so an edit that passes on another is refused for what it says.
use mathlib.Core.List.{List}
use mathlib.Core.Path.{◌≡◌}
use Prim.Native.Nat.{ℕ, ◌<◌}
use Rattle.std.specs.Prelude.{Result, Ok, Err}
use Rattle.answers.specs.declared.Refusal.{Refusal}
use Rattle.answers.specs.Answers.{refusal}
use Rattle.definition.specs.Machine.{begun}
use Rattle.definition.specs.Module.{module_of}
use Rattle.definition.specs.Start.{first_facts}
use Rattle.form_laws.specs.Good.{words_of}
use Rattle.ring.specs.Ring.{due_of}
use Rattle.run_state.specs.declared.Run.{Run}
use Rattle.run_state.specs.Course.{analysis_in, Between}
use Rattle.run.specs.declared.RunTo.{RunTo}
use Rattle.run.specs.declared.RunTo.TheVariants.{Due, Over}
use Rattle.run.specs.Running.{RanTo, RanAs}
use Rattle.run.proofs.Ways.{still-due, run-stop, run-over, run-spent}

module _ (s ws u : List ℕ) (limit : ℕ) (x : Result RunTo Refusal) (t : RanTo s ws u limit 0 (begun (analysis_in s ws) (first_facts (module_of s))) x) where
  pub run_refused : (f : Refusal) → x ≡ Err f → RanAs s ws u limit (Err f)
  run_refused f e = run-stop s ws u limit f (rw e at t)

  pub run_over : (n : ℕ) → x ≡ Ok (Over n) → RanAs s ws u limit (Ok n)
  run_over n e = run-over s ws u limit n (rw e at t)

  pub run_spent : (r : Run) (f : Refusal) → x ≡ Ok (Due r) → f ≡ refusal 7 r.chunk (due_of u (words_of (module_of s)) r.queue) r.steps
      → RanAs s ws u limit (Err f)
  run_spent r f e h = run-spent s ws u limit r (rw e at t) f h

  pub still_between : (r : Run) → x ≡ Ok (Due r) → Between s u r
  still_between r e = (still-due s ws u limit 0 _ r (rw e at t)).0

  pub still_some : (r : Run) → x ≡ Ok (Due r) → 0 < r.queue.count
  still_some r e = (still-due s ws u limit 0 _ r (rw e at t)).1
