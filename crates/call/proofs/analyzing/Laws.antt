-- Each way through a run comes to what is decided; what is then told is told of that.
use Prim.Native.Nat.{ℕ, ◌-◌}
use mathlib.Core.Path.{◌≡◌, sym, ap, ◌∙◌}
use mathlib.Core.Bool.{false}
use mathlib.Core.List.{List}
use Rattle.std.specs.Prelude.{Result, Ok, Err}
use Rattle.answers.specs.declared.Refusal.{Refusal}
use Rattle.answers.specs.declared.Accepted.{Accepted}
use Rattle.answers.specs.declared.AcceptedIndexed.{AcceptedIndexed}
use Rattle.definition.specs.Module.{module_of}
use Rattle.definition.specs.Leaves.{opened}
use Rattle.definition.specs.Start.{first_facts}
use Rattle.definition.specs.Call.{Decided, reported, on_ran, run_of, decided}
use Rattle.form_laws.specs.Good.{words_of}
use Rattle.visit.specs.Held.{live_in}
use Rattle.run_state.specs.Course.{Prepared, Ended, known_as, room_in}
use Rattle.start.specs.Starting.{StartedAs}
use Rattle.run.specs.Running.{RanAs, ran_in, EndedBy}
use Rattle.report_size.specs.Reporting.{Faultless, report_in}
use Rattle.run_laws.proofs.Faultless.{run-faultless}
use Rattle.call.specs.analyzing.Reached.{ReachedBy}
use Rattle.call.specs.delivering.Told.{Told, ToldIndexed}
use Rattle.call.proofs.delivering.Laws.{told-turned, turned-with}
use Rattle.call.specs.declared.analyzing.End.{End}

-- turned back before the rounds
pub reached-early : (s ws v : List ℕ) (cap limit : ℕ) (x : Result ℕ Refusal) (f : Refusal) → StartedAs s ws v x → x ≡ Err f
    → ReachedBy (decided (module_of s) cap limit) s v (Err f)
unfolding StartedAs ReachedBy
reached-early s ws v cap limit x f h e = (rw e at h) cap limit

-- what a run asks for
pub run-ready : (s ws v : List ℕ) (x : Result ℕ Refusal) (n : ℕ) → StartedAs s ws v x → x ≡ Ok n
    → Prepared s v × (live_in s v false ≡ opened (first_facts (module_of s)))
unfolding StartedAs
run-ready s ws v x n h e = let b : StartedAs s ws v (Ok n) = rw e at h in (b.0, b.1)

module _ (s ws v u : List ℕ) (cap limit reply : ℕ) (x : Result ℕ Refusal) (y : Result ℕ Refusal) (start : StartedAs s ws v x) (ready : x ≡ Ok reply) (ran : RanAs s v u limit y)
    (room : cap ≡ room_in s ws) where
  begins : StartedAs s ws v (Ok reply)
  begins = rw ready at start

  -- what is decided is what the run comes to
  decides : decided (module_of s) cap limit ≡ on_ran (known_as s) reply (ran_in s u y)
  unfolding StartedAs RanAs
  decides =
      let e : room_in s v ≡ cap = ap (λ (n : ℕ). n - words_of (module_of s)) begins.2 ∙ sym room in
      begins.3 cap limit ∙ ap (on_ran (known_as s) reply) (ap (λ (n : ℕ). run_of (known_as s) n limit (first_facts (module_of s))) (sym e) ∙ sym ran.0)

  pub reached-stopped : (f : Refusal) → y ≡ Err f → ReachedBy (decided (module_of s) cap limit) s u (Err f)
  unfolding on_ran ran_in ReachedBy
  reached-stopped f e = decides ∙ rw e

  pub reached-done : (steps : ℕ) → y ≡ Ok steps → ReachedBy (decided (module_of s) cap limit) s u (Ok (record { reply = reply; steps = steps }))
  unfolding on_ran ran_in report_in ReachedBy RanAs EndedBy
  reached-done steps e =
      let ended : Ended s u = rw e at ran.1 in
      (decides ∙ rw e, ended, run-faultless s u (room_in s v) limit steps ended (sym ran.0 ∙ ap (ran_in s u) e))

-- ---- what is told of it
module _ (d : Decided) (s ws : List ℕ) (x : Result End Refusal) (h : ReachedBy d s ws x) where
  pub told-refused : (f : Refusal) (buf : List ℕ) → x ≡ Err f → Told d buf (Err f) buf
  unfolding ReachedBy
  told-refused f buf e = told-turned f d buf (rw e at h)

  pub refused-with : (f : Refusal) (buf idx : List ℕ) → x ≡ Err f → ToldIndexed d buf idx (Err f) buf idx
  unfolding ReachedBy
  refused-with f buf idx e = turned-with f d buf idx (rw e at h)

  module _ (y : End) (e : x ≡ Ok y) where
    reached : (d ≡ reported (report_in s ws y.reply) y.steps) × Ended s ws × Faultless s ws
    unfolding ReachedBy
    reached = rw e at h

    pub may-deliver : Ended s ws × Faultless s ws
    may-deliver = (reached.1, reached.2)

    pub told-delivered : (buf buf' : List ℕ) (r : Result Accepted Refusal) → Told (reported (report_in s ws y.reply) y.steps) buf r buf' → Told d buf r buf'
    told-delivered buf buf' r t = rw reached.0 t

    pub delivered-with : (buf idx buf' idx' : List ℕ) (r : Result AcceptedIndexed Refusal) → ToldIndexed (reported (report_in s ws y.reply) y.steps) buf idx r buf' idx'
        → ToldIndexed d buf idx r buf' idx'
    delivered-with buf idx buf' idx' r t = rw reached.0 t
