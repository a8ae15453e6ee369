-- A turn by how its taking ends; a run by how its turn ends.
use Prim.Native.Nat.{ℕ, suc, ◌+◌, ◌-◌, ◌<◌, ◌≤◌}
use native.Mathlib.Omega.{arith}
use native.Mathlib.Nat.{add-zero, zero-add}
use mathlib.Core.Path.{◌≡◌, refl, sym, ap, ◌∙◌}
use mathlib.Core.Bool.{false}
use mathlib.Core.List.{List}
use lib.ListN.{length}
use Rattle.answers.specs.declared.Refusal.{Refusal}
use Rattle.ring.specs.declared.Queue.{Queue}
use Rattle.ring.specs.Ring.{QueueReady, due_of, popped_of, queue_of}
use Rattle.answers.specs.Answers.{refusal}
use Rattle.definition.specs.Machine.{Where, due, stop, refused, settled, next, begun}
use Rattle.definition.specs.Module.{Chunk, module_of}
use Rattle.definition.specs.State.{State, Facts, Live}
use Rattle.definition.specs.Leaves.{opened}
use Rattle.definition.specs.Start.{first_facts, known_of}
use Rattle.definition.specs.Call.{analysis_of, run_of}
use Rattle.form_laws.specs.Good.{words_of}
use Rattle.layout.specs.declared.Tables.{Tables}
use Rattle.layout.specs.Indexed.{tables_of}
use Rattle.visit.specs.Held.{live_in}
use Rattle.run_state.specs.declared.Run.{Run}
use Rattle.run_state.specs.Course.{machine_in, final_in, room_in, known_as, analysis_in, Between}
use Rattle.rounds.specs.entering.Entering.{where_in, Goes, Opened, pass_from}
use Rattle.rounds.specs.Settling.{Onward}
use Rattle.step.specs.Took.{Took}
use Rattle.step.proofs.Steps.{due-there}
use Rattle.machine_laws.specs.Takings.{after-takings, takings, says}
use Rattle.machine_laws.proofs.Takings.{check-is}
use Rattle.run.specs.declared.RunTo.{RunTo}
use Rattle.run.proofs.Turns.{next-stops, next-goes, settled-due, settled-none, after_turn, takings-turn, after-done, after_stop, takings-done, takings-stop, due-entry}
use Rattle.run.specs.Running.{SettledAs, Turned, stands_in, StandsAt, RanTo, ran_in, EndedBy, RanAs}
use Rattle.std.specs.Prelude.{Ok, Err, Option, Some, None, Result}
use Rattle.run.specs.declared.RunTo.TheVariants.{Due, Over}

-- ---- settled
pub settled_here : (s ws : List ℕ) (r : Run) → Between s ws r → 0 < r.queue.count → SettledAs s ws ws r (Ok (Some r))
unfolding SettledAs where_in Goes
settled_here s ws r b h = (sym (settled-due s ws r h), (b, h, refl), refl)

pub settled_on : (s ws u : List ℕ) (r : Run) (x : Result (Option Run) Refusal) → r.queue.count ≡ 0 → Onward s ws u r x → SettledAs s ws u r x
unfolding SettledAs Onward
settled_on s ws u r x h (e, g, l) = (e ∙ sym (settled-none s ws r h), g, l)

-- ---- turned
module _ (s ws : List ℕ) (r : Run) (between : Between s ws r) (some : 0 < r.queue.count) where
  pub turned-stop : (u : List ℕ) (f : Refusal) → Took s ws u r (popped_of ws (words_of (module_of s)) r.queue) (due_of ws (words_of (module_of s)) r.queue) (Err f)
      → length u ≡ length ws → Turned s ws u r (Err f)
  unfolding Turned Took where_in Goes
  turned-stop u f (t, e) l = (
    (λ i. stop (record { number = f.number; chunk = (e i).chunk; instruction = (e i).instruction })) ∙ sym (next-stops s ws r between.queued.ready some f.number t),
    ap (λ (x : Refusal). x.steps) e ∙ one r.steps,
    l,
  )
    where
      one : (n : ℕ) → n + 1 ≡ suc n
      one n = omega arith

  pub turned_on : (u w : List ℕ) (x : Run) (y : Result (Option Run) Refusal)
      → Took s ws u r (popped_of ws (words_of (module_of s)) r.queue) (due_of ws (words_of (module_of s)) r.queue) (Ok x)
      → SettledAs s u w x y → Turned s ws w r y
  unfolding Turned Took SettledAs
  turned_on u w x y (t, b, mode, same, steps, past, long) (e, g, l) = (
    e
        ∙ ap (λ (n : ℕ). settled (analysis_of (known_as s) (n - words_of (module_of s))) (machine_in s u x) (queue_of u (words_of (module_of s)) x.queue)) long
        ∙ sym (next-goes s ws r between.queued.ready some u x t mode same past),
    rw (steps ∙ one r.steps) at g,
    l ∙ long,
  )
    where
      one : (n : ℕ) → n + 1 ≡ suc n
      one n = omega arith

-- ---- the run: where it stands after what is left of it is where the whole stands
pub record OnRun (s begin ws : List ℕ) (first : Run) (limit : ℕ) (r : Run) : Type 0 where
  pub between : Between s ws r
  pub some : 0 < r.queue.count
  pub within : r.steps ≤ limit
  pub long : length ws ≡ length begin
  pub rest : after-takings (analysis_in s begin) (limit - r.steps) (due (machine_in s ws r))
      ≡ after-takings (analysis_in s begin) (limit - first.steps) (due (machine_in s begin first))
  pub counted : r.steps + takings (analysis_in s begin) (limit - r.steps) (due (machine_in s ws r))
      ≡ first.steps + takings (analysis_in s begin) (limit - first.steps) (due (machine_in s begin first))

pub on-first : (s ws : List ℕ) (r : Run) (limit : ℕ) → Between s ws r → 0 < r.queue.count → r.steps ≤ limit → OnRun s ws ws r limit r
on-first s ws r limit b d l = record { between = b; some = d; within = l; long = refl; rest = refl; counted = refl }

module _ (s begin ws : List ℕ) (first : Run) (limit : ℕ) (r : Run) (on : OnRun s begin ws first limit r) where
  abbrev whole : Result RunTo Refusal → List ℕ → Type 0
  whole x u = RanTo s begin u (limit - first.steps) first.steps (due (machine_in s begin first)) x

  module _ (l : r.steps < limit) (u : List ℕ) where
    turn_is : (x : Result (Option Run) Refusal) → Turned s ws u r x → where_in s u x ≡ next (analysis_in s begin) (machine_in s ws r)
    unfolding Turned
    turn_is x (e, g, k) = e ∙ ap (λ (n : ℕ). next (analysis_of (known_as s) (n - words_of (module_of s))) (machine_in s ws r)) on.long

    rest-after : (x : Result (Option Run) Refusal) → Turned s ws u r x
        → after-takings (analysis_in s begin) (limit - suc r.steps) (where_in s u x)
        ≡ after-takings (analysis_in s begin) (limit - first.steps) (due (machine_in s begin first))
    rest-after x t =
        ap (after-takings (analysis_in s begin) (limit - suc r.steps)) (turn_is x t)
        ∙ sym (after_turn (analysis_in s begin) limit r.steps (machine_in s ws r) l)
        ∙ on.rest

    rest-counted : (x : Result (Option Run) Refusal) → Turned s ws u r x
        → suc r.steps + takings (analysis_in s begin) (limit - suc r.steps) (where_in s u x)
        ≡ first.steps + takings (analysis_in s begin) (limit - first.steps) (due (machine_in s begin first))
    rest-counted x t =
        ap (λ w. suc r.steps + takings (analysis_in s begin) (limit - suc r.steps) w) (turn_is x t)
        ∙ sym (takings-turn (analysis_in s begin) limit r.steps (machine_in s ws r) l)
        ∙ on.counted

    pub ran-stop : (f : Refusal) → Turned s ws u r (Err f) → whole (Err f) u
    unfolding Turned where_in Goes stands_in StandsAt
    ran-stop f (e, g, k) =
        let c = takings-stop (analysis_in s begin) (limit - suc r.steps) (record { number = f.number; chunk = f.chunk; instruction = f.instruction }) in
        let w = rest-counted (Err f) (e, g, k) in
        record {
          stands = sym (after_stop (analysis_in s begin) (limit - suc r.steps) _) ∙ rest-after (Err f) (e, g, k);
          at = g ∙ omega (arith, c, w);
          long = k ∙ on.long;
        }

    pub ran_over : (n : ℕ) → n ≡ r.steps + 1 → Turned s ws u r (Ok None) → whole (Ok (Over n)) u
    unfolding Turned where_in Goes stands_in StandsAt
    ran_over n h (e, g, k) =
        let c = takings-done (analysis_in s begin) (limit - suc r.steps) (final_in s u) in
        let w = rest-counted (Ok None) (e, g, k) in
        record {
          stands = sym (after-done (analysis_in s begin) (limit - suc r.steps) _) ∙ rest-after (Ok None) (e, g, k);
          at = (g, omega (arith, h, c, w));
          long = k ∙ on.long;
        }

    pub ran-due : (x : Run) → Turned s ws u r (Ok (Some x)) → OnRun s begin u first limit x
    unfolding Turned where_in Goes
    ran-due x (e, g, k) =
        let z = g.2 in
        record {
          between = g.0;
          some = g.1;
          within = omega arith;
          long = k ∙ on.long;
          rest = ap (λ (n : ℕ). after-takings (analysis_in s begin) (limit - n) (due (machine_in s u x))) z ∙ rest-after (Ok (Some x)) (e, g, k);
          counted = ap (λ (n : ℕ). n + takings (analysis_in s begin) (limit - n) (due (machine_in s u x))) z ∙ rest-counted (Ok (Some x)) (e, g, k);
        }

    pub ran-less : (x : Run) → Turned s ws u r (Ok (Some x)) → limit - x.steps < limit - r.steps
    unfolding Turned Goes
    ran-less x (e, g, k) = let z = g.2 in omega arith

  -- no step is left
  pub ran_out : limit ≤ r.steps → whole (Ok (Due r)) ws
  unfolding stands_in StandsAt after-takings takings
  ran_out h =
      let z : limit - r.steps ≡ 0 = omega (arith, h) in
      record {
        stands = sym (ap (λ (n : ℕ). after-takings (analysis_in s begin) n (due (machine_in s ws r))) z) ∙ on.rest;
        at = (on.between, on.some, sym (add-zero r.steps) ∙ sym (ap (λ (n : ℕ). r.steps + takings (analysis_in s begin) n (due (machine_in s ws r))) z) ∙ on.counted);
        long = on.long;
      }

-- what stands there
pub still-due : (s ws u : List ℕ) (left steps : ℕ) (from : Where Chunk Live Facts State) (r : Run) → RanTo s ws u left steps from (Ok (Due r))
    → Between s u r × (0 < r.queue.count)
unfolding StandsAt
still-due s ws u left steps from r t = (t.at.0, t.at.1)

-- ---- from the start
module _ (s ws u : List ℕ) (limit : ℕ) (live : live_in s ws false ≡ opened (first_facts (module_of s))) where
  begun-is : (x : Result (Option Run) Refusal) → Opened s ws u false 0 x → where_in s u x ≡ begun (analysis_in s ws) (first_facts (module_of s))
  unfolding Opened begun known_of
  begun-is x (e, g, k) = e ∙ ap (pass_from (analysis_in s ws) false) live

  abbrev first : Result RunTo Refusal → List ℕ → Type 0
  first x v = RanTo s ws v limit 0 (begun (analysis_in s ws) (first_facts (module_of s))) x

  pub first-stop : (f : Refusal) → Opened s ws u false 0 (Err f) → first (Err f) u
  unfolding Opened where_in Goes stands_in StandsAt
  first-stop f (e, g, k) =
      let b = begun-is (Err f) (e, g, k) in
      record {
        stands = sym (after_stop (analysis_in s ws) limit _) ∙ ap (after-takings (analysis_in s ws) limit) b;
        at = g ∙ sym (takings-stop (analysis_in s ws) limit _) ∙ ap (takings (analysis_in s ws) limit) b ∙ sym (zero-add _);
        long = k;
      }

  pub first-over : Opened s ws u false 0 (Ok None) → first (Ok (Over 0)) u
  unfolding Opened where_in Goes stands_in StandsAt
  first-over (e, g, k) =
      let b = begun-is (Ok None) (e, g, k) in
      record {
        stands = sym (after-done (analysis_in s ws) limit _) ∙ ap (after-takings (analysis_in s ws) limit) b;
        at = (g, sym (takings-done (analysis_in s ws) limit _) ∙ ap (takings (analysis_in s ws) limit) b ∙ sym (zero-add _));
        long = k;
      }

  pub first-due : (r : Run) → Opened s ws u false 0 (Ok (Some r)) → (v : List ℕ) (x : Result RunTo Refusal) → RanTo s u v (limit - r.steps) r.steps (due (machine_in s u r)) x → first x v
  unfolding Opened where_in Goes
  first-due r (e, g, k) v x t =
      let z : limit - 0 ≡ limit = omega arith in
      let b = begun-is (Ok (Some r)) (e, g, k) in
      let steps : r.steps ≡ 0 = g.2 in
      let room : room_in s u ≡ room_in s ws = ap (λ (n : ℕ). n - words_of (module_of s)) k in
      let left : limit - r.steps ≡ limit = ap (λ (n : ℕ). limit - n) steps ∙ z in
      let counted : r.steps + takings (analysis_in s u) (limit - r.steps) (due (machine_in s u r)) ≡ 0 + takings (analysis_in s ws) limit (begun (analysis_in s ws) (first_facts (module_of s))) =
      λ i. steps i + takings (analysis_of (known_as s) (room i)) (left i) (b i) in
      record {
        stands = t.stands ∙ (λ i. after-takings (analysis_of (known_as s) (room i)) (left i) (b i));
        at = rw counted at t.at;
        long = t.long ∙ k;
      }

  pub due-ready : (r : Run) → Opened s ws u false 0 (Ok (Some r)) → Between s u r × ((0 < r.queue.count) × (r.steps ≤ limit))
  unfolding Opened Goes
  due-ready r (e, g, k) = (g.0, (g.1, omega (arith, g.2)))

-- ---- the whole run, with 7
module _ (s ws : List ℕ) (r : Run) (b : Between s ws r) (d : 0 < r.queue.count) (t : Tables) (e : t ≡ tables_of s) where
  base-is : t.queue_at ≡ words_of (module_of s)
  unfolding tables_of
  base-is = ap (λ (x : Tables). x.queue_at) e

  pub spent-ready : QueueReady ws t.queue_at r.queue
  spent-ready = rw base-is b.queued.ready

  pub spent-is : due_of ws t.queue_at r.queue ≡ due_of ws (words_of (module_of s)) r.queue
  spent-is = ap (λ (k : ℕ). due_of ws k r.queue) base-is

  pub spent-small : (r.chunk < 65536) × (due_of ws (words_of (module_of s)) r.queue < 65536)
  spent-small = (
    omega (arith, b.chunk, b.prepared.indexed.good.chunks_most),
    omega (arith, due-there s ws r.chunk r.queue b.queued d, (b.prepared.indexed.good.each_chunk r.chunk b.chunk).code),
  )

module _ (s ws u : List ℕ) (limit : ℕ) where
  abbrev begins : Where Chunk Live Facts State
  begins = begun (analysis_in s ws) (first_facts (module_of s))

  said : (w : Where Chunk Live Facts State) (n : ℕ) → w ≡ after-takings (analysis_in s ws) limit begins → n ≡ takings (analysis_in s ws) limit begins
      → says (analysis_in s ws) n w ≡ run_of (known_as s) (room_in s ws) limit (first_facts (module_of s))
  unfolding run_of
  said w n a b =
      (λ i. says (analysis_in s ws) (b i) (a i))
      ∙ sym (check-is (analysis_in s ws) limit (first_facts (module_of s)))

  pub run-stop : (f : Refusal) → RanTo s ws u limit 0 begins (Err f) → RanAs s ws u limit (Err f)
  unfolding RanAs ran_in EndedBy stands_in StandsAt says
  run-stop f t = (said _ f.steps t.stands (t.at ∙ zero-add _), refl)

  pub run-over : (n : ℕ) → RanTo s ws u limit 0 begins (Ok (Over n)) → RanAs s ws u limit (Ok n)
  unfolding RanAs ran_in EndedBy stands_in StandsAt says
  run-over n t = (said _ n t.stands (t.at.1 ∙ zero-add _), t.at.0)

  pub run-spent : (r : Run) → RanTo s ws u limit 0 begins (Ok (Due r)) → (f : Refusal)
      → f ≡ refusal 7 r.chunk (due_of u (words_of (module_of s)) r.queue) r.steps → RanAs s ws u limit (Err f)
  unfolding RanAs ran_in EndedBy stands_in StandsAt says machine_in
  run-spent r t f e =
      let room : room_in s u ≡ room_in s ws = ap (λ (n : ℕ). n - words_of (module_of s)) t.long in (
        ap refused (e ∙ ap (λ (i : ℕ). refusal 7 r.chunk i r.steps) (sym (due-entry s u r t.at.0.queued.ready t.at.1)))
            ∙ said _ r.steps t.stands (t.at.2 ∙ zero-add _),
        refl,
      )

pub took-between : (s ws u : List ℕ) (r : Run) (q : Queue) (i : ℕ) (x : Run) → Took s ws u r q i (Ok x) → Between s u x
unfolding Took
took-between s ws u r q i x t = t.1
