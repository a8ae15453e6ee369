-- The end of a round and of validation, and on to the next chunk, are the machine's.
use Prim.Native.Nat.{ℕ, ◌+◌, ◌-◌, ◌<◌, ◌≤◌}
use native.Mathlib.Omega.{arith}
use native.Mathlib.Numerals.{add-one}
use mathlib.Core.Path.{◌≡◌, refl, sym, ap, ◌∙◌}
use mathlib.Core.Bool.{Bool, true, false, not}
use mathlib.Core.Option.{none, some}
use mathlib.Core.List.{List}
use borrow.Author.Count.{below_more}
use borrow.Author.Tests.{eq-eqb, ne_eqb}
use lib.ListN.{length, drop}
use Rattle.answers.specs.declared.Refusal.{Refusal}
use Rattle.definition.specs.Machine.{due, enter, finish, end_round, ending, onward, settle}
use Rattle.definition.specs.Module.{module_of}
use Rattle.definition.specs.Leaves.{opened, closed, moved}
use Rattle.definition.specs.Start.{after_chunk}
use Rattle.form_laws.specs.Good.{chunk_no, words_of}
use Rattle.visit.specs.Held.{live_in}
use Rattle.run_state.specs.declared.Run.{Run}
use Rattle.run_state.specs.Course.{states_in, past_in, machine_in, final_in, room_in, analysis_in, Low, LowBefore, Between, Ended, FactsOnly}
use Rattle.rounds.specs.entering.Entering.{where_in, Goes, Opened}
use Rattle.rounds.specs.entering.Reach.{NextReachable}
use Rattle.rounds.proofs.entering.Reach.{past_more, enters_none}
use Rattle.rounds.specs.entering.Began.{Began}
use Rattle.rounds.specs.inspecting.Fault.{fault_told, Inspected}
use Rattle.rounds.proofs.entering.Rounds.{enters-due, low-reached}
use Rattle.rounds.specs.Settling.{Onward}
use Rattle.rounds.specs.Ends.{EndsAs, GoesOn}
use Rattle.std.specs.Prelude.{Option, Some, None, Result, Ok, Err}

-- ---- the end of a pass
pub ends-done : (s ws : List ℕ) (r : Run) → Ended s ws → r.validating ≡ true → EndsAs s ws ws r (Ok None)
unfolding EndsAs where_in Goes ending finish final_in live_in
ends-done s ws r e t = (rw t, e, refl)

pub ends-opened : (s ws u v : List ℕ) (r : Run) (x : Result (Option Run) Refusal) (b : Bool) → r.validating ≡ false → FactsOnly s ws u → b ≡ moved (live_in s ws r.changed)
    → live_in s u false ≡ opened (closed (live_in s ws r.changed)) → Opened s u v (not b) r.steps x → EndsAs s ws v r x
unfolding EndsAs Opened ending end_round
ends-opened s ws u v r x b t f m l (w, g, n) =
    let z : room_in s u ≡ room_in s ws = ap (λ (k : ℕ). k - words_of (module_of s)) f.steady.kept.long in
    (w ∙ rw (t, z, l, m), g, n ∙ f.steady.kept.long)

-- ---- on from a chunk
pub low-after : (s ws : List ℕ) (r : Run) → Between s ws r → LowBefore s ws (r.chunk + 1)
unfolding LowBefore
low-after s ws r x k l e = below_more (λ (j : ℕ). (chunk_no (module_of s) j).reachable ≡ true → Low s ws j) r.chunk (λ j m q. x.before j m q) (λ q. x.low) k l e

module _ (s ws : List ℕ) (r : Run) (x : Between s ws r) (n : ℕ) (y : NextReachable s (r.chunk + 1) n) where
  -- the states of this chunk are the last of those before the next
  goes-from : onward (analysis_in s ws) (machine_in s ws r) none
      ≡ enter (analysis_in s ws) r.validating (ending (analysis_in s ws) r.validating) (r.chunk + 1) (live_in s ws r.changed) (past_in s ws (r.chunk + 1))
      (drop (r.chunk + 1) (module_of s).chunks)
  unfolding onward machine_in
  goes-from = rw (add-one r.chunk, past_more s ws r.chunk, x.reachable)

  pub goes-due : (v : List ℕ) (q : Run) → n < length (module_of s).chunks → Began s ws v n r.validating r.changed r.steps q → GoesOn s ws v r (Ok (Some q))
  unfolding GoesOn where_in Goes
  goes-due v q h b = (
    ap due b.machine
        ∙ sym (enters-due s ws r.validating (ending (analysis_in s ws) r.validating) r.changed (r.chunk + 1) n y h)
        ∙ sym goes-from,
    (b.between, b.due, b.same-steps),
    b.long,
  )

  pub goes_end : (v : List ℕ) (o : Result (Option Run) Refusal) → length (module_of s).chunks ≤ n → EndsAs s ws v r o → GoesOn s ws v r o
  unfolding GoesOn EndsAs
  goes_end v o h (w, g, l) = (
    w
        ∙ sym (enters_none s ws r.validating (ending (analysis_in s ws) r.validating) (live_in s ws r.changed) (r.chunk + 1) n y h)
        ∙ sym goes-from,
    g,
    l,
  )

  pub goes-low : LowBefore s ws n
  goes-low = low-reached s ws (r.chunk + 1) n y (low-after s ws r x)

  pub goes-ended : length (module_of s).chunks ≤ n → Ended s ws
  goes-ended h = let e : n ≡ length (module_of s).chunks = omega (arith, y.high) in record { prepared = x.prepared; low = rw e at goes-low }

-- ---- the queue is empty
pub settles-rounds : (s ws v : List ℕ) (r : Run) (x : Result (Option Run) Refusal) → r.validating ≡ false → GoesOn s ws v r x → Onward s ws v r x
unfolding Onward GoesOn settle
settles-rounds s ws v r x t (w, g, l) = (w ∙ rw t, g, l)

module _ (s ws : List ℕ) (r : Run) (t : r.validating ≡ true) (y : Result (Unit {0}) Refusal) (i : Inspected s ws r.chunk r.steps y) where
  pub settles-validated : (v : List ℕ) (x : Result (Option Run) Refusal) → y ≡ Ok tt → GoesOn s ws v r x → Onward s ws v r x
  unfolding Onward GoesOn settle machine_in fault_told
  settles-validated v x e (w, g, l) =
      let z : after_chunk (chunk_no (module_of s) r.chunk) (states_in s ws r.chunk) ≡ none = i.fault ∙ ap fault_told e in
      (w ∙ rw (t, z), g, l)

  pub settles-stop : (f : Refusal) → y ≡ Err f → Onward s ws ws r (Err f)
  unfolding Onward where_in Goes settle onward machine_in fault_told
  settles-stop f e =
      let z : after_chunk (chunk_no (module_of s) r.chunk) (states_in s ws r.chunk) ≡ some (f.number, f.instruction) = i.fault ∙ ap fault_told e in
      (rw (t, z, i.place f e), i.same-steps f e, refl)
