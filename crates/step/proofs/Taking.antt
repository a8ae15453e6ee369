-- One taking by what it puts, and by what refuses it.
use Prim.Native.Nat.{ℕ, zero, suc}
use native.Mathlib.Omega.{arith}
use mathlib.Core.Path.{◌≡◌, refl, sym, ap, ◌∙◌}
use mathlib.Core.Bool.{Bool, cond}
use mathlib.Core.Option.{none, some}
use mathlib.Core.List.{List}
use lib.ListN.{get_or}
use Rattle.ring.specs.declared.Queue.{Queue}
use Rattle.ring.specs.Ring.{queue_of}
use Rattle.definition.specs.Res.{Res, ok, bad, bind}
use Rattle.definition.specs.Machine.{Effect, Work, Seen, puts, visit, visit_at, adds}
use Rattle.definition.specs.Module.{module_of}
use Rattle.definition.specs.State.{State, Live, Gift, join}
use Rattle.definition.specs.Outputs.{Visit}
use Rattle.definition.specs.Wants.{unfit}
use Rattle.definition.specs.Ways.{leaving}
use Rattle.definition.specs.Leaves.{visit_of, always, gives, unless, height_fault, visited, leaves}
use Rattle.form_laws.specs.Good.{chunk_no, words_of}
use Rattle.layout.specs.Layout.{row_at}
use Rattle.row_join.specs.joining.Leave.{state_by, state_in}
use Rattle.visit.specs.declared.RowVisit.{RowVisit}
use Rattle.visit.specs.Held.{live_in, known_in, Looking, state_of, visit_in}
use Rattle.run_state.specs.declared.Run.{Run}
use Rattle.run_state.specs.Course.{states_in, work_in, room_in, known_as, analysis_in}
use Rattle.run_state.proofs.Rows.{states-at}
use Rattle.step.specs.Taking.{fault_of, first, taking_of}

unless-first : {A : Type 0} (a b c : ℕ) (r : Res A) → unless a (unless b (unless c r)) ≡ unless (first a (first b c)) r
unless-first zero zero c r = refl
unless-first zero (suc b) c r = refl
unless-first (suc a) b c r = refl

abbrev pub effect_of : Visit → Effect State Gift
effect_of x = record { ways = leaving x; gives = gives x }

visited-by : (validating : Bool) (x : Visit) → visited validating x ≡ unless (fault_of validating x) (ok (effect_of x))
unfolding visited fault_of
visited-by validating x = unless-first (always x) (cond validating (unfit x) 0) (height_fault x) (ok (effect_of x))

-- ---- the taking, by its fault and by what it puts
module _ (s ws : List ℕ) (r : Run) (v : RowVisit) (q : Queue) (look : Looking s ws v) (same : v.chunk ≡ r.chunk) (known : known_in s ws ≡ known_as s) where
  abbrev pub visit_here : Visit
  visit_here = visit_in s ws v

  abbrev pub facts_here : Live
  facts_here = live_in s ws r.changed

  state-there : get_or (states_in s ws r.chunk) v.at none ≡ some (state_of s ws v)
  unfolding state_in state_by state_of
  state-there =
      let e : get_or ws (row_at (module_of s) v.chunk v.at) 0 ≡ suc v.height = omega (arith, look.height) in
      rw (sym same)
      (states-at s v.chunk ws v.at look.at
      ∙ ap (state_by ws (row_at (module_of s) v.chunk v.at) (chunk_no (module_of s) v.chunk).stack (chunk_no (module_of s) v.chunk).locals) e
      ∙ ap (λ (at : ℕ). state_by ws at (chunk_no (module_of s) v.chunk).stack (chunk_no (module_of s) v.chunk).locals (suc v.height)) (sym look.row))

  leaves-here : leaves (known_as s) r.validating (chunk_no (module_of s) r.chunk) facts_here.known v.at (state_of s ws v)
      ≡ unless (fault_of r.validating visit_here) (ok (effect_of visit_here))
  unfolding leaves visit_in live_in
  leaves-here =
      (λ i. visited r.validating (visit_of (sym known i) (chunk_no (module_of s) (sym same i)) facts_here.known v.at (state_of s ws v)))
      ∙ visited-by r.validating visit_here

  abbrev on_put : Res (Work State) → Res (Seen Live State)
  on_put w = bind w (λ w. ok (record { facts = adds (analysis_in s ws) r.validating facts_here (gives visit_here); work = w }))

  taking-is : taking_of s ws r q v.at
      ≡ bind (unless (fault_of r.validating visit_here) (ok (effect_of visit_here))) (λ e.
      bind (puts join (room_in s ws) (work_in s ws v.chunk q) e.ways) (λ w.
      ok (record { facts = adds (analysis_in s ws) r.validating facts_here e.gives; work = w })))
  unfolding taking_of visit visit_at work_in
  taking-is =
      ap (visit_at join (room_in s ws) (λ (y : Live). y.known) (adds (analysis_in s ws) r.validating) (leaves (known_as s) r.validating (chunk_no (module_of s) r.chunk)) facts_here (states_in s ws r.chunk) (queue_of ws (words_of (module_of s)) q) v.at) state-there
      ∙ (λ i. bind (leaves-here i) (λ e.
      bind (puts join (room_in s ws) (record { states = states_in s ws (sym same i); queue = queue_of ws (words_of (module_of s)) q }) e.ways) (λ w.
      ok (record { facts = adds (analysis_in s ws) r.validating facts_here e.gives; work = w }))))

  -- by the number that refuses it, and by what the ways put
  taking-by : (n : ℕ) → fault_of r.validating visit_here ≡ n
      → taking_of s ws r q v.at ≡ unless n (on_put (puts join (room_in s ws) (work_in s ws v.chunk q) (leaving visit_here)))
  taking-by zero e = taking-is ∙ rw e
  taking-by (suc n) e = taking-is ∙ rw e

  pub taking-faulty : (n : ℕ) → fault_of r.validating visit_here ≡ n → (n ≡ 0 → ⊥) → taking_of s ws r q v.at ≡ bad n
  taking-faulty zero e d = absurd (d refl)
  taking-faulty (suc n) e d = taking-by (suc n) e

  module _ (fine : fault_of r.validating visit_here ≡ 0) where
    pub taking-stops : (n : ℕ) → puts join (room_in s ws) (work_in s ws v.chunk q) (leaving visit_here) ≡ bad n → taking_of s ws r q v.at ≡ bad n
    taking-stops n e = taking-by 0 fine ∙ ap on_put e

    pub taking-goes : (w : Work State) → puts join (room_in s ws) (work_in s ws v.chunk q) (leaving visit_here) ≡ ok w
        → taking_of s ws r q v.at ≡ ok (record { facts = adds (analysis_in s ws) r.validating (live_in s ws r.changed) (gives (visit_in s ws v)); work = w })
    taking-goes w e = taking-by 0 fine ∙ ap on_put e
