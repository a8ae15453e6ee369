-- An accepted run has validated every state that it leaves: no recorded visit is refused, in whatever mode.
use Prim.Native.Nat.{ℕ, zero, suc, ◌+◌, ◌<◌}
use native.Mathlib.Omega.{arith}
use mathlib.Core.Path.{◌≡◌, sym, ap, ◌∙◌}
use mathlib.Core.Bool.{true, cond}
use mathlib.Core.Option.{none, some}
use mathlib.Core.List.{List, [], ◌∷◌}
use lib.ListN.{length, get_or}
use Rattle.words.specs.Rows.{cells_at}
use Rattle.definition.specs.Machine.{accepted}
use Rattle.definition.specs.Module.{module_of}
use Rattle.definition.specs.Leaves.{Known, always, visit_of}
use Rattle.definition.specs.Start.{first_facts, known_of}
use Rattle.definition.specs.Call.{run_of}
use Rattle.form_laws.specs.Good.{no_chunk, chunk_no}
use Rattle.form_laws.proofs.Each.{row-at}
use Rattle.layout.specs.Layout.{row_at, locals_at, stack_at}
use Rattle.row_join.specs.joining.Leave.{state_by, state_in}
use Rattle.visit.specs.declared.RowVisit.{RowVisit}
use Rattle.visit.specs.Held.{facts_in, Looking, state_of, visit_in}
use Rattle.run_state.specs.Course.{states_in, past_in, final_in, known_as, Ended}
use Rattle.run_state.proofs.Rows.{states-at}
use Rattle.machine_laws.proofs.Sweep.{Each, none_left, one_more}
use Rattle.consistent.proofs.Sound.{run_sound}
use Rattle.consistent.proofs.Visits.{accepted as visit-accepted}
use Rattle.report_size.specs.Reporting.{Faultless}

each_at : {C D : Type 0} (P : C → D → Type 0) (c : C) (d : D) (cs : List C) (ds : List D) (n : ℕ) → Each P cs ds → n < length cs → P (get_or cs n c) (get_or ds n d)
each_at P c d [] [] n none_left h = absurd (omega arith)
each_at P c d (x ∷ cs) (y ∷ ds) zero (one_more p e) h = p
each_at P c d (x ∷ cs) (y ∷ ds) (suc n) (one_more p e) h = each_at P c d cs ds n e (omega arith)
each_at {C = C} {D = D} P c d [] (y ∷ ds) n x4 h = elim x4 [ ]
each_at {C = C} {D = D} P c d (x ∷ cs) [] n x5 h = elim x5 [ ]

module _ (s ws : List ℕ) where
  -- the states of a reachable chunk
  past-at : (n : ℕ) → n < length (module_of s).chunks → (chunk_no (module_of s) n).reachable ≡ true
      → get_or (past_in s ws (length (module_of s).chunks)) n [] ≡ states_in s ws n
  unfolding past_in
  past-at n h r =
      let z : 0 + n ≡ n = omega arith in
      row-at (λ k. cond (chunk_no (module_of s) k).reachable (states_in s ws k) []) [] 0 (length (module_of s).chunks) n h
      ∙ ap (λ (k : ℕ). cond (chunk_no (module_of s) k).reachable (states_in s ws k) []) z ∙ rw r

  -- the state that a visit has in its row
  state-is : (v : RowVisit) → Looking s ws v → get_or (states_in s ws v.chunk) v.at none ≡ some (state_of s ws v)
  unfolding state_in state_by state_of
  state-is v x =
      let c = chunk_no (module_of s) v.chunk in
      let h : get_or ws (row_at (module_of s) v.chunk v.at) 0 ≡ suc v.height = omega (arith, x.height) in
      states-at s v.chunk ws v.at x.at
      ∙ ap (state_by ws (row_at (module_of s) v.chunk v.at) c.stack c.locals) h
      ∙ ap (λ (p : ℕ). some (record { stack = cells_at ws (stack_at p) v.height; locals = cells_at ws (locals_at p c.stack) c.locals })) (sym x.row)

  -- THEOREM
  pub run-faultless : (cap limit n : ℕ) → Ended s ws → run_of (known_as s) cap limit (first_facts (module_of s)) ≡ accepted (final_in s ws) n → Faultless s ws
  unfolding Faultless visit_in chunk_no final_in known_of
  run-faultless cap limit n ended h v x r =
      let c = chunk_no (module_of s) v.chunk in
      let all = run_sound (known_as s) cap limit (first_facts (module_of s)) (final_in s ws) n h in
      let fixes = (each_at _ no_chunk [] _ _ v.chunk all x.chunk).0 r in
      let held = (rw (past-at v.chunk x.chunk r) at fixes).held v.at (state_of s ws v) (state-is v x) in
      let fits = (visit-accepted (known_as s) true c (facts_in s ws) v.at (state_of s ws v) held.out held.leaving).fits in
      ap (λ (k : Known). always (visit_of k c (facts_in s ws) v.at (state_of s ws v))) ended.prepared.known ∙ fits
