-- An accepted report is one that can be read back from its bytes.
use Prim.Native.Nat.{ℕ, suc, ◌-◌}
use native.Mathlib.Omega.{arith}
use mathlib.Core.Path.{◌≡◌, refl, sym, ◌∙◌}
use mathlib.Core.Bool.{Bool, true, false, cond}
use mathlib.Core.Option.{Option, none, some}
use mathlib.Core.List.{List, [], ◌∷◌}
use lib.Dec.{leb}
use Rattle.std.proofs.Common.{Result, Ok, Err}
use Rattle.answers.specs.declared.Refusal.{Refusal}
use Rattle.masks.specs.declared.Mask.{Mask}
use Rattle.flows.specs.declared.Flow.{Flow}
use Rattle.cells.specs.declared.Cell.{Cell}
use Rattle.machine_laws.proofs.All.{All, nil, cons, all_append, all-get, Opt}
use Rattle.definition.specs.Machine.{Final, Ran, accepted, refused}
use Rattle.definition.specs.Module.{Module, Chunk, module_of}
use Rattle.definition.specs.State.{State, Facts}
use Rattle.definition.specs.Outputs.{outputs}
use Rattle.definition.specs.Leaves.{Known, visit_of}
use Rattle.definition.specs.Form.{form_of}
use Rattle.definition.specs.Start.{first_facts, overfull, known_of}
use Rattle.definition.specs.Report.{Report, signatures_from, slot_cells, placed, record_from, record_of, from_state, from_states, from_chunks, report_of, report_bytes}
use Rattle.definition.specs.Call.{Decided, reported, turned, run_of, on_ran, admitted_run, on_reply, known, on_admitted, decided, on_form, decide}
use Rattle.report_laws.specs.Read.{read_report}
use Rattle.report_laws.proofs.Cells.{Sayable, ProperFlow, Proper}
use Rattle.report_laws.proofs.Back.{ProperSignature, ProperRecord, ProperReport, read_back}
use Rattle.report_laws.proofs.Kept.{flow-none, cell-none}
use Rattle.report_laws.proofs.Runs.{ProperState, ProperFacts, made-proper, first-naming, reply-naming, run-proper}

-- ---- from proper facts and states a proper report
signatures-proper : (n : ℕ) {iss : List (List Cell)} {rs : List Cell} → All (All Proper) iss → All Proper rs → All ProperSignature (signatures_from n iss rs)
unfolding signatures_from
signatures-proper n nil q = nil
signatures-proper n (cons p ps) q = cons (record { inputs = p; result = all-get Proper n cell-none q }) (signatures-proper (suc n) ps q)

slots-proper : (ms : List Mask) {ws : List Flow} → All ProperFlow ws → All Proper (slot_cells ms ws)
unfolding slot_cells
slots-proper [] a = nil
slots-proper (m ∷ ms) nil = cons flow-none (slots-proper ms nil)
slots-proper (m ∷ ms) (cons p a) = cons p (slots-proper ms a)

placed-proper : (n : ℕ) {cs : List Cell} → All Proper cs → All (λ o. Proper o.cell) (placed n cs)
unfolding placed
placed-proper n nil = nil
placed-proper n (cons p a) = cons p (placed-proper (suc n) a)

record-proper : (k : Known) (c : Chunk) (f : Facts) (i : ℕ) (s : State) → Proper k.reply → ProperFacts f → ProperState s → ProperRecord (record_of k c f i s)
unfolding record_of record_from
record-proper k c f i s r p q = record {
  stack = q.stack;
  locals = q.locals;
  outputs = placed-proper _ (made-proper k c f i s _ r p q);
}

module _ {A : Type 0} (Q : A → Type 0) where
  states-give : (g : ℕ → State → List A) → ((i : ℕ) (s : State) → ProperState s → All Q (g i s)) → (i : ℕ) {ss : List (Option State)} → All (Opt ProperState) ss
      → All Q (from_states g i ss)
  unfolding from_states from_state
  states-give g h i nil = nil
  states-give g h i (cons {x = none} p a) = states-give g h (suc i) a
  states-give g h i (cons {x = some s} p a) = all_append Q (h i s p) (states-give g h (suc i) a)

  chunks-give : (g : Chunk → ℕ → State → List A) → ((c : Chunk) (i : ℕ) (s : State) → ProperState s → All Q (g c i s)) → (cs : List Chunk) {sss : List (List (Option State))}
      → All (All (Opt ProperState)) sss → All Q (from_chunks g cs sss)
  unfolding from_chunks
  chunks-give g h [] a = nil
  chunks-give g h (c ∷ cs) nil = nil
  chunks-give g h (c ∷ cs) (cons p a) = all_append Q (states-give (g c) (h c) 0 p) (chunks-give g h cs a)

report-proper : (k : Known) (n : ℕ) (x : Final Facts State) → Proper k.reply → ProperFacts x.facts → All (All (Opt ProperState)) x.states → ProperReport (report_of k n x)
unfolding report_of
report-proper k n x r p q = record {
  signatures = signatures-proper 0 p.inputs p.results;
  slots = slots-proper x.facts.masks p.flows;
  records = chunks-give ProperRecord (λ c i s. record_of k c x.facts i s ∷ []) (λ c i s h. cons (record-proper k c x.facts i s r p h) nil) k.code.chunks q;
}

-- ---- the call
turned≢reported : {r : Refusal} {x : Report} {n : ℕ} → turned r ≡ reported x n → ⊥
turned≢reported e = let z : ◌≡◌ {A = ℕ} 0 1 = cc in omega arith

ran-proper : (k : Known) (m n : ℕ) (o : Ran Facts State) (r : Report) → Proper k.reply
    → ((x : Final Facts State) (j : ℕ) → o ≡ accepted x j → ProperFacts x.facts × All (All (Opt ProperState)) x.states) → on_ran k m o ≡ reported r n → ProperReport r
unfolding on_ran
ran-proper k m n (accepted x j) r p h e =
    let q : report_of k m x ≡ r = cc in
    rw (← q) (report-proper k m x p (h x j refl).0 (h x j refl).1)
ran-proper k m n (refused x) r p h e = absurd (turned≢reported e)

if-reported : (b : Bool) (x y : Decided) {r : Report} {n : ℕ} (z : Refusal) → x ≡ turned z → cond b x y ≡ reported r n → y ≡ reported r n
if-reported true x y z e h = absurd (turned≢reported (sym e ∙ h))
if-reported false x y z e h = h

-- after 11 and 12
reply-by : (k : Known) (cap limit n : ℕ) (f : Facts) (o : Option ℕ) (r : Report) → Proper k.reply → ProperFacts f → on_reply k cap limit f o ≡ reported r n → ProperReport r
unfolding on_reply admitted_run
reply-by k cap limit n f none r p q e = absurd (turned≢reported e)
reply-by k cap limit n f (some m) r p q e =
    ran-proper k m n (run_of k cap limit f) r p (λ x j h. run-proper k cap limit j f x p q h) (if-reported (overfull k.code) _ _ _ refl e)

-- after 9 and 10
admitted-proper : (m : Module) (cap limit n : ℕ) (o : Option (ℕ × ℕ)) (r : Report) → on_admitted m cap limit o ≡ reported r n → ProperReport r
unfolding on_admitted known
admitted-proper m cap limit n (some x) r e = absurd (turned≢reported e)
admitted-proper m cap limit n none r e =
    reply-by (known_of m (first_facts m)) cap limit n (first_facts m) _ r (reply-naming Sayable m (first_facts m) (first-naming Sayable m)) (first-naming Sayable m) e

-- after 1 to 5
form-proper : (s : List ℕ) (words limit n : ℕ) (f : Result ℕ Refusal) (r : Report) → on_form s words limit f ≡ reported r n → ProperReport r
unfolding on_form decided
form-proper s words limit n (Err x) r e = absurd (turned≢reported e)
form-proper s words limit n (Ok w) r e = admitted-proper (module_of s) (words - w) limit n _ r (if-reported (leb words w) _ _ _ refl e)

-- every report that the definition decides on is proper, and so read back from its bytes
pub decided-proper : (s : List ℕ) (words limit n : ℕ) (r : Report) → decide s words limit ≡ reported r n → ProperReport r
unfolding decide
decided-proper s words limit n r e = form-proper s words limit n (form_of s) r e

pub decided-back : (s : List ℕ) (words limit n : ℕ) (r : Report) → decide s words limit ≡ reported r n → read_report (report_bytes r) ≡ r
decided-back s words limit n r e = read_back r (decided-proper s words limit n r e)
