-- The form of a description is refused by 1 to 4.
use Prim.Native.Nat.{ℕ, ◌+◌, ◌<◌, ◌≤◌}
use native.Mathlib.Omega.{arith}
use mathlib.Core.Path.{◌≡◌, refl}
use mathlib.Core.Bool.{Bool, true, false, cond, ◌&&◌, ◌||◌}
use mathlib.Core.List.{List, [], ◌∷◌}
use lib.Dec.{eqb, ltb}
use lib.ListN.{length}
use Rattle.std.proofs.Common.{Result, Ok, Err}
use Rattle.answers.specs.Answers.{in_field}
use Rattle.answers.specs.declared.Refusal.{Refusal}
use Rattle.description.specs.Fields.{tag_at, next_at, fields_from}
use Rattle.description.specs.declared.Header.{Header}
use Rattle.description.specs.declared.ChunkHead.{ChunkHead}
use Rattle.description.specs.declared.Instr.{Instr}
use Rattle.definition.specs.declared.Scan.{Scan}
use Rattle.definition.specs.Form.{lowest, header_fault, chunk_fault, instr_fault, site_fault, table_fault, or_stop, header_step, chunk_step, instr_step, site_step, table_step, field_step, late_fault, late_look, after_look, finished, on_step, scan_from, unscanned, form_of}
use Rattle.refusal_laws.proofs.Only.{either, OfFault, OfStep, OfForm, there}
use Rattle.refusal_laws.proofs.Numbers.{Early}

-- `lowest` and `or_stop` shut, so that a rewrite finds their arguments
unfoldable faults : Bool → Bool → Bool → Bool → ℕ
faults a b c d = lowest a b c d

is-faults : (a b c d : Bool) → lowest a b c d ≡ faults a b c d
unfolding faults
is-faults a b c d = refl

lowest-fault : (a b c d : Bool) → OfFault Early (faults a b c d)
unfolding faults
lowest-fault a b c d =
    either (OfFault Early) a (omega arith, omega arith)
    (either (OfFault Early) b (omega arith, omega arith)
    (either (OfFault Early) c (omega arith, omega arith) (either (OfFault Early) d (omega arith, omega arith) tt)))

-- ---- the steps of the walk
unfoldable stopping : ℕ → Refusal → Scan → Result Scan Refusal
stopping n r t = or_stop n r t

is-stopping : (n : ℕ) (r : Refusal) (t : Scan) → or_stop n r t ≡ stopping n r t
unfolding stopping
is-stopping n r t = refl

or-stop : (n : ℕ) (r : Refusal) (t : Scan) → OfFault Early n → r.number ≡ n → OfStep Early (stopping n r t)
unfolding stopping
or-stop n r t l e = go (eqb n 0) refl
  where
    go : (b : Bool) → eqb n 0 ≡ b → OfStep Early (cond b (Ok t) (Err r))
    go true h = tt
    go false h = rw e (there Early n l h)

in_field_lem : (n c i : ℕ) → (in_field n c i).number ≡ n
unfolding in_field
in_field_lem n c i = either (λ (r : Refusal). r.number ≡ n) (ltb n 3) refl refl

header-fault : (due : Bool) (len : ℕ) (h : Header) → OfFault Early (header_fault due len h)
unfolding header_fault
header-fault due len h = rw is-faults (lowest-fault _ _ _ _)

header-step : (s : List ℕ) (p : ℕ) (t : Scan) → OfStep Early (header_step s p t)
unfolding header_step
header-step s p t = rw is-stopping (or-stop _ _ _ (header-fault _ _ _) refl)

chunk-fault : (s : List ℕ) (p : ℕ) (due : Bool) (len : ℕ) (signed : Bool) (h : ChunkHead) → OfFault Early (chunk_fault s p due len signed h)
unfolding chunk_fault
chunk-fault s p due len signed h = rw is-faults (lowest-fault _ _ _ _)

chunk-step : (s : List ℕ) (p : ℕ) (t : Scan) → OfStep Early (chunk_step s p t)
unfolding chunk_step
chunk-step s p t = rw is-stopping (or-stop _ _ _ (chunk-fault _ _ _ _ _ _) (in_field_lem _ _ _))

instr-fault : (due : Bool) (len : ℕ) (i : Instr) (t : Scan) → OfFault Early (instr_fault due len i t)
unfolding instr_fault
instr-fault due len i t = rw is-faults (lowest-fault _ _ _ _)

instr-step : (s : List ℕ) (p : ℕ) (t : Scan) → OfStep Early (instr_step s p t)
unfolding instr_step
instr-step s p t = rw is-stopping (or-stop _ _ _ (instr-fault _ _ _ _) (in_field_lem _ _ _))

site-fault : (s : List ℕ) (p : ℕ) (due : Bool) (len : ℕ) → OfFault Early (site_fault s p due len)
unfolding site_fault
site-fault s p due len = rw is-faults (lowest-fault _ _ _ _)

site-step : (s : List ℕ) (p : ℕ) (t : Scan) → OfStep Early (site_step s p t)
unfolding site_step
site-step s p t = rw is-stopping (or-stop _ _ _ (site-fault _ _ _ _) refl)

table-fault : (s : List ℕ) (p tag : ℕ) (due : Bool) (len count : ℕ) → OfFault Early (table_fault s p tag due len count)
unfolding table_fault
table-fault s p tag due len count =
    simp is-faults
    (either (OfFault Early) (eqb tag 5) (lowest-fault _ _ _ _)
    (either (OfFault Early) (eqb tag 6) (lowest-fault _ _ _ _) (either (OfFault Early) (eqb tag 7) (lowest-fault _ _ _ _) (lowest-fault _ _ _ _))))

table_step_lem : (s : List ℕ) (p tag : ℕ) (t : Scan) → OfStep Early (table_step s p tag t)
unfolding table_step
table_step_lem s p tag t = rw is-stopping (or-stop _ _ _ (table-fault _ _ _ _ _ _) refl)

one : Early 1
one = (omega arith, omega arith)

field_step_lem : (s : List ℕ) (p : ℕ) (t : Scan) → OfStep Early (field_step s p t)
unfolding field_step
field_step_lem s p t =
    either (OfStep Early) (ltb (length s) (next_at s p)) one
    (either (OfStep Early) (eqb (tag_at s p) 1) (header-step s p t)
    (either (OfStep Early) (eqb (tag_at s p) 2) (chunk-step s p t)
    (either (OfStep Early) (eqb (tag_at s p) 3) (instr-step s p t)
    (either (OfStep Early) (eqb (tag_at s p) 4) (site-step s p t)
    (either (OfStep Early) (ltb 4 (tag_at s p) && ltb (tag_at s p) 9) (table_step_lem s p (tag_at s p) t) one)))))

-- ---- the late looks
late-fault : (s params : List ℕ) (c i : ℕ) (ps : List ℕ) → OfFault Early (late_look s params c i ps).number
unfolding late_look
late-fault s params c i [] = tt
late-fault s params c i (p ∷ ps) =
    either (λ (r : Refusal). OfFault Early r.number) (eqb (tag_at s p) 2) (late-fault s params (c + 1) 0 ps)
    (either (λ (r : Refusal). OfFault Early r.number) (eqb (tag_at s p) 3)
    (either (λ (r : Refusal). OfFault Early r.number) (late_fault s params p) (omega arith, omega arith) (late-fault s params c (i + 1) ps))
    (late-fault s params c i ps))

after_look_lem : (r : Refusal) (w : ℕ) → OfFault Early r.number → OfForm Early (after_look r w)
unfolding after_look
after_look_lem r w l = go (eqb r.number 0) refl
  where
    go : (b : Bool) → eqb r.number 0 ≡ b → OfForm Early (cond b (Ok w) (Err r))
    go true h = tt
    go false h = there Early r.number l h

-- ---- the whole
on_step_lem : (x : Result Scan Refusal) (k : Scan → Result ℕ Refusal) → OfStep Early x → ((u : Scan) → OfForm Early (k u)) → OfForm Early (on_step x k)
unfolding on_step
on_step_lem (Ok u) k h more = more u
on_step_lem (Err r) k h more = h

scan-form : (s ps : List ℕ) (t : Scan) → OfForm Early (scan_from s ps t)
unfolding scan_from finished
scan-form s [] t = either (OfForm Early) (eqb t.place 0 || ltb t.seen t.chunks) one (after_look_lem _ _ (late-fault s _ 0 0 (fields_from s 0)))
scan-form s (p ∷ ps) t = on_step_lem (field_step s p t) _ (field_step_lem s p t) (λ u. scan-form s ps u)

pub form-early : (s : List ℕ) → OfForm Early (form_of s)
unfolding form_of
form-early s = either (OfForm Early) (ltb 1048576 (length s)) (omega arith, omega arith) (scan-form s (fields_from s 0) unscanned)

-- THEOREM
pub form-numbers : (s : List ℕ) (r : Refusal) → form_of s ≡ Err r → (0 < r.number) × (r.number ≤ 4)
form-numbers s r e = rw e at (form-early s)
