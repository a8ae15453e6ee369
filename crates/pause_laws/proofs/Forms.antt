-- A refusal of the form has taken no step.
use Prim.Native.Nat.{ℕ, ◌+◌}
use mathlib.Core.Path.{◌≡◌, refl}
use mathlib.Core.Bool.{Bool, ◌&&◌, ◌||◌}
use mathlib.Core.List.{List, [], ◌∷◌}
use lib.Dec.{eqb, ltb}
use lib.ListN.{length}
use Rattle.std.proofs.Common.{Result, Ok, Err}
use Rattle.answers.specs.Answers.{in_field}
use Rattle.answers.specs.declared.Refusal.{Refusal}
use Rattle.description.specs.Fields.{tag_at, next_at, fields_from}
use Rattle.definition.specs.declared.Scan.{Scan}
use Rattle.definition.specs.Form.{or_stop, header_step, chunk_step, instr_step, site_step, table_step, field_step, late_fault, late_look, after_look, finished, on_step, scan_from, unscanned, form_of}
use Rattle.refusal_laws.proofs.Only.{either}

-- nothing was taken
unfoldable Still : Result ℕ Refusal → Type 0
Still (Ok w) = Unit {0}
Still (Err r) = r.steps ≡ 0

unfoldable StillStep : Result Scan Refusal → Type 0
StillStep (Ok t) = Unit {0}
StillStep (Err r) = r.steps ≡ 0

go_on : (t : Scan) → StillStep (Ok t)
unfolding StillStep
go_on t = tt

stopped : (r : Refusal) → r.steps ≡ 0 → StillStep (Err r)
unfolding StillStep
stopped r e = e

-- `or_stop` shut, so that a rewrite finds its arguments
unfoldable stopping : ℕ → Refusal → Scan → Result Scan Refusal
stopping n r t = or_stop n r t

is-stopping : (n : ℕ) (r : Refusal) (t : Scan) → or_stop n r t ≡ stopping n r t
unfolding stopping
is-stopping n r t = refl

or-stop : (n : ℕ) (r : Refusal) (t : Scan) → r.steps ≡ 0 → StillStep (stopping n r t)
unfolding stopping
or-stop n r t e = either StillStep (eqb n 0) (go_on t) (stopped r e)

in_field_lem : (n c i : ℕ) → (in_field n c i).steps ≡ 0
unfolding in_field
in_field_lem n c i = either (λ (r : Refusal). r.steps ≡ 0) (ltb n 3) refl refl

header-step : (s : List ℕ) (p : ℕ) (t : Scan) → StillStep (header_step s p t)
unfolding header_step
header-step s p t = rw is-stopping (or-stop _ _ _ refl)

chunk-step : (s : List ℕ) (p : ℕ) (t : Scan) → StillStep (chunk_step s p t)
unfolding chunk_step
chunk-step s p t = rw is-stopping (or-stop _ _ _ (in_field_lem _ _ _))

instr-step : (s : List ℕ) (p : ℕ) (t : Scan) → StillStep (instr_step s p t)
unfolding instr_step
instr-step s p t = rw is-stopping (or-stop _ _ _ (in_field_lem _ _ _))

site-step : (s : List ℕ) (p : ℕ) (t : Scan) → StillStep (site_step s p t)
unfolding site_step
site-step s p t = rw is-stopping (or-stop _ _ _ refl)

table_step_lem : (s : List ℕ) (p tag : ℕ) (t : Scan) → StillStep (table_step s p tag t)
unfolding table_step
table_step_lem s p tag t = rw is-stopping (or-stop _ _ _ refl)

field_step_lem : (s : List ℕ) (p : ℕ) (t : Scan) → StillStep (field_step s p t)
unfolding field_step
field_step_lem s p t =
    either StillStep (ltb (length s) (next_at s p)) (stopped _ refl)
    (either StillStep (eqb (tag_at s p) 1) (header-step s p t)
    (either StillStep (eqb (tag_at s p) 2) (chunk-step s p t)
    (either StillStep (eqb (tag_at s p) 3) (instr-step s p t)
    (either StillStep (eqb (tag_at s p) 4) (site-step s p t)
    (either StillStep (ltb 4 (tag_at s p) && ltb (tag_at s p) 9) (table_step_lem s p (tag_at s p) t) (stopped _ refl))))))

late-look : (s params : List ℕ) (c i : ℕ) (ps : List ℕ) → (late_look s params c i ps).steps ≡ 0
unfolding late_look
late-look s params c i [] = refl
late-look s params c i (p ∷ ps) =
    either (λ (r : Refusal). r.steps ≡ 0) (eqb (tag_at s p) 2) (late-look s params (c + 1) 0 ps)
    (either (λ (r : Refusal). r.steps ≡ 0) (eqb (tag_at s p) 3)
    (either (λ (r : Refusal). r.steps ≡ 0) (late_fault s params p) refl (late-look s params c (i + 1) ps))
    (late-look s params c i ps))

after_look_lem : (r : Refusal) (w : ℕ) → r.steps ≡ 0 → Still (after_look r w)
unfolding after_look Still
after_look_lem r w e = either Still (eqb r.number 0) tt e

on_step_lem : (x : Result Scan Refusal) (k : Scan → Result ℕ Refusal) → StillStep x → ((u : Scan) → Still (k u)) → Still (on_step x k)
unfolding on_step StillStep Still
on_step_lem (Ok u) k h more = more u
on_step_lem (Err r) k h more = h

scan-form : (s ps : List ℕ) (t : Scan) → Still (scan_from s ps t)
unfolding scan_from finished Still
scan-form s [] t = either Still (eqb t.place 0 || ltb t.seen t.chunks) refl (after_look_lem _ _ (late-look s _ 0 0 (fields_from s 0)))
scan-form s (p ∷ ps) t = on_step_lem (field_step s p t) _ (field_step_lem s p t) (λ u. scan-form s ps u)

form-still : (s : List ℕ) → Still (form_of s)
unfolding form_of Still
form-still s = either Still (ltb 1048576 (length s)) refl (scan-form s (fields_from s 0) unscanned)

pub form-steps : (s : List ℕ) (r : Refusal) → form_of s ≡ Err r → r.steps ≡ 0
unfolding Still
form-steps s r e = rw e at (form-still s)
