-- A call is refused by 1 to 18, leaves the report buffer as it was then, and the workspace by the number; an accepted one leaves zeros.
use Prim.Native.Nat.{ℕ, ◌-◌, ◌<◌, ◌≤◌}
use native.Mathlib.Omega.{arith}
use mathlib.Core.Path.{◌≡◌, refl}
use mathlib.Core.Bool.{Bool, true, false, cond}
use mathlib.Core.List.{List, ◌++◌}
use lib.Dec.{ltb, leb}
use lib.ListN.{length, drop, replicate}
use Rattle.std.specs.Prelude.{Result, Ok, Err}
use Rattle.answers.specs.Answers.{nowhere, accepts}
use Rattle.answers.specs.declared.Refusal.{Refusal}
use Rattle.definition.specs.Module.{module_of}
use Rattle.definition.specs.Form.{form_of}
use Rattle.definition.specs.Report.{report_bytes}
use Rattle.definition.specs.Call.{Decided, reported, turned, decided, on_form, decide, Outcome, left_words, turned_back, delivered, outcome_of, call}
use Rattle.refusal_laws.proofs.Only.{either, OfForm, OfDecided}
use Rattle.refusal_laws.proofs.Numbers.{Early, Late}
use Rattle.refusal_laws.proofs.Forms.{form-early}
use Rattle.refusal_laws.proofs.Rules.{decided-late}
use Rattle.refusal_laws.proofs.Left.{left-as-was, left-zero, delivered-zero}

abbrev Numbered : ℕ → Type 0
Numbered n = (0 < n) × (n ≤ 18)

-- ---- what is decided
later : (d : Decided) → OfDecided Late d → OfDecided Numbered d
later (reported r steps) h = tt
later (turned r) h = (omega arith, omega arith)

on-form : (s : List ℕ) (words limit : ℕ) (f : Result ℕ Refusal) → OfForm Early f → OfDecided Numbered (on_form s words limit f)
unfolding on_form
on-form s words limit (Err r) h = (omega arith, omega arith)
on-form s words limit (Ok w) h =
    either (OfDecided Numbered) (leb words w) (omega arith, omega arith) (later (decided (module_of s) (words - w) limit) (decided-late (module_of s) (words - w) limit))

decide-numbered : (s : List ℕ) (words limit : ℕ) → OfDecided Numbered (decide s words limit)
unfolding decide
decide-numbered s words limit = on-form s words limit (form_of s) (form-early s)

-- ---- what a refused call leaves
record Back (o : Outcome) (ws buf : List ℕ) (r : Refusal) : Type 0 where
  numbered : Numbered r.number
  report : o.report ≡ buf
  workspace : o.workspace ≡ left_words r.number ws

module _ (ws buf : List ℕ) (r : Refusal) where
  turned-back : (q : Refusal) → Numbered q.number → (turned_back q ws buf).answer ≡ Err r → Back (turned_back q ws buf) ws buf r
  unfolding turned_back
  turned-back q h e = let same : q ≡ r = cc in rw (← same) (record { numbered = h; report = refl; workspace = refl })

  delivered-back : (bytes : List ℕ) (steps : ℕ) → (delivered bytes steps ws buf).answer ≡ Err r → Back (delivered bytes steps ws buf) ws buf r
  unfolding delivered
  delivered-back bytes steps e = go (ltb (length buf) (length bytes)) e
    where
      done : Outcome
      done = record { answer = accepts (length bytes) steps; report = bytes ++ drop (length bytes) buf; workspace = replicate (length ws) 0 }

      go : (b : Bool) → (cond b (turned_back (nowhere 6 steps) ws buf) done).answer ≡ Err r → Back (cond b (turned_back (nowhere 6 steps) ws buf) done) ws buf r
      go true e = turned-back (nowhere 6 steps) (omega arith, omega arith) e
      go false e = absurd (let z : ◌≡◌ {A = ℕ} 0 1 = cc in omega arith)

  outcome-back : (d : Decided) → OfDecided Numbered d → (outcome_of d ws buf).answer ≡ Err r → Back (outcome_of d ws buf) ws buf r
  unfolding outcome_of
  outcome-back (reported x steps) h e = delivered-back (report_bytes x) steps e
  outcome-back (turned q) h e = turned-back q h e

call_back : (s ws buf : List ℕ) (limit : ℕ) (r : Refusal) → (call s ws buf limit).answer ≡ Err r → Back (call s ws buf limit) ws buf r
unfolding call
call_back s ws buf limit r e = outcome-back ws buf r (decide s (length ws) limit) (decide-numbered s (length ws) limit) e

-- THEOREM
pub refused-numbers : (s ws buf : List ℕ) (limit : ℕ) (r : Refusal) → (call s ws buf limit).answer ≡ Err r → (0 < r.number) × (r.number ≤ 18)
refused-numbers s ws buf limit r e = (call_back s ws buf limit r e).numbered

-- THEOREM
pub untouched-exactly : (s ws buf : List ℕ) (limit : ℕ) (r : Refusal) → (call s ws buf limit).answer ≡ Err r
    → ((call s ws buf limit).report ≡ buf)
    × ((r.number ≤ 5 → (call s ws buf limit).workspace ≡ ws) × (6 ≤ r.number → (call s ws buf limit).workspace ≡ replicate (length ws) 0))
untouched-exactly s ws buf limit r e =
    let b = call_back s ws buf limit r e in (
      b.report,
      (λ l. rw b.workspace (left-as-was r.number ws (omega arith)), λ l. rw b.workspace (left-zero r.number ws l)),
    )

-- ---- what an accepted call leaves
outcome-zero : (d : Decided) (ws buf : List ℕ) (long steps : ℕ) → (outcome_of d ws buf).answer ≡ accepts long steps
    → (outcome_of d ws buf).workspace ≡ replicate (length ws) 0
unfolding outcome_of turned_back
outcome-zero (reported r n) ws buf long steps e = delivered-zero (report_bytes r) n ws buf
outcome-zero (turned r) ws buf long steps e = absurd (let z : ◌≡◌ {A = ℕ} 0 1 = cc in omega arith)

-- THEOREM
pub accepted-zero : (s ws buf : List ℕ) (limit long steps : ℕ) → (call s ws buf limit).answer ≡ accepts long steps
    → (call s ws buf limit).workspace ≡ replicate (length ws) 0
unfolding call
accepted-zero s ws buf limit long steps e = outcome-zero (decide s (length ws) limit) ws buf long steps e
