-- Demand 3 of the call: what it accepts with is the bytes of a consistent report.
use Prim.Native.Nat.{ℕ}
use mathlib.Core.Path.{◌≡◌, sym, ◌∙◌, ap}
use mathlib.Core.Bool.{Bool, true, false, cond}
use mathlib.Core.List.{List, ◌++◌}
use lib.Dec.{ltb}
use lib.ListN.{length, take, drop, replicate}
use lib.Seq.{take_at}
use Rattle.answers.specs.Answers.{nowhere, accepts}
use Rattle.answers.proofs.Told.{accepts-same}
use Rattle.definition.specs.Module.{module_of}
use Rattle.definition.specs.Report.{Report, report_bytes}
use Rattle.definition.specs.Call.{Decided, reported, turned, decide, Outcome, turned_back, delivered, outcome_of, call}
use Rattle.masks.proofs.Both.{never}
use Rattle.consistent.specs.Consistent.{Consistent}
use Rattle.consistent.specs.Left.{Left}
use Rattle.consistent.specs.OneReport.{OneReport}
use Rattle.consistent.proofs.Decided.{same-report}
use Rattle.consistent.proofs.Theorem.{consistent}

outcome-left : (d : Decided) (ws buf : List ℕ) (long steps : ℕ) → (outcome_of d ws buf).answer ≡ accepts long steps → Left d (outcome_of d ws buf) buf long steps
unfolding outcome_of delivered turned_back
outcome-left (turned r) ws buf long steps h = never (cc)
outcome-left (reported r k) ws buf long steps h = go (ltb (length buf) (length (report_bytes r))) h
  where
    sent : Outcome
    sent = record { answer = accepts (length (report_bytes r)) k; report = report_bytes r ++ drop (length (report_bytes r)) buf; workspace = replicate (length ws) 0 }

    go : (b : Bool) → (cond b (turned_back (nowhere 6 k) ws buf) sent).answer ≡ accepts long steps
        → Left (reported r k) (cond b (turned_back (nowhere 6 k) ws buf) sent) buf long steps
    go true h = never (cc)
    go false h =
        let (l, e) = accepts-same h in
        record { report = r; decides = ap (reported r) e; size = l; bytes = ap (λ (n : ℕ). report_bytes r ++ drop n buf) l }

pub accepted-left : (s ws buf : List ℕ) (limit long steps : ℕ) → (call s ws buf limit).answer ≡ accepts long steps
    → Left (decide s (length ws) limit) (call s ws buf limit) buf long steps
unfolding call
accepted-left s ws buf limit long steps h = outcome-left (decide s (length ws) limit) ws buf long steps h

-- THEOREM (demand 3, of the call)
pub accepted-consistent : (s ws buf : List ℕ) (limit long steps : ℕ) → (call s ws buf limit).answer ≡ accepts long steps
    → (r : Report) × Consistent (module_of s) r × (length (report_bytes r) ≡ long) × ((call s ws buf limit).report ≡ report_bytes r ++ drop long buf)
unfolding call
accepted-consistent s ws buf limit long steps h =
    let d = outcome-left (decide s (length ws) limit) ws buf long steps h in
    (d.report, consistent s (length ws) limit d.report steps d.decides, d.size, d.bytes)

-- what a run decided on, as its buffer has it
pub left-bytes : (d : Decided) (o : Outcome) (buf : List ℕ) (long steps : ℕ) (l : Left d o buf long steps) → take long o.report ≡ report_bytes l.report
left-bytes d o buf long steps l = ap (take long) l.bytes ∙ take_at (report_bytes l.report) (drop long buf) long l.size

-- THEOREM (document 02, One): two calls that accept one description write the same report
pub one-report : (s ws buf : List ℕ) (limit long steps : ℕ) → (call s ws buf limit).answer ≡ accepts long steps
    → OneReport s long steps (take long (call s ws buf limit).report)
one-report s ws buf limit long steps h ws' buf' limit' long' steps' h' =
    let a = accepted-left s ws buf limit long steps h in
    let b = accepted-left s ws' buf' limit' long' steps' h' in
    let (er, en) = same-report s (length ws') (length ws) limit' limit b.report a.report steps' steps b.decides a.decides in
    let eb : report_bytes b.report ≡ report_bytes a.report = ap report_bytes er in (
      sym b.size ∙ ap length eb ∙ a.size,
      en,
      left-bytes _ _ buf' long' steps' b ∙ eb ∙ sym (left-bytes _ _ buf long steps a),
    )
