-- THEOREM. In the report of an accepted call a lookup finds the record of each recorded instruction, and nothing for any other.
use Prim.Native.Nat.{ℕ}
use mathlib.Core.Path.{◌≡◌}
use mathlib.Core.List.{List, Memᴰ}
use lib.ListN.{length, take}
use Rattle.answers.specs.Answers.{accepts}
use Rattle.definition.specs.Report.{Report, Record, record_bytes, report_bytes}
use Rattle.definition.specs.Call.{reported, decide, call}
use Rattle.report_laws.specs.Read.{read_report}
use Rattle.report_laws.proofs.Reports.{decided-back}
use Rattle.consistent.proofs.Accepted.{accepted-left, left-bytes}
use Rattle.lookup.specs.Find.{at_end, found}
use Rattle.consistent.specs.Rising.{Rising}
use Rattle.consistent.proofs.Theorem.{consistent}
use Rattle.lookup_laws.proofs.Named.{named-listed, named_none}
use Rattle.lookup_laws.specs.Looked.{Looked}
use Rattle.lookup_laws.proofs.Shown.{Shown, report-shown}

-- for any report whose records rise
pub looked : (r : Report) → Rising r.records → Looked (report_bytes r) r
unfolding Shown
looked r h = record {
  rising = h;
  listed = λ x m. rw (named-listed x r.records h m) at (report-shown r x.chunk x.instruction);
  other = λ c i n. rw (named_none c i r.records n) at (report-shown r c i);
}

-- so for every report that the definition decides on
pub decided-looked : (s : List ℕ) (words limit n : ℕ) (r : Report) → decide s words limit ≡ reported r n → Looked (report_bytes r) r
decided-looked s words limit n r e = looked r (consistent s words limit r n e).arrives.rising

-- and for the first `long` bytes of an accepted call's buffer
pub accepted-looked : (s ws buf : List ℕ) (limit long steps : ℕ) → (call s ws buf limit).answer ≡ accepts long steps
    → Looked (take long (call s ws buf limit).report) (read_report (take long (call s ws buf limit).report))
accepted-looked s ws buf limit long steps h =
    let d = accepted-left s ws buf limit long steps h in
    let r : Report = d.report in
    let e : take long (call s ws buf limit).report ≡ report_bytes r = left-bytes _ _ buf long steps d in
    rw (e, decided-back s (length ws) limit steps r d.decides) (decided-looked s (length ws) limit steps r d.decides)
