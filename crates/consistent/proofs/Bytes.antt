-- Demand 3 over the bytes that an accepted call leaves in its buffer.
use Prim.Native.Nat.{ℕ}
use mathlib.Core.Path.{◌≡◌, sym, ◌∙◌, ap}
use mathlib.Core.List.{List}
use lib.ListN.{length, take}
use Rattle.answers.specs.Answers.{accepts}
use Rattle.definition.specs.Module.{module_of}
use Rattle.definition.specs.Report.{report_bytes}
use Rattle.definition.specs.Call.{call}
use Rattle.report_laws.specs.Read.{read_report}
use Rattle.report_laws.proofs.Reports.{decided-back}
use Rattle.consistent.specs.Consistent.{Consistent}
use Rattle.consistent.proofs.Theorem.{consistent}
use Rattle.consistent.proofs.Accepted.{accepted-left, left-bytes}

module _ (s ws buf : List ℕ) (limit long steps : ℕ) (h : (call s ws buf limit).answer ≡ accepts long steps) where
  abbrev bytes : List ℕ
  bytes = take long (call s ws buf limit).report

  -- what was decided on is read back from the bytes
  back : read_report bytes ≡ (accepted-left s ws buf limit long steps h).report
  back =
      let d = accepted-left s ws buf limit long steps h in
      ap read_report (left-bytes _ _ buf long steps d) ∙ decided-back s (length ws) limit steps d.report d.decides

  -- THEOREM (demand 3): the first `long` bytes of the buffer, read back field by field, are a report that is consistent beside the description
  pub demand-3 : Consistent (module_of s) (read_report bytes)
  demand-3 =
      let d = accepted-left s ws buf limit long steps h in
      rw back (consistent s (length ws) limit d.report steps d.decides)

  -- THEOREM: they are exactly the bytes of that report, so none is passed over in reading
  pub exact_bytes : report_bytes (read_report bytes) ≡ bytes
  exact_bytes = ap report_bytes back ∙ sym (left-bytes _ _ buf long steps (accepted-left s ws buf limit long steps h))
