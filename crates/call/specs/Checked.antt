-- What a call of `check` comes to: answer, report buffer and workspace are the definition's for all arguments; an accepted report meets demand 3,
-- byte for byte, and is the only one of its description.
use Rattle.std.specs.Prelude.{ℕ, ◌<◌, ◌≡◌, List, take, get_or, Result}
use Rattle.answers.specs.declared.Accepted.{Accepted}
use Rattle.answers.specs.declared.Refusal.{Refusal}
use Rattle.answers.specs.Answers.{numbers, accepts}
use Rattle.definition.specs.Module.{module_of}
use Rattle.definition.specs.Report.{report_bytes}
use Rattle.definition.specs.Call.{call}
use Rattle.report_laws.specs.Read.{read_report}
use Rattle.consistent.specs.Consistent.{Consistent}
use Rattle.consistent.specs.OneReport.{OneReport}

-- s the description, ws and buf workspace and report buffer as they were; r, buf' and ws' the answer and what the call left
pub record Checked (s ws buf : List ℕ) (limit : ℕ) (r : Result Accepted Refusal) (buf' ws' : List ℕ) : Type 0 where
  -- demands 1 and 2; an answer's numbers are document 01's
  pub answer : r ≡ (call s ws buf limit).answer
  pub said : numbers r ≡ numbers (call s ws buf limit).answer
  pub report : buf' ≡ (call s ws buf limit).report
  pub workspace : ws' ≡ (call s ws buf limit).workspace
  -- the report's length, the last of the numbers, is one of 32 bits
  pub short : get_or (numbers r) 4 0 < 4294967296
  -- demand 3, of the bytes that were written
  pub consistent : (long steps : ℕ) → r ≡ accepts long steps → Consistent (module_of s) (read_report (take long buf'))
  -- read strictly: these are exactly the bytes of the report that is read back
  pub exact : (long steps : ℕ) → r ≡ accepts long steps → report_bytes (read_report (take long buf')) ≡ take long buf'
  -- document 02, One: every call that accepts this description has this length, these steps and writes these bytes
  pub one-report : (long steps : ℕ) → r ≡ accepts long steps → OneReport s long steps (take long buf')
