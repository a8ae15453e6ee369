-- What a call of `check_indexed` comes to: answer, both buffers and workspace are the definition's for all arguments; an accepted report is one
-- that `check` accepts with, its index agrees with it.
use Rattle.std.specs.Prelude.{ℕ, ◌<◌, ◌≡◌, true, List, take, get_or, Result}
use Rattle.answers.specs.declared.AcceptedIndexed.{AcceptedIndexed}
use Rattle.answers.specs.declared.Refusal.{Refusal}
use Rattle.answers.specs.Answers.{indexed_numbers, accepts_with}
use Rattle.report_index.specs.Index.{entries_of, agrees}
use Rattle.lookup_laws.specs.Entries.{record_entries}
use Rattle.definition.specs.Module.{module_of}
use Rattle.definition.specs.Report.{report_bytes}
use Rattle.definition.specs.CallIndexed.{call_indexed}
use Rattle.report_laws.specs.Read.{read_report}
use Rattle.consistent.specs.Consistent.{Consistent}
use Rattle.consistent.specs.OneReport.{OneReport}

-- s the description, ws, buf and idx workspace, report buffer and index buffer as they were; r, buf', idx' and ws' the answer and what the
-- call left
pub record CheckedIndexed (s ws buf idx : List ℕ) (limit : ℕ) (r : Result AcceptedIndexed Refusal) (buf' idx' ws' : List ℕ) : Type 0 where
  -- demands 1 and 2; an answer's numbers are document 01's and document 02's
  pub answer : r ≡ (call_indexed s ws buf idx limit).answer
  pub said : indexed_numbers r ≡ indexed_numbers (call_indexed s ws buf idx limit).answer
  pub report : buf' ≡ (call_indexed s ws buf idx limit).report
  pub index : idx' ≡ (call_indexed s ws buf idx limit).index
  pub workspace : ws' ≡ (call_indexed s ws buf idx limit).workspace
  -- both lengths, the last of the numbers, are numbers of 32 bits
  pub short : (get_or (indexed_numbers r) 4 0 < 4294967296) × (get_or (indexed_numbers r) 5 0 < 4294967296)
  -- demand 3, of the bytes that were written
  pub consistent : (long steps n : ℕ) → r ≡ accepts_with long steps n → Consistent (module_of s) (read_report (take long buf'))
  -- read strictly: these are exactly the bytes of the report that is read back
  pub exact : (long steps n : ℕ) → r ≡ accepts_with long steps n → report_bytes (read_report (take long buf')) ≡ take long buf'
  -- document 02, One: every call without an index that accepts this description has this length, these steps and writes these bytes
  pub one-report : (long steps n : ℕ) → r ≡ accepts_with long steps n → OneReport s long steps (take long buf')
  -- document 02, Three: the index lists the records of the report, and no more
  pub entries : (long steps n : ℕ) → r ≡ accepts_with long steps n → entries_of (take n idx') ≡ record_entries (read_report (take long buf'))
  -- its entries rise; an accepted report's own index never disagrees with it
  pub own-index : (long steps n : ℕ) → r ≡ accepts_with long steps n → agrees (take long buf') (take n idx') ≡ true
