-- What an accepted call leaves in its report buffer.
use Rattle.std.specs.Prelude.{ℕ, ◌≡◌, List, ◌++◌, length, drop}
use Rattle.definition.specs.Report.{Report, report_bytes}
use Rattle.definition.specs.Call.{Decided, reported, Outcome}

-- the bytes of the report that is decided on, and behind them the buffer as it was
pub record Left (d : Decided) (o : Outcome) (buf : List ℕ) (long steps : ℕ) : Type 0 where
  pub report : Report
  pub decides : d ≡ reported report steps
  pub size : length (report_bytes report) ≡ long
  pub bytes : o.report ≡ report_bytes report ++ drop long buf
