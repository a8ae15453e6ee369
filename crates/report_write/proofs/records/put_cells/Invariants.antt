use Prim.Native.Nat.{◌*◌}
use Rattle.le.specs.Wrote.{WroteN}
use Rattle.words.specs.Rows.{cells_at}
use Rattle.definition.specs.Report.{cells_bytes}
use Rattle.report_write.proofs.records.put_cells.Given as goal

abbrev pub invariant-loop-k : goal.invariant-loop-k
invariant-loop-k l = WroteN l.initial.buf l.at (49 * l.k) (cells_bytes (cells_at l.ws l.word l.k)) l.buf l.to
