use Prim.Native.Nat.{◌*◌}
use Rattle.le.specs.Wrote.{WroteN}
use Rattle.definition.specs.Module.{row}
use Rattle.definition.specs.Outputs.{output}
use Rattle.definition.specs.Report.{placed, outputs_bytes}
use Rattle.report_write.proofs.records.put_outputs.Given as goal

abbrev pub invariant-loop-k : goal.invariant-loop-k
invariant-loop-k l = WroteN l.initial.buf l.at (51 * l.k) (outputs_bytes (placed l.v.start (row (output l.made) 0 l.k))) l.buf l.to
