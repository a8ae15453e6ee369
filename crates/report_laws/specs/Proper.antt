-- What the bytes of a report can say.
use Rattle.std.specs.Prelude.{ℕ, ◌≡◌, length}
use Rattle.flows.specs.declared.Flow.{Flow}
use Rattle.cells.specs.declared.Cell.{Cell}
use Rattle.definition.specs.Report.{Report, Record, Signature}
use Rattle.machine_laws.specs.All.{All}
use Rattle.report_laws.specs.Names.{NamesLocal, NamesReceiver}

-- ---- a cell of four extents, whose origin and receiver are locals of which N holds
pub record FlowNaming (N : ℕ → Type 0) (f : Flow) : Type 0 where
  pub four : length f.bodies ≡ 4
  pub origin : NamesLocal N f.origin
  pub receiver : NamesReceiver N f.predicate

abbrev pub CellNaming : (ℕ → Type 0) → Cell → Type 0
CellNaming N c = FlowNaming N c.flow

-- what a report can say of a cell: 65535 is no local
abbrev pub Sayable : ℕ → Type 0
Sayable l = l ≡ 65535 → ⊥

abbrev pub ProperFlow : Flow → Type 0
ProperFlow f = FlowNaming Sayable f

abbrev pub Proper : Cell → Type 0
Proper c = CellNaming Sayable c

-- ---- a report of such cells
pub record ProperSignature (x : Signature) : Type 0 where
  pub inputs : All Proper x.inputs
  pub result : Proper x.result

pub record ProperRecord (x : Record) : Type 0 where
  pub stack : All Proper x.stack
  pub locals : All Proper x.locals
  pub outputs : All (λ o. Proper o.cell) x.outputs

pub record ProperReport (r : Report) : Type 0 where
  pub signatures : All ProperSignature r.signatures
  pub slots : All Proper r.slots
  pub records : All ProperRecord r.records
