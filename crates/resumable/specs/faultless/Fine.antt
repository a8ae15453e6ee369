-- Where no recorded visit has a fault: of one instruction, of a chunk.
use Rattle.std.specs.Prelude.{ℕ, ◌<◌, ◌≡◌, List}
use Rattle.definition.specs.Leaves.{always}
use Rattle.visit.specs.declared.RowVisit.{RowVisit}
use Rattle.visit.specs.Held.{Looking, visit_in}
use Rattle.report_size.specs.Adds.{recordable}

-- the visit of the instruction i of the chunk n, if it is recorded, is refused in no mode
unfoldable pub FineAt : List ℕ → List ℕ → ℕ → ℕ → Type 0
FineAt s ws n i = (v : RowVisit) → Looking s ws v → v.chunk ≡ n → v.at ≡ i → always (visit_in s ws v) ≡ 0

-- nor is that of any instruction of the chunk n, if it is reachable
unfoldable pub FineIn : List ℕ → List ℕ → ℕ → Type 0
FineIn s ws n = (i : ℕ) → i < recordable s n → FineAt s ws n i
