-- The record of a visit that the code looks at, and how long each field of the report is.
use Prim.Native.Nat.{ℕ, zero, suc, ◌+◌, ◌*◌}
use native.Mathlib.Omega.{arith}
use mathlib.Core.Path.{◌≡◌, refl, ap}
use mathlib.Core.Option.{some}
use mathlib.Core.List.{List, ◌++◌, append-nil}
use lib.ListN.{length, get_or, length-append}
use Rattle.cells.specs.declared.Cell.{Cell}
use Rattle.description.specs.declared.Instr.{Instr}
use Rattle.words.specs.Layout.{cell_at}
use Rattle.words.specs.Rows.{cells_at}
use Rattle.le.specs.Le.{le16}
use Rattle.definition.specs.Module.{row, module_of}
use Rattle.definition.specs.Outputs.{instr, outputs, output}
use Rattle.definition.specs.Wants.{guards}
use Rattle.definition.specs.Ways.{output_list}
use Rattle.definition.specs.Leaves.{line_at}
use Rattle.definition.specs.Report.{Record, placed, record_from, record_of, from_state, each, cell_bytes, cells_bytes, outputs_bytes, guards_bytes, counts_bytes, record_bytes, signature_bytes, slot_bytes}
use Rattle.form_laws.specs.Good.{chunk_no}
use Rattle.layout.specs.Layout.{row_at, input_at, result_at, slot_at, locals_at, stack_at}
use Rattle.report_laws.proofs.Has.{long16}
use Rattle.report_laws.proofs.Back.{record_in, guards-long}
use Rattle.row_join.specs.joining.Leave.{state_by, state_in}
use Rattle.visit.specs.declared.RowVisit.{RowVisit}
use Rattle.visit.specs.Held.{Looking, known_in, state_of, visit_in}
use Rattle.run_state.specs.Course.{known_as, state_at}
use Rattle.visit.proofs.operands.Parts.{ins-is}
use Rattle.report_laws.proofs.Walk.{field-long}
use Rattle.report_size.proofs.Four.{Four, four-at, four-long, looked-four}
use Rattle.report_size.specs.Adds.{bare_at, signature_at, added, record_at}
use Rattle.report_size.proofs.Adds.{private_at}

-- ---- the parts
pub cells-long : (ws : List ℕ) (p n : ℕ) → length (cells_bytes (cells_at ws p n)) ≡ 49 * n
unfolding cells_at cells_bytes
cells-long ws p zero = refl
cells-long ws p (suc n) =
    omega (arith, length-append (cell_bytes (cell_at ws p)) (cells_bytes (cells_at ws (p + 16) n)), four-long (cell_at ws p) (four-at ws p), cells-long ws (p + 16) n)

pub outputs-long : (f : ℕ → Cell) → ((k : ℕ) → Four (f k)) → (p i n : ℕ) → length (outputs_bytes (placed p (row f i n))) ≡ 51 * n
unfolding outputs_bytes placed row
outputs-long f h p i zero = refl
outputs-long f h p i (suc n) =
    let rest = outputs_bytes (placed (suc p) (row f (suc i) n)) in
    omega (
      arith,
      length-append (le16 p) (cell_bytes (f i) ++ rest),
      length-append (cell_bytes (f i)) rest,
      long16 p,
      four-long (f i) (h i),
      outputs-long f h (suc p) (suc i) n,
    )

-- how many outputs
pub placed-many : (f : ℕ → Cell) (p i n : ℕ) → length (placed p (row f i n)) ≡ n
unfolding placed row
placed-many f p i zero = refl
placed-many f p i (suc n) = ap suc (placed-many f (suc p) (suc i) n)

-- ---- the fields
pub signature-long : (s ws : List ℕ) (n : ℕ) → length (signature_at s ws n) ≡ 5 + 49 * (length (chunk_no (module_of s) n).params + 1)
unfolding signature_at signature_bytes
signature-long s ws n =
    let k = length (chunk_no (module_of s) n).params in
    let is = cells_at ws (input_at (module_of s) n 0) k in
    let r = cell_at ws (result_at (module_of s) n) in
    omega (
      arith,
      field-long 17 (le16 n ++ (cells_bytes is ++ cell_bytes r)),
      length-append (le16 n) (cells_bytes is ++ cell_bytes r),
      length-append (cells_bytes is) (cell_bytes r),
      long16 n,
      cells-long ws (input_at (module_of s) n 0) k,
      four-long r (four-at ws (result_at (module_of s) n)),
    )

pub private-long : (s ws : List ℕ) (n : ℕ) → length (private_at s ws n) ≡ 52
unfolding private_at slot_bytes
private-long s ws n =
    let p = slot_at (module_of s) n in
    omega (arith, field-long 18 (cell_bytes (bare_at ws p)), four-long (bare_at ws p) (four-at ws p))

-- ---- the record of a visit
module _ (s ws : List ℕ) (v : RowVisit) where
  unfoldable pub visit_record : Record
  visit_record = record_from (chunk_no (module_of s) v.chunk) v.at (state_of s ws v) (visit_in s ws v)

  module _ (x : Looking s ws v) where
    state-there : state_at s v.chunk ws v.at ≡ some (state_of s ws v)
    unfolding state_in state_by state_of
    state-there =
        let w : get_or ws (row_at (module_of s) v.chunk v.at) 0 ≡ suc v.height = omega (arith, x.height) in
        rw (w, x.row)

    pub record_is : known_in s ws ≡ known_as s → record_at s ws v.chunk v.at ≡ record_bytes visit_record
    unfolding record_at added each from_state record_of visit_record visit_in line_at
    record_is k = rw (state-there, k) (append-nil _)

    pub contents-long : length (record_in visit_record)
        ≡ 12 + 49 * (v.height + (chunk_no (module_of s) v.chunk).locals) + 51 * v.ins.given + 4 * length (guards (visit_in s ws v))
    unfolding visit_record record_from state_of output_list counts_bytes le16
    contents-long =
        let u = visit_in s ws v in
        let c = chunk_no (module_of s) v.chunk in
        let st = cells_bytes (cells_at ws (stack_at v.row) v.height) in
        let ls = cells_bytes (cells_at ws (locals_at v.row c.stack) c.locals) in
        let os = outputs_bytes (placed (length u.below) (row (output (outputs u)) 0 (instr u).given)) in
        let gs = guards_bytes (guards u) in
        omega (
          arith,
          length-append st (ls ++ (os ++ gs)),
          length-append ls (os ++ gs),
          length-append os gs,
          cells-long ws (stack_at v.row) v.height,
          cells-long ws (locals_at v.row c.stack) c.locals,
          outputs-long (output (outputs u)) (looked-four s ws v x) (length u.below) 0 (instr u).given,
          guards-long (guards u),
          ap (λ (i : Instr). i.given) (ins-is s ws v x),
        )
