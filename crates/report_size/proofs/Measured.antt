-- The length of the report is the sum of what each instruction adds.
use Prim.Native.Nat.{ℕ, ◌+◌, ◌*◌, ◌-◌}
use native.Mathlib.Omega.{arith}
use mathlib.Core.Path.{◌≡◌, refl, sym, ap, ◌∙◌}
use mathlib.Core.Bool.{Bool, true, false, cond}
use mathlib.Core.List.{List, [], ◌++◌}
use lib.ListN.{length, get_or, length-append}
use Rattle.le.specs.Le.{le16, le32}
use Rattle.description.specs.declared.Instr.{Instr}
use Rattle.definition.specs.Module.{Chunk, module_of}
use Rattle.definition.specs.State.{State}
use Rattle.definition.specs.Wants.{guards}
use Rattle.definition.specs.Report.{Inspection, Branch, each, from_state, field, inspection_bytes, branch_bytes, record_bytes, report_bytes}
use Rattle.form_laws.specs.Good.{chunk_no}
use Rattle.layout.specs.declared.Tables.{Tables}
use Rattle.layout.specs.declared.Chunk.{Chunk as ChunkNumbers}
use Rattle.layout.specs.Layout.{row_at}
use Rattle.layout.specs.Indexed.{Indexed}
use Rattle.layout.proofs.Read.{locals-is}
use Rattle.report_laws.proofs.Back.{record_in}
use Rattle.row_join.specs.joining.Leave.{state_by, state_in}
use Rattle.visit.specs.declared.RowVisit.{RowVisit}
use Rattle.visit.specs.Held.{Looking, visit_in}
use Rattle.report_size.specs.Reporting.{report_in}
use Rattle.report_size.specs.Span.{span, cut}
use Rattle.report_size.proofs.Span.{span-both, span-alike, span-each, span-cut}
use Rattle.report_size.specs.Adds.{signature_at, added, record_at, inspection_at, branch_at, added_for, recordable, chunk_for, chunks_for}
use Rattle.report_size.proofs.Adds.{private_at, report-added}
use Rattle.report_size.specs.recorded.Told.{false_in, decided_in, way_in}
use Rattle.report_laws.proofs.Walk.{field-long}
use Rattle.report_size.proofs.Beside.{inspection-told, branch-told}
use Rattle.report_size.proofs.Long.{visit_record, private-long, record_is, contents-long}
use Rattle.report_size.specs.Here.{Finished, Here}
use Rattle.report_size.proofs.Here.{Visits, numbers-here, row_of}
use Rattle.report_size.specs.Measured.{all_for, all_in}
use Rattle.definition.specs.Leaves.{line_at}

-- ---- one instruction
pub added_none : {A : Type 0} (f : A → List ℕ) (g : Chunk → ℕ → State → List A) (s ws : List ℕ) (n i : ℕ)
    → get_or ws (row_at (module_of s) n i) 0 ≡ 0 → added f g s ws n i ≡ []
unfolding added state_in state_by from_state each
added_none f g s ws n i e = rw e

pub none-added : (s ws : List ℕ) (n i : ℕ) → get_or ws (row_at (module_of s) n i) 0 ≡ 0 → length (all_for s ws n i) ≡ 0
unfolding all_for added_for record_at inspection_at branch_at
none-added s ws n i e =
    rw (added_none _ _ s ws n i e, added_none _ _ s ws n i e, added_none _ _ s ws n i e)

inspection-long : (b : Bool) (x : Inspection) → length (cond b (inspection_bytes x) []) ≡ cond b 7 0
unfolding inspection_bytes field le16
inspection-long true x = refl
inspection-long false x = refl

branch-long : (b : Bool) (x : Branch) → length (cond b (branch_bytes x) []) ≡ cond b 8 0
unfolding branch_bytes field le16
branch-long true x = refl
branch-long false x = refl

module _ (s ws : List ℕ) (t : Tables) (f : Finished s ws t) (v : RowVisit) (x : Looking s ws v) where
  number_is : (chunk_no (module_of s) v.chunk).number ≡ v.chunk
  number_is = (f.ended.prepared.indexed.good.each_chunk v.chunk x.chunk).number

  op-is : v.ins.op ≡ (line_at (chunk_no (module_of s) v.chunk) v.at).instr.op
  op-is = ap (λ (i : Instr). i.op) x.ins

  pub false-is : inspection_at s ws v.chunk v.at ≡ cond (false_in ws v.row v.ins.op) (inspection_bytes (record { chunk = v.chunk; instruction = v.at })) []
  false-is = rw (x.row, op-is) (inspection-told s ws v.chunk v.at number_is)

  pub decided-is : branch_at s ws v.chunk v.at
      ≡ cond (decided_in ws v.row v.ins.op) (branch_bytes (record { chunk = v.chunk; instruction = v.at; value = way_in ws v.row })) []
  decided-is = rw (x.row, op-is) (branch-told s ws v.chunk v.at number_is)

  some-long : length (all_for s ws v.chunk v.at)
      ≡ 3 + (12 + 49 * (v.height + (chunk_no (module_of s) v.chunk).locals) + 51 * v.ins.given + 4 * length (guards (visit_in s ws v)))
      + cond (false_in ws v.row v.ins.op) 7 0 + cond (decided_in ws v.row v.ins.op) 8 0
  unfolding all_for added_for record_bytes
  some-long =
      let a = record_at s ws v.chunk v.at in
      let b = inspection_at s ws v.chunk v.at in
      let c = branch_at s ws v.chunk v.at in
      omega (
        arith,
        length-append a (b ++ c),
        length-append b c,
        ap length (record_is s ws v x f.ended.prepared.known),
        field-long 19 (record_in (visit_record s ws v)),
        contents-long s ws v x,
        ap length false-is ∙ inspection-long (false_in ws v.row v.ins.op) _,
        ap length decided-is ∙ branch-long (decided_in ws v.row v.ins.op) _,
      )

pub some-added : (s ws : List ℕ) (t : Tables) (f : Finished s ws t) (c : ℕ) (ch : ChunkNumbers) (i : ℕ) → Here s ws c ch i → (row : ℕ) → row ≡ row_at (module_of s) c i
    → (v : RowVisit) → Visits s ws c i v
    → length (all_for s ws c i)
    ≡ 3 + (12 + 49 * (v.height + ch.locals) + 51 * v.ins.given + 4 * length (guards (visit_in s ws v)))
    + cond (false_in ws row v.ins.op) 7 0 + cond (decided_in ws row v.ins.op) 8 0
some-added s ws t f c ch i h row e v x =
    let l = locals-is s ws v.chunk ch (numbers-here s ws t f c ch i h v x) in
    let r = row_of s ws t f c ch i h v x row e in
    rw (r, ← x.1, ← x.2) (some-long s ws t f v x.0 ∙ omega (arith, l))

-- ---- the whole
all-long : (s ws : List ℕ) (n : ℕ) → length (all_in s ws n) ≡ length (chunk_for s ws 19 n ++ (chunk_for s ws 20 n ++ chunk_for s ws 21 n))
unfolding all_in all_for chunk_for
all-long s ws n =
    let e = recordable s n in
    omega (
      arith,
      span-both (added_for s ws 19 n) (λ i. added_for s ws 20 n i ++ added_for s ws 21 n i) 0 e,
      span-both (added_for s ws 20 n) (added_for s ws 21 n) 0 e,
      length-append (chunk_for s ws 19 n) (chunk_for s ws 20 n ++ chunk_for s ws 21 n),
      length-append (chunk_for s ws 20 n) (chunk_for s ws 21 n),
    )

pub report-long : (s ws : List ℕ) → Indexed s ws → (reply : ℕ)
    → 7 + 52 * (module_of s).slots + length (span (cut (signature_at s ws) (module_of s).signatures) 0 (length (module_of s).chunks))
    + length (span (all_in s ws) 0 (length (module_of s).chunks))
    ≡ length (report_bytes (report_in s ws reply))
unfolding chunks_for le32
report-long s ws x reply =
    let k = length (module_of s).chunks in
    let m = (module_of s).signatures in
    let z : m + (k - m) ≡ k = omega (arith, x.good.signatures) in
    let a = span (signature_at s ws) 0 m in
    let b = span (private_at s ws) 0 (module_of s).slots in
    let d = chunks_for s ws 19 in
    let e = chunks_for s ws 20 in
    let g = chunks_for s ws 21 in
    omega (
      arith,
      ap length (report-added s ws reply),
      length-append (field 16 (le32 reply)) (a ++ (b ++ (d ++ (e ++ g)))),
      field-long 16 (le32 reply),
      length-append a (b ++ (d ++ (e ++ g))),
      length-append b (d ++ (e ++ g)),
      length-append d (e ++ g),
      length-append e g,
      ap length (ap (span (cut (signature_at s ws) m) 0) (sym z) ∙ span-cut (signature_at s ws) m (k - m)),
      span-each (private_at s ws) 52 (module_of s).slots (λ n l. private-long s ws n),
      span-alike (all_in s ws) (λ n. chunk_for s ws 19 n ++ (chunk_for s ws 20 n ++ chunk_for s ws 21 n)) 0 k (all-long s ws),
      span-both (chunk_for s ws 19) (λ n. chunk_for s ws 20 n ++ chunk_for s ws 21 n) 0 k,
      span-both (chunk_for s ws 20) (chunk_for s ws 21) 0 k,
    )
