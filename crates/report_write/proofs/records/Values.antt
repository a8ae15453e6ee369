-- A record and a signature as the code writes them, part by part.
use Prim.Native.Nat.{ℕ, ◌+◌, ◌*◌, ◌<◌, ◌≤◌}
use native.Mathlib.Omega.{arith}
use mathlib.Core.Path.{◌≡◌, refl, sym, ap, ap₂, ◌∙◌}
use mathlib.Core.List.{List, ◌∷◌, ◌++◌}
use lib.ListN.{length, length-append}
use Rattle.description.specs.declared.Instr.{Instr}
use Rattle.le.specs.Le.{le16}
use Rattle.words.specs.Layout.{cell_at}
use Rattle.words.specs.Rows.{cells_at}
use Rattle.words.proofs.RowLaws.{cells_at-length}
use Rattle.definition.specs.Module.{row, module_of}
use Rattle.definition.specs.Outputs.{instr, output, outputs}
use Rattle.definition.specs.Wants.{guards}
use Rattle.definition.specs.Ways.{output_list}
use Rattle.definition.specs.Report.{placed, record_from, field, cell_bytes, cells_bytes, outputs_bytes, guards_bytes, counts_bytes, signature_bytes, record_bytes}
use Rattle.form_laws.specs.Good.{chunk_no}
use Rattle.layout.specs.declared.Tables.{Tables}
use Rattle.layout.specs.declared.Chunk.{Chunk as ChunkNumbers}
use Rattle.layout.specs.Layout.{input_at, result_at, locals_at, place_at, stack_at}
use Rattle.layout.specs.Indexed.{Indexed, chunk_at}
use Rattle.layout.proofs.Apart.{result-in}
use Rattle.layout.proofs.Read.{row_small, count-is, params_is, locals-is, stack_is}
use Rattle.report_laws.proofs.Back.{record_in, guards-long}
use Rattle.visit.specs.declared.RowVisit.{RowVisit}
use Rattle.visit.specs.Held.{Looking, known_in, state_of, visit_in}
use Rattle.visit.proofs.Visits.{row-there, looking-standing, below-long}
use Rattle.run_state.specs.Course.{known_as}
use Rattle.visit.proofs.operands.Parts.{ins-is}
use Rattle.report_size.proofs.Four.{looked-four}
use Rattle.report_size.specs.Adds.{signature_at, record_at}
use Rattle.report_size.proofs.Long.{cells-long, outputs-long, placed-many, signature-long, visit_record, record_is, contents-long}
use Rattle.report_size.specs.Here.{Finished, Here}
use Rattle.report_size.proofs.Here.{Visits, numbers-here}
use Rattle.report_laws.proofs.Walk.{field-long}
use Rattle.report_write.proofs.records.Writes.{cells-more}
use Rattle.report_write.specs.records.Values.{values_in}

-- a record from its numbers and what follows them
abbrev build : ℕ → ℕ → ℕ → ℕ → ℕ → ℕ → ℕ → List ℕ → List ℕ
build len c i h l g k rest = 19 ∷ (le16 len ++ (le16 c ++ (le16 i ++ ((le16 h ++ (le16 l ++ (le16 g ++ le16 k))) ++ rest))))

module _ (s ws : List ℕ) (v : RowVisit) (x : Looking s ws v) where
  outputs-same : placed (length (visit_in s ws v).below) (row (output (outputs (visit_in s ws v))) 0 (instr (visit_in s ws v)).given)
      ≡ placed v.start (row (output (outputs (visit_in s ws v))) 0 v.ins.given)
  outputs-same =
      let f = output (outputs (visit_in s ws v)) in
      let n = (instr (visit_in s ws v)).given in
      ap (λ (p : ℕ). placed p (row f 0 n)) (below-long s ws v x) ∙ ap (λ (i : Instr). placed v.start (row f 0 i.given)) (sym (ins-is s ws v x))

  -- the parts of its record
  record-parts : known_in s ws ≡ known_as s → (chunk_no (module_of s) v.chunk).number ≡ v.chunk → (ch : ChunkNumbers) → ch ≡ chunk_at s ws v.chunk
      → (len k : ℕ) → k ≡ length (guards (visit_in s ws v)) → len ≡ 12 + 49 * (v.height + ch.locals) + 51 * v.ins.given + 4 * k
      → (19 ∷ le16 len)
      ++ ((le16 v.chunk ++ le16 v.at) ++ ((le16 v.height ++ (le16 ch.locals ++ (le16 v.ins.given ++ le16 k))) ++ values_in s ws v))
      ≡ record_at s ws v.chunk v.at
  unfolding record_bytes visit_record record_from state_of output_list counts_bytes field values_in le16
  record-parts known number ch e len k q h =
      let c = chunk_no (module_of s) v.chunk in
      let u = visit_in s ws v in
      let l = locals-is s ws v.chunk ch e in
      let e₁ : length (record_in (visit_record s ws v)) ≡ len = omega (arith, contents-long s ws v x, l, q, h) in
      let e₂ = cells_at-length ws (stack_at v.row) v.height in
      let e₃ = cells_at-length ws (locals_at v.row c.stack) c.locals ∙ sym l in
      let e₄ = ap length outputs-same ∙ placed-many (output (outputs u)) v.start 0 v.ins.given in
      let e₅ : length (guards u) ≡ k = sym q in
      sym (record_is s ws v x known
      ∙ (λ j. build (e₁ j) (number j) v.at (e₂ j) (e₃ j) (e₄ j) (e₅ j)
      (cells_bytes (cells_at ws (stack_at v.row) v.height)
      ++ (cells_bytes (cells_at ws (locals_at v.row c.stack) c.locals) ++ (outputs_bytes (outputs-same j) ++ guards_bytes (guards u))))))

  -- how long its values are
  pub values-long : length (values_in s ws v)
      ≡ 49 * v.height + 49 * (chunk_no (module_of s) v.chunk).locals + 51 * v.ins.given + length (guards_bytes (guards (visit_in s ws v)))
  unfolding values_in
  values-long =
      let c = chunk_no (module_of s) v.chunk in
      let f = output (outputs (visit_in s ws v)) in
      let st = cells_bytes (cells_at ws (stack_at v.row) v.height) in
      let ls = cells_bytes (cells_at ws (locals_at v.row c.stack) c.locals) in
      let os = outputs_bytes (placed v.start (row f 0 v.ins.given)) in
      let gs = guards_bytes (guards (visit_in s ws v)) in
      omega (
        arith,
        length-append st (ls ++ (os ++ gs)),
        length-append ls (os ++ gs),
        length-append os gs,
        cells-long ws (stack_at v.row) v.height,
        cells-long ws (locals_at v.row c.stack) c.locals,
        outputs-long f (looked-four s ws v x) v.start 0 v.ins.given,
      )

  record-long : known_in s ws ≡ known_as s → length (record_at s ws v.chunk v.at) ≡ 15 + length (values_in s ws v)
  unfolding record_bytes
  record-long known =
      omega (
        arith,
        ap length (record_is s ws v x known),
        field-long 19 (record_in (visit_record s ws v)),
        contents-long s ws v x,
        values-long,
        guards-long (guards (visit_in s ws v)),
      )

  -- its row has room for them, and its numbers are small
  pub values-room : (ch : ChunkNumbers) → ch ≡ chunk_at s ws v.chunk
      → (place_at v.row v.height ≤ length ws) × (place_at v.row (ch.stack + ch.locals) ≤ length ws)
      × (place_at v.row (ch.stack + ch.locals) < 4294967296) × (v.start + v.ins.given ≤ 65536)
  values-room ch e =
      let d = looking-standing s ws v x in
      let r = row-there s ws v x in
      let z = row_small s ws x.indexed v.chunk v.at x.chunk x.at in
      let g = ((x.indexed.good.each_chunk v.chunk x.chunk).lines v.at x.at).given in
      let a = stack_is s ws v.chunk ch e in
      let b = locals-is s ws v.chunk ch e in (
        d.room,
        omega (arith, r, a, b),
        omega (arith, z, x.row, a, b),
        omega (arith, d.start, d.low, g, ap (λ (i : Instr). i.given) x.ins),
      )

-- the writes of its values: stack, locals, outputs, guards
module _ (s ws : List ℕ) (v : RowVisit) (ch : ChunkNumbers) (e : ch ≡ chunk_at s ws v.chunk) where
  pub stack-here : (p : ℕ) → p ≡ place_at v.row 0 → cells_bytes (cells_at ws p v.height) ≡ cells_bytes (cells_at ws (stack_at v.row) v.height)
  stack-here p h = let z : p ≡ stack_at v.row = omega arith in ap (λ (a : ℕ). cells_bytes (cells_at ws a v.height)) z

  pub locals-here : (p : ℕ) → p ≡ place_at v.row (ch.stack + 0)
      → cells_bytes (cells_at ws p ch.locals)
      ≡ cells_bytes (cells_at ws (locals_at v.row (chunk_no (module_of s) v.chunk).stack) (chunk_no (module_of s) v.chunk).locals)
  locals-here p h =
      let z : p ≡ locals_at v.row (chunk_no (module_of s) v.chunk).stack = omega (arith, stack_is s ws v.chunk ch e) in
      ap₂ (λ (a n : ℕ). cells_bytes (cells_at ws a n)) z (locals-is s ws v.chunk ch e)

-- a chunk's numbers as they are read
pub here-as : (s ws : List ℕ) (c : ℕ) (ch : ChunkNumbers) (i : ℕ) → Here s ws c (chunk_at s ws c) i → ch ≡ chunk_at s ws c → Here s ws c ch i
here-as s ws c ch i h e = record { chunk = h.chunk; numbers = e; reachable = h.reachable; at = rw e h.at }

pub here_back : (s ws : List ℕ) (c : ℕ) (ch : ChunkNumbers) (i : ℕ) → Here s ws c ch i → Here s ws c (chunk_at s ws c) i
here_back s ws c ch i h = record { chunk = h.chunk; numbers = refl; reachable = h.reachable; at = rw h.numbers at h.at }

pub small-here : (s ws : List ℕ) (c : ℕ) (ch : ChunkNumbers) (i : ℕ) → Indexed s ws → Here s ws c ch i → (c < 65536) × (i < 65536)
small-here s ws c ch i x h = (
  omega (arith, h.chunk, x.good.chunks_most),
  omega (arith, h.at, count-is s ws c ch h.numbers, (x.good.each_chunk c h.chunk).code),
)

-- the record of the instruction i of the chunk c
module _ (s ws : List ℕ) (t : Tables) (f : Finished s ws t) (c : ℕ) (ch : ChunkNumbers) (i : ℕ) (h : Here s ws c ch i) (v : RowVisit) (x : Visits s ws c i v) where
  pub record-made : (len k : ℕ) → k ≡ length (guards (visit_in s ws v)) → len ≡ 12 + 49 * (v.height + ch.locals) + 51 * v.ins.given + 4 * k
      → (19 ∷ le16 len) ++ ((le16 c ++ le16 i) ++ ((le16 v.height ++ (le16 ch.locals ++ (le16 v.ins.given ++ le16 k))) ++ values_in s ws v))
      ≡ record_at s ws c i
  record-made len k q e =
      let n = (f.ended.prepared.indexed.good.each_chunk v.chunk x.0.chunk).number in
      rw (← x.1, ← x.2) (record-parts s ws v x.0 f.ended.prepared.known n ch (numbers-here s ws t f c ch i h v x) len k q e)

  pub record-room : length (record_at s ws c i) ≡ 15 + length (values_in s ws v)
  record-room = rw (← x.1, ← x.2) (record-long s ws v x.0 f.ended.prepared.known)

-- ---- a signature
-- inputs and result stand one after the other
pub input-room : (s ws : List ℕ) (c : ℕ) (ch : ChunkNumbers) → Indexed s ws → c < length (module_of s).chunks → ch ≡ chunk_at s ws c
    → (ch.inputs + 16 * (ch.params + 1) ≤ length ws) × (ch.inputs + 16 * (ch.params + 1) < 4294967296) × (ch.inputs ≡ input_at (module_of s) c 0)
unfolding input_at result_at chunk_at
input-room s ws c ch x h e =
    let i : ch.inputs ≡ input_at (module_of s) c 0 = ap (λ (y : ChunkNumbers). y.inputs) e in
    let r = result-in (module_of s) c h in
    let n = params_is s ws c ch e in
    (omega (arith, i, r, n, x.room), omega (arith, i, r, n, x.good.small), i)

pub signature-parts : (s ws : List ℕ) (c len n p : ℕ) → n ≡ length (chunk_no (module_of s) c).params → len ≡ 2 + 49 * (n + 1) → p ≡ input_at (module_of s) c 0
    → (17 ∷ le16 len) ++ (le16 c ++ cells_bytes (cells_at ws p (n + 1))) ≡ signature_at s ws c
unfolding signature_at signature_bytes field input_at result_at
signature-parts s ws c len n p e h q =
    let k = length (chunk_no (module_of s) c).params in
    let is = cells_bytes (cells_at ws (input_at (module_of s) c 0) k) in
    let r = cell_bytes (cell_at ws (result_at (module_of s) c)) in
    let z : input_at (module_of s) c 0 + 16 * k ≡ result_at (module_of s) c = omega arith in
    let cells : cells_bytes (cells_at ws p (n + 1)) ≡ is ++ r =
    ap₂ (λ (a b : ℕ). cells_bytes (cells_at ws a (b + 1))) q e
    ∙ sym (cells-more ws (input_at (module_of s) c 0) k) ∙ ap (λ (a : ℕ). is ++ cell_bytes (cell_at ws a)) z in
    let l : len ≡ length (le16 c ++ (is ++ r)) = omega (arith, h, e, signature-long s ws c, field-long 17 (le16 c ++ (is ++ r))) in
    λ j. 17 ∷ (le16 (l j) ++ (le16 c ++ cells j))
