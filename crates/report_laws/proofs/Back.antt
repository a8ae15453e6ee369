-- A report read back from its bytes is the report.
use Prim.Native.Nat.{ℕ, ◌+◌, ◌*◌, ◌-◌}
use native.Mathlib.Omega.{arith}
use mathlib.Core.Path.{◌≡◌, refl, sym, ◌∙◌, ap, ap₂}
use mathlib.Core.List.{List, [], ◌∷◌, ◌++◌, map, append-nil}
use lib.ListN.{length, length-append}
use borrow.Author.Tests.{ne_eqb}
use Rattle.le.specs.Le.{at16, at32, le16, le32}
use Rattle.masks.specs.Mask.{of}
use Rattle.cells.specs.declared.Cell.{Cell}
use Rattle.description.specs.Fields.{fields_from, of_tag, tag_at}
use Rattle.definition.specs.Wants.{Guarded}
use Rattle.definition.specs.Report.{Report, Record, Output, Signature, Inspection, Branch, cell_bytes, cells_bytes, outputs_bytes, guards_bytes, counts_bytes, field, signature_bytes, slot_bytes, record_bytes, inspection_bytes, branch_bytes, report_bytes}
use Rattle.report_laws.proofs.Has.{Has, has_left, has_right, has-head, has-at, has_same, has_all, read16, read32, long16, long32}
use Rattle.machine_laws.proofs.All.{All, nil, cons}
use Rattle.description.proofs.Walk.{fields-turn, fields-end}
use Rattle.report_laws.proofs.Cells.{Proper, cell-long, cell-read, cells-long, cells-read}
use Rattle.report_laws.proofs.Walk.{tags-append, field-long, contents-at, length_at, tag-at, next-at, group, places, group-walk, group-own, group-other, group-read}
pub use Rattle.report_laws.specs.Proper.{ProperSignature, ProperRecord, ProperReport}
use Rattle.report_laws.specs.Read.{row_at, read_cell, read_cells, inputs_in, read_signature, read_output, read_guard, read_record, read_inspection, read_branch, read_from, read_report}

-- ---- outputs and guards
pub outputs-long : {os : List Output} → All (λ o. Proper o.cell) os → length (outputs_bytes os) ≡ 51 * length os
unfolding outputs_bytes
outputs-long nil = refl
outputs-long (cons {x = o} {xs = os} p ps) =
    omega (
      arith,
      length-append (le16 o.slot) (cell_bytes o.cell ++ outputs_bytes os),
      length-append (cell_bytes o.cell) (outputs_bytes os),
      long16 o.slot,
      cell-long o.cell p.four,
      outputs-long ps,
    )

output-same : (o : Output) (n : ℕ) (c : Cell) → n ≡ o.slot → c ≡ o.cell → record { slot = n; cell = c } ≡ o
output-same o n c a b = λ i. record { slot = a i; cell = b i }

outputs-read : {s : List ℕ} {q : ℕ} {os : List Output} → All (λ o. Proper o.cell) os → Has s q (outputs_bytes os) → row_at (read_output s) 51 q (length os) ≡ os
unfolding outputs_bytes row_at read_output
outputs-read nil h = refl
outputs-read {s} {q} (cons {x = o} {xs = os} p ps) h =
    let rest : List ℕ = cell_bytes o.cell ++ outputs_bytes os in
    let h₁ : Has s (q + 2) rest = has_right 2 (le16 o.slot) rest (long16 _) h in
    let h₂ : Has s (q + 51) (outputs_bytes os) =
    has-at (q + 51) (omega arith) (has_right 49 (cell_bytes o.cell) (outputs_bytes os) (cell-long o.cell p.four) h₁) in
    ap₂ (λ a b. a ∷ b)
    (output-same o _ _ (read16 _ (has_left (le16 o.slot) rest h)) (cell-read o.cell p (has_left (cell_bytes o.cell) (outputs_bytes os) h₁)))
    (outputs-read {q = q + 51} ps h₂)

pub guards-long : (gs : List Guarded) → length (guards_bytes gs) ≡ 4 * length gs
unfolding guards_bytes
guards-long [] = refl
guards-long (g ∷ gs) =
    omega (
      arith,
      length-append (le16 g.place) (le16 g.mask.bits ++ guards_bytes gs),
      length-append (le16 g.mask.bits) (guards_bytes gs),
      long16 g.place,
      long16 g.mask.bits,
      guards-long gs,
    )

guard-same : (g : Guarded) (n k : ℕ) → n ≡ g.place → k ≡ g.mask.bits → record { place = n; mask = of k } ≡ g
guard-same g n k a b = λ i. record { place = a i; mask = of (b i) }

guards-read : {s : List ℕ} {q : ℕ} (gs : List Guarded) → Has s q (guards_bytes gs) → row_at (read_guard s) 4 q (length gs) ≡ gs
unfolding guards_bytes row_at read_guard
guards-read [] h = refl
guards-read {s} {q} (g ∷ gs) h =
    let rest : List ℕ = le16 g.mask.bits ++ guards_bytes gs in
    let h₁ : Has s (q + 2) rest = has_right 2 (le16 g.place) rest (long16 _) h in
    let h₂ : Has s (q + 4) (guards_bytes gs) = has-at (q + 4) (omega arith) (has_right 2 (le16 g.mask.bits) (guards_bytes gs) (long16 _) h₁) in
    ap₂ (λ a b. a ∷ b)
    (guard-same g _ _ (read16 _ (has_left (le16 g.place) rest h)) (read16 _ (has_left (le16 g.mask.bits) (guards_bytes gs) h₁)))
    (guards-read {q = q + 4} gs h₂)

-- ---- the contents of each field
abbrev pub signature_in : Signature → List ℕ
signature_in x = le16 x.chunk ++ (cells_bytes x.inputs ++ cell_bytes x.result)

abbrev pub record_in : Record → List ℕ
record_in x =
    le16 x.chunk
    ++ (le16 x.instruction
    ++ (counts_bytes x
    ++ (cells_bytes x.stack
    ++ (cells_bytes x.locals
    ++ (outputs_bytes x.outputs
    ++ guards_bytes x.guards)))))

abbrev pub inspection_in : Inspection → List ℕ
inspection_in x = le16 x.chunk ++ le16 x.instruction

abbrev pub branch_in : Branch → List ℕ
branch_in x = le16 x.chunk ++ (le16 x.instruction ++ (x.value ∷ []))

inputs_in_lem : (n : ℕ) → inputs_in (49 * n) ≡ n
unfolding inputs_in
inputs_in_lem n = omega arith

signature-read : {s : List ℕ} {p : ℕ} (x : Signature) → ProperSignature x → Has s p (field 17 (signature_in x)) → read_signature s p ≡ x
unfolding read_signature
signature-read {s} {p} x ok h =
    let c = contents-at 17 (signature_in x) h in
    let rest : List ℕ = cells_bytes x.inputs ++ cell_bytes x.result in
    let l = cells-long ok.inputs in
    let r = cell-long x.result ok.result.four in
    let n : at16 s (p + 1) - 51 ≡ 49 * length x.inputs =
    omega (arith, length_at 17 (signature_in x) h, length-append (le16 x.chunk) rest, length-append (cells_bytes x.inputs) (cell_bytes x.result), long16 x.chunk) in
    let e : inputs_in (at16 s (p + 1) - 51) ≡ length x.inputs = ap inputs_in n ∙ inputs_in_lem (length x.inputs) in
    let h₁ : Has s (p + 5) rest = has-at (p + 5) (omega arith) (has_right 2 (le16 x.chunk) rest (long16 _) c) in
    let h₂ : Has s (p + 5 + 49 * length x.inputs) (cell_bytes x.result) = has_right (49 * length x.inputs) (cells_bytes x.inputs) (cell_bytes x.result) l h₁ in
    let a : at16 s (p + 3) ≡ x.chunk = read16 _ (has_left (le16 x.chunk) rest c) in
    let b : read_cells s (p + 5) (inputs_in (at16 s (p + 1) - 51)) ≡ x.inputs = ap (λ k. read_cells s (p + 5) k) e ∙ cells-read ok.inputs (has_left (cells_bytes x.inputs) (cell_bytes x.result) h₁) in
    let d : read_cell s (p + 5 + 49 * inputs_in (at16 s (p + 1) - 51)) ≡ x.result = ap (λ k. read_cell s (p + 5 + 49 * k)) e ∙ cell-read x.result ok.result h₂ in
    λ i. record { chunk = a i; inputs = b i; result = d i }

record_same : (x : Record) (c n : ℕ) (st ls : List Cell) (os : List Output) (gs : List Guarded) → c ≡ x.chunk → n ≡ x.instruction → st ≡ x.stack → ls ≡ x.locals
    → os ≡ x.outputs → gs ≡ x.guards → record { chunk = c; instruction = n; stack = st; locals = ls; outputs = os; guards = gs } ≡ x
record_same x c n st ls os gs a b d e f g =
    λ i. record { chunk = a i; instruction = b i; stack = d i; locals = e i; outputs = f i; guards = g i }

-- the four counts
counts-read : {s : List ℕ} {q : ℕ} (x : Record) → Has s q (counts_bytes x)
    → (at16 s q ≡ length x.stack) × (at16 s (q + 2) ≡ length x.locals) × (at16 s (q + 4) ≡ length x.outputs) × (at16 s (q + 6) ≡ length x.guards)
unfolding counts_bytes
counts-read {s} {q} x h =
    let c : List ℕ = le16 (length x.guards) in
    let b : List ℕ = le16 (length x.outputs) ++ c in
    let a : List ℕ = le16 (length x.locals) ++ b in
    let h₁ : Has s (q + 2) a = has_right 2 (le16 (length x.stack)) a (long16 _) h in
    let h₂ : Has s (q + 4) b = has-at (q + 4) (omega arith) (has_right 2 (le16 (length x.locals)) b (long16 _) h₁) in
    let h₃ : Has s (q + 6) c = has-at (q + 6) (omega arith) (has_right 2 (le16 (length x.outputs)) c (long16 _) h₂) in (
      read16 _ (has_left (le16 (length x.stack)) a h),
      read16 _ (has_left (le16 (length x.locals)) b h₁),
      read16 _ (has_left (le16 (length x.outputs)) c h₂),
      read16 _ h₃,
    )

counts-long : (x : Record) → length (counts_bytes x) ≡ 8
unfolding counts_bytes le16
counts-long x = refl

record-read : {s : List ℕ} {p : ℕ} (x : Record) → ProperRecord x → Has s p (field 19 (record_in x)) → read_record s p ≡ x
unfolding read_record
record-read {s} {p} x ok h =
    let c = contents-at 19 (record_in x) h in
    let g : List ℕ = guards_bytes x.guards in
    let o : List ℕ = outputs_bytes x.outputs ++ g in
    let l : List ℕ = cells_bytes x.locals ++ o in
    let t : List ℕ = cells_bytes x.stack ++ l in
    let n : List ℕ = counts_bytes x ++ t in
    let i : List ℕ = le16 x.instruction ++ n in
    let hᵢ : Has s (p + 5) i = has-at (p + 5) (omega arith) (has_right 2 (le16 x.chunk) i (long16 _) c) in
    let hₙ : Has s (p + 7) n = has-at (p + 7) (omega arith) (has_right 2 (le16 x.instruction) n (long16 _) hᵢ) in
    let hₜ : Has s (p + 15) t = has-at (p + 15) (omega arith) (has_right 8 (counts_bytes x) t (counts-long x) hₙ) in
    let hₗ : Has s (p + 15 + 49 * length x.stack) l = has_right (49 * length x.stack) (cells_bytes x.stack) l (cells-long ok.stack) hₜ in
    let hₒ : Has s (p + 15 + 49 * length x.stack + 49 * length x.locals) o =
    has_right (49 * length x.locals) (cells_bytes x.locals) o (cells-long ok.locals) hₗ in
    let h₉ : Has s (p + 15 + 49 * length x.stack + 49 * length x.locals + 51 * length x.outputs) g =
    has_right (51 * length x.outputs) (outputs_bytes x.outputs) g (outputs-long ok.outputs) hₒ in
    let k = counts-read x (has_left (counts_bytes x) t hₙ) in
    let k₁ : at16 s (p + 9) ≡ length x.locals = ap (λ q. at16 s q) (omega arith) ∙ k.1 in
    let k₂ : at16 s (p + 11) ≡ length x.outputs = ap (λ q. at16 s q) (omega arith) ∙ k.2 in
    let k₃ : at16 s (p + 13) ≡ length x.guards = ap (λ q. at16 s q) (omega arith) ∙ k.3 in
    rw (k.0, k₁, k₂, k₃)
    (record_same x _ _ _ _ _ _ (read16 _ (has_left (le16 x.chunk) i c)) (read16 _ (has_left (le16 x.instruction) n hᵢ))
    (cells-read ok.stack (has_left (cells_bytes x.stack) l hₜ)) (cells-read ok.locals (has_left (cells_bytes x.locals) o hₗ))
    (outputs-read ok.outputs (has_left (outputs_bytes x.outputs) g hₒ)) (guards-read x.guards h₉))

inspection-read : {s : List ℕ} {p : ℕ} (x : Inspection) → Has s p (field 20 (inspection_in x)) → read_inspection s p ≡ x
unfolding read_inspection
inspection-read {s} {p} x h =
    let c = contents-at 20 (inspection_in x) h in
    let a = read16 x.chunk (has_left (le16 x.chunk) (le16 x.instruction) c) in
    let b = read16 x.instruction (has-at (p + 5) (omega arith) (has_right 2 (le16 x.chunk) (le16 x.instruction) (long16 _) c)) in
    λ i. record { chunk = a i; instruction = b i }

branch_read : {s : List ℕ} {p : ℕ} (x : Branch) → Has s p (field 21 (branch_in x)) → read_branch s p ≡ x
unfolding read_branch
branch_read {s} {p} x h =
    let c = contents-at 21 (branch_in x) h in
    let rest : List ℕ = le16 x.instruction ++ (x.value ∷ []) in
    let h₁ : Has s (p + 5) rest = has-at (p + 5) (omega arith) (has_right 2 (le16 x.chunk) rest (long16 _) c) in
    let h₂ : Has s (p + 7) (x.value ∷ []) = has-at (p + 7) (omega arith) (has_right 2 (le16 x.instruction) (x.value ∷ []) (long16 _) h₁) in
    let a = read16 x.chunk (has_left (le16 x.chunk) rest c) in
    let b = read16 x.instruction (has_left (le16 x.instruction) (x.value ∷ []) h₁) in
    let d = has-head h₂ in
    λ i. record { chunk = a i; instruction = b i; value = d i }

-- ---- the whole
always : {A : Type 0} (xs : List A) → All (λ x. Unit {0}) xs
always [] = nil
always (x ∷ xs) = cons tt (always xs)

five : (t : ℕ) (s a b c d e : List ℕ)
    → of_tag t s (a ++ (b ++ (c ++ (d ++ e)))) ≡ of_tag t s a ++ (of_tag t s b ++ (of_tag t s c ++ (of_tag t s d ++ of_tag t s e)))
five t s a b c d e =
    tags-append t s a (b ++ (c ++ (d ++ e)))
    ∙ ap (λ l. of_tag t s a ++ l) (tags-append t s b (c ++ (d ++ e)))
    ∙ ap (λ l. of_tag t s a ++ (of_tag t s b ++ l)) (tags-append t s c (d ++ e))
    ∙ ap (λ l. of_tag t s a ++ (of_tag t s b ++ (of_tag t s c ++ l))) (tags-append t s d e)

tag-past : (t : ℕ) (s ps : List ℕ) → tag_at s 0 ≡ 16 → (16 ≡ t → ⊥) → of_tag t s (0 ∷ ps) ≡ of_tag t s ps
unfolding of_tag
tag-past t s ps e ne = rw (ne_eqb (tag_at s 0) t (λ q. ne (sym e ∙ q)))

-- the groups of a report at their places: what each tag picks, and what is read there
module _ (s : List ℕ) (r : Report) (ok : ProperReport r) (p₁ p₂ p₃ p₄ p₅ : ℕ) where
  abbrev S : List ℕ
  S = places 17 signature_in p₁ r.signatures

  abbrev L : List ℕ
  L = places 18 cell_bytes p₂ r.slots

  abbrev R : List ℕ
  R = places 19 record_in p₃ r.records

  abbrev I : List ℕ
  I = places 20 inspection_in p₄ r.inspections

  abbrev B : List ℕ
  B = places 21 branch_in p₅ r.branches

  module _ (h₁ : Has s p₁ (group 17 signature_in r.signatures)) (h₂ : Has s p₂ (group 18 cell_bytes r.slots)) (h₃ : Has s p₃ (group 19 record_in r.records))
      (h₄ : Has s p₄ (group 20 inspection_in r.inspections)) (h₅ : Has s p₅ (group 21 branch_in r.branches)) where
    picked : (t : ℕ) (a b c d e : List ℕ) → of_tag t s S ≡ a → of_tag t s L ≡ b → of_tag t s R ≡ c → of_tag t s I ≡ d → of_tag t s B ≡ e
        → of_tag t s (S ++ (L ++ (R ++ (I ++ B)))) ≡ a ++ (b ++ (c ++ (d ++ e)))
    picked t a b c d e x₁ x₂ x₃ x₄ x₅ = five t s S L R I B ∙ (λ i. x₁ i ++ (x₂ i ++ (x₃ i ++ (x₄ i ++ x₅ i))))

    picks-17 : of_tag 17 s (S ++ (L ++ (R ++ (I ++ B)))) ≡ S
    picks-17 =
        picked 17 S [] [] [] [] (group-own 17 signature_in _ h₁) (group-other 18 cell_bytes 17 _ (λ e. omega arith) h₂) (group-other 19 record_in 17 _ (λ e. omega arith) h₃)
        (group-other 20 inspection_in 17 _ (λ e. omega arith) h₄) (group-other 21 branch_in 17 _ (λ e. omega arith) h₅)
        ∙ append-nil S

    picks-18 : of_tag 18 s (S ++ (L ++ (R ++ (I ++ B)))) ≡ L
    picks-18 =
        picked 18 [] L [] [] [] (group-other 17 signature_in 18 _ (λ e. omega arith) h₁) (group-own 18 cell_bytes _ h₂) (group-other 19 record_in 18 _ (λ e. omega arith) h₃)
        (group-other 20 inspection_in 18 _ (λ e. omega arith) h₄) (group-other 21 branch_in 18 _ (λ e. omega arith) h₅)
        ∙ append-nil L

    picks-19 : of_tag 19 s (S ++ (L ++ (R ++ (I ++ B)))) ≡ R
    picks-19 =
        picked 19 [] [] R [] [] (group-other 17 signature_in 19 _ (λ e. omega arith) h₁) (group-other 18 cell_bytes 19 _ (λ e. omega arith) h₂) (group-own 19 record_in _ h₃)
        (group-other 20 inspection_in 19 _ (λ e. omega arith) h₄) (group-other 21 branch_in 19 _ (λ e. omega arith) h₅)
        ∙ append-nil R

    picks-20 : of_tag 20 s (S ++ (L ++ (R ++ (I ++ B)))) ≡ I
    picks-20 =
        picked 20 [] [] [] I [] (group-other 17 signature_in 20 _ (λ e. omega arith) h₁) (group-other 18 cell_bytes 20 _ (λ e. omega arith) h₂)
        (group-other 19 record_in 20 _ (λ e. omega arith) h₃) (group-own 20 inspection_in _ h₄) (group-other 21 branch_in 20 _ (λ e. omega arith) h₅)
        ∙ append-nil I

    picks-21 : of_tag 21 s (S ++ (L ++ (R ++ (I ++ B)))) ≡ B
    picks-21 =
        picked 21 [] [] [] [] B (group-other 17 signature_in 21 _ (λ e. omega arith) h₁) (group-other 18 cell_bytes 21 _ (λ e. omega arith) h₂)
        (group-other 19 record_in 21 _ (λ e. omega arith) h₃) (group-other 20 inspection_in 21 _ (λ e. omega arith) h₄) (group-own 21 branch_in _ h₅)

    -- all fields, tag 16 before them
    read-groups : (ps : List ℕ) → at32 s 3 ≡ r.reply → tag_at s 0 ≡ 16 → ps ≡ 0 ∷ (S ++ (L ++ (R ++ (I ++ B)))) → read_from s ps ≡ r
    unfolding read_from
    read-groups ps a t e =
        let q : List ℕ = S ++ (L ++ (R ++ (I ++ B))) in
        let s₁ : map (read_signature s) (of_tag 17 s ps) ≡ r.signatures =
        ap (λ l. map (read_signature s) (of_tag 17 s l)) e ∙ ap (map (read_signature s)) (tag-past 17 s q t (λ x. omega arith) ∙ picks-17)
        ∙ group-read 17 signature_in ProperSignature (read_signature s) (λ q x o h. signature-read x o h) ok.signatures h₁ in
        let s₂ : map (λ p. read_cell s (p + 3)) (of_tag 18 s ps) ≡ r.slots =
        ap (λ l. map (λ p. read_cell s (p + 3)) (of_tag 18 s l)) e ∙ ap (map (λ p. read_cell s (p + 3))) (tag-past 18 s q t (λ x. omega arith) ∙ picks-18)
        ∙ group-read 18 cell_bytes Proper (λ p. read_cell s (p + 3)) (λ q x o h. cell-read x o (contents-at 18 (cell_bytes x) h)) ok.slots h₂ in
        let s₃ : map (read_record s) (of_tag 19 s ps) ≡ r.records =
        ap (λ l. map (read_record s) (of_tag 19 s l)) e ∙ ap (map (read_record s)) (tag-past 19 s q t (λ x. omega arith) ∙ picks-19)
        ∙ group-read 19 record_in ProperRecord (read_record s) (λ q x o h. record-read x o h) ok.records h₃ in
        let s₄ : map (read_inspection s) (of_tag 20 s ps) ≡ r.inspections =
        ap (λ l. map (read_inspection s) (of_tag 20 s l)) e ∙ ap (map (read_inspection s)) (tag-past 20 s q t (λ x. omega arith) ∙ picks-20)
        ∙ group-read 20 inspection_in (λ x. Unit {0}) (read_inspection s) (λ q x o h. inspection-read x h) (always r.inspections) h₄ in
        let s₅ : map (read_branch s) (of_tag 21 s ps) ≡ r.branches =
        ap (λ l. map (read_branch s) (of_tag 21 s l)) e ∙ ap (map (read_branch s)) (tag-past 21 s q t (λ x. omega arith) ∙ picks-21)
        ∙ group-read 21 branch_in (λ x. Unit {0}) (read_branch s) (λ q x o h. branch_read x h) (always r.branches) h₅ in
        λ i. record { reply = a i; signatures = s₁ i; slots = s₂ i; records = s₃ i; inspections = s₄ i; branches = s₅ i }

-- bytes that are the fields of a report
laid : (s : List ℕ) (r : Report) → ProperReport r → s ≡ report_bytes r → read_from s (fields_from s 0) ≡ r
unfolding report_bytes signature_bytes slot_bytes record_bytes inspection_bytes branch_bytes
laid s r ok e =
    let F : List ℕ = field 16 (le32 r.reply) in
    let G₁ : List ℕ = group 17 signature_in r.signatures in
    let G₂ : List ℕ = group 18 cell_bytes r.slots in
    let G₃ : List ℕ = group 19 record_in r.records in
    let G₄ : List ℕ = group 20 inspection_in r.inspections in
    let G₅ : List ℕ = group 21 branch_in r.branches in
    let T₅ : List ℕ = G₄ ++ G₅ in
    let T₄ : List ℕ = G₃ ++ T₅ in
    let T₃ : List ℕ = G₂ ++ T₄ in
    let T₂ : List ℕ = G₁ ++ T₃ in
    let h : Has s 0 (F ++ T₂) = has_same e (has_all s) in
    let hF : Has s 0 F = has_left F T₂ h in
    let lF : length F ≡ 7 = field-long 16 (le32 r.reply) ∙ omega (arith, long32 r.reply) in
    let p₂ : ℕ = 7 + length G₁ in
    let p₃ : ℕ = p₂ + length G₂ in
    let p₄ : ℕ = p₃ + length G₃ in
    let p₅ : ℕ = p₄ + length G₄ in
    let t₁ : Has s 7 T₂ = has_right 7 F T₂ lF h in
    let t₂ : Has s p₂ T₃ = has_right (length G₁) G₁ T₃ refl t₁ in
    let t₃ : Has s p₃ T₄ = has_right (length G₂) G₂ T₄ refl t₂ in
    let t₄ : Has s p₄ T₅ = has_right (length G₃) G₃ T₅ refl t₃ in
    let h₅ : Has s p₅ G₅ = has_right (length G₄) G₄ G₅ refl t₄ in
    let h₁ : Has s 7 G₁ = has_left G₁ T₃ t₁ in
    let h₂ : Has s p₂ G₂ = has_left G₂ T₄ t₂ in
    let h₃ : Has s p₃ G₃ = has_left G₃ T₅ t₃ in
    let h₄ : Has s p₄ G₄ = has_left G₄ G₅ t₄ in
    let n : length s ≡ p₅ + length G₅ =
    ap length e
    ∙ omega (arith, length-append F T₂, length-append G₁ T₃, length-append G₂ T₄, length-append G₃ T₅, length-append G₄ G₅) in
    let w₀ : fields_from s 0 ≡ 0 ∷ fields_from s 7 =
    fields-turn s 0 (omega arith) ∙ ap (λ q. 0 ∷ fields_from s q) (next-at 16 (le32 r.reply) hF ∙ omega (arith, long32 r.reply)) in
    let w₁ = group-walk 17 signature_in r.signatures h₁ (omega arith) in
    let w₂ = group-walk 18 cell_bytes r.slots h₂ (omega arith) in
    let w₃ = group-walk 19 record_in r.records h₃ (omega arith) in
    let w₄ = group-walk 20 inspection_in r.inspections h₄ (omega arith) in
    let w₅ = group-walk 21 branch_in r.branches h₅ (omega arith) in
    let S : List ℕ = places 17 signature_in 7 r.signatures in
    let L : List ℕ = places 18 cell_bytes p₂ r.slots in
    let R : List ℕ = places 19 record_in p₃ r.records in
    let I : List ℕ = places 20 inspection_in p₄ r.inspections in
    let B : List ℕ = places 21 branch_in p₅ r.branches in
    let w : fields_from s 0 ≡ 0 ∷ (S ++ (L ++ (R ++ (I ++ B)))) =
    w₀
    ∙ ap (λ l. 0 ∷ l)
    (w₁
    ∙ ap (λ l. S ++ l)
    (w₂
    ∙ ap (λ l. L ++ l)
    (w₃
    ∙ ap (λ l. R ++ l)
    (w₄ ∙ ap (λ l. I ++ l) (w₅ ∙ ap (λ l. B ++ l) (fields-end s (p₅ + length G₅) (omega arith)) ∙ append-nil B))))) in
    read-groups s r ok 7 p₂ p₃ p₄ p₅ h₁ h₂ h₃ h₄ h₅ (fields_from s 0) (read32 r.reply (contents-at 16 (le32 r.reply) hF)) (tag-at 16 (le32 r.reply) hF) w

-- a report read back from its bytes is the report
pub read_back : (r : Report) → ProperReport r → read_report (report_bytes r) ≡ r
unfolding read_report
read_back r ok = laid (report_bytes r) r ok refl
