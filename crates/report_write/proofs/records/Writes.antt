-- Writes one after the other: what each turn of a loop adds to what is written.
use Prim.Native.Nat.{ℕ, zero, suc, ◌+◌, ◌*◌, ◌%◌, ◌<◌, ◌≤◌}
use native.Mathlib.Nat.{zero-add}
use native.Mathlib.Omega.{arith}
use mathlib.Core.Path.{◌≡◌, refl, sym, ap, ◌∙◌}
use mathlib.Core.List.{List, [], ◌∷◌, ◌++◌, append_assoc, append-nil}
use lib.ListN.{length}
use Rattle.widths.specs.declared.Width.TheVariants.{Unknown as Wide}
use Rattle.cells.specs.declared.Cell.{Cell}
use Rattle.le.specs.Le.{le16}
use Rattle.le.specs.Wrote.{put, Wrote, WroteN}
use Rattle.le.proofs.Laws.{and_then, resize, same_length}
use Rattle.words.specs.Layout.{cell_at}
use Rattle.words.specs.Rows.{cells_at}
use Rattle.words.proofs.RowLaws.{cells_at-append, cells_at-one}
use Rattle.definition.specs.Module.{row}
use Rattle.definition.specs.Report.{placed, field, cell_bytes, cells_bytes, outputs_bytes, slot_bytes}
use Rattle.form_laws.proofs.Each.{suc-out}
use Rattle.report_cells.proofs.Laws.{said}
use Rattle.report_size.specs.Span.{span}
use Rattle.report_size.proofs.Span.{span_none, span_more, span-room}
use Rattle.report_size.proofs.Four.{four-at, four-long}
use Rattle.report_size.specs.Adds.{bare_at}
use Rattle.report_laws.proofs.Walk.{field-long}
use Rattle.report_write.specs.records.Writes.{slot_from}
use Rattle.layout.specs.Layout.{head_words}

-- nothing written
pub wrote_none : (l : List ℕ) (at : ℕ) → WroteN l at 0 [] l at
unfolding put
wrote_none l at = record { bytes = refl; size = refl; next = omega arith }

-- a write by its bytes
pub exact : {l l' : List ℕ} {at r n : ℕ} {a : List ℕ} → WroteN l at n a l' r → Wrote l at a l' r
exact w = resize w (sym w.size)

-- the same bytes, said otherwise
pub said-exact : {l l' : List ℕ} {at r : ℕ} {a b : List ℕ} → Wrote l at a l' r → a ≡ b → Wrote l at b l' r
said-exact w e = exact (said w e)

-- ---- a loop that writes what f gives at each number
module _ (f : ℕ → List ℕ) (i : ℕ) (l : List ℕ) (at : ℕ) where
  pub span-start : Wrote l at (span f i i) l at
  span-start = said-exact (wrote_none l at) (sym (span_none f i))

  module _ (k : ℕ) (h : i ≤ k) (l₁ : List ℕ) (p : ℕ) (w : Wrote l at (span f i k) l₁ p) where
    pub span_fits : (e : ℕ) → k < e → at + length (span f i e) ≤ length l → p + length (f k) ≤ length l₁
    span_fits e m r = omega (arith, w.next, span-room f i k e h m, same_length w)

    pub span-turn : (l₂ : List ℕ) (r : ℕ) → Wrote l₁ p (f k) l₂ r → Wrote l at (span f i (k + 1)) l₂ r
    span-turn l₂ r v = exact (said (and_then w v) (sym (span_more f i k h)))

-- ---- cells, one more
cells-append : (a b : List Cell) → cells_bytes (a ++ b) ≡ cells_bytes a ++ cells_bytes b
unfolding cells_bytes
cells-append [] b = refl
cells-append (c ∷ a) b = ap (λ (l : List ℕ). cell_bytes c ++ l) (cells-append a b) ∙ sym (append_assoc (cell_bytes c) (cells_bytes a) (cells_bytes b))

pub cells-more : (ws : List ℕ) (p k : ℕ) → cells_bytes (cells_at ws p k) ++ cell_bytes (cell_at ws (p + 16 * k)) ≡ cells_bytes (cells_at ws p (k + 1))
unfolding cells_bytes
cells-more ws p k =
    sym (ap cells_bytes (cells_at-append ws p k 1)
    ∙ cells-append (cells_at ws p k) (cells_at ws (p + 16 * k) 1)
    ∙ ap (λ (cs : List Cell). cells_bytes (cells_at ws p k) ++ cells_bytes cs) (cells_at-one ws (p + 16 * k))
    ∙ ap (λ (l : List ℕ). cells_bytes (cells_at ws p k) ++ l) (append-nil (cell_bytes (cell_at ws (p + 16 * k)))))

pub cells-none : (ws : List ℕ) (p : ℕ) → [] ≡ cells_bytes (cells_at ws p 0)
unfolding cells_bytes cells_at
cells-none ws p = refl

-- ---- outputs, one more
one-output : (f : ℕ → Cell) (p i k : ℕ)
    → outputs_bytes (placed p (row f i k)) ++ (le16 (p + k) ++ cell_bytes (f (i + k))) ≡ outputs_bytes (placed p (row f i (suc k)))
unfolding outputs_bytes placed row
one-output f p i zero =
    let z : p + 0 ≡ p = omega arith in
    let y : i + 0 ≡ i = omega arith in
    rw (z, y) (ap (λ (l : List ℕ). le16 p ++ l) (sym (append-nil (cell_bytes (f i)))))
one-output f p i (suc k) =
    rw (suc-out p k, suc-out i k, append_assoc, append_assoc) (ap (λ (l : List ℕ). le16 p ++ (cell_bytes (f i) ++ l)) (one-output f (suc p) (suc i) k))

pub outputs-more : (f : ℕ → Cell) (p k : ℕ)
    → outputs_bytes (placed p (row f 0 k)) ++ (le16 (p + k) ++ cell_bytes (f k)) ≡ outputs_bytes (placed p (row f 0 (k + 1)))
outputs-more f p k =
    let z : k + 1 ≡ suc k = omega arith in
    rw z (rw (zero-add k) at (one-output f p 0 k))

pub outputs-none : (f : ℕ → Cell) (p : ℕ) → [] ≡ outputs_bytes (placed p (row f 0 0))
unfolding outputs_bytes placed row
outputs-none f p = refl

-- ---- numbers in 16 bits
pub low16 : (n : ℕ) → n < 65536 → le16 (n % 65536) ≡ le16 n
low16 n h = let e : n % 65536 ≡ n = omega arith in ap le16 e

-- ---- a slot
pub slot-bytes : (ws : List ℕ) (chunks k p : ℕ) (c : Cell) → p ≡ head_words + 16 * chunks + 16 * k → c ≡ cell_at ws p
    → (18 ∷ le16 49) ++ cell_bytes (record { mask = c.mask; width = Wide; flow = c.flow }) ≡ slot_from ws chunks k
unfolding slot_from slot_bytes field
slot-bytes ws chunks k p c e h =
    rw (h, e)
    (ap (λ (n : ℕ). 18 ∷ (le16 n ++ cell_bytes (bare_at ws (head_words + 16 * chunks + 16 * k))))
    (sym (four-long (bare_at ws (head_words + 16 * chunks + 16 * k)) (four-at ws (head_words + 16 * chunks + 16 * k)))))

pub slot-long : (ws : List ℕ) (chunks k : ℕ) → length (slot_from ws chunks k) ≡ 52
unfolding slot_from slot_bytes
slot-long ws chunks k =
    let p = head_words + 16 * chunks + 16 * k in
    omega (arith, field-long 18 (cell_bytes (bare_at ws p)), four-long (bare_at ws p) (four-at ws p))
