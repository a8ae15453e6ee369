-- A cell written is the cell read: four extents, and an origin and a receiver that a report can name.
use Rattle.std.specs.Prelude.{Option, None, Some}
use Prim.Native.Nat.{ℕ, ◌+◌, ◌*◌}
use native.Mathlib.Omega.{arith}
use mathlib.Core.Path.{◌≡◌, refl, sym, ◌∙◌, ap, ap₂}
use mathlib.Core.Bool.{Bool, true, false}
use mathlib.Core.List.{List, [], ◌∷◌, ◌++◌}
use lib.ListN.{length, length-append}
use borrow.Author.Tests.{ne_eqb}
use Rattle.le.specs.Le.{at8, at16, at32, le16, le32}
use Rattle.masks.specs.Mask.{of}
use Rattle.widths.specs.declared.Width.{Width}
use Rattle.widths.specs.declared.Width.TheVariants.{Unknown as Wide, Scalar, Body}
use Rattle.extents.specs.declared.BodyExtent.{BodyExtent}
use Rattle.extents.specs.declared.BodyExtent.TheVariants.{Absent, Range, Unknown}
use Rattle.extents.specs.declared.Extent.{Extent}
use Rattle.flows.specs.declared.Flow.{Flow}
use Rattle.flows.specs.declared.Predicate.{Predicate}
use Rattle.flows.specs.declared.Predicate.TheVariants.{Nothing as Untested, Tests}
use Rattle.cells.specs.declared.Cell.{Cell}
use Rattle.machine_laws.proofs.All.{All, nil, cons}
use Rattle.definition.specs.Report.{sized_bytes, width_bytes, range_bytes, body_bytes, owned_byte, origin_number, receiver_number, when_byte, bodies_bytes, source_bytes, cell_bytes, cells_bytes}
use Rattle.report_laws.proofs.Has.{Has, has_left, has_right, has-head, has-tail, has-at, read16, read32, long16, long32}
use Rattle.report_laws.specs.Names.{NamesLocal, NamesReceiver}
pub use Rattle.report_laws.specs.Proper.{FlowNaming, CellNaming, Sayable, ProperFlow, Proper}
use Rattle.report_laws.specs.Read.{row_at, read_width, read_extent, read_owned, read_origin, read_predicate, read_cell, read_cells}

-- ---- the parts of a cell
sized-read : {s : List ℕ} {q : ℕ} (tag n : ℕ) → Has s q (sized_bytes tag n) → (at8 s q ≡ tag) × (at32 s (q + 1) ≡ n)
unfolding sized_bytes
sized-read tag n h = (has-head h, read32 n (has-tail h))

width_read : {s : List ℕ} {q : ℕ} (w : Width) → Has s q (width_bytes w) → read_width s q ≡ w
unfolding width_bytes read_width
width_read Wide h = rw (sized-read 0 0 h).0
width_read (Scalar n) h = rw (sized-read 1 n h).0 (ap Scalar (sized-read 1 n h).1)
width_read (Body n) h = rw (sized-read 2 n h).0 (ap Body (sized-read 2 n h).1)

width-long : (w : Width) → length (width_bytes w) ≡ 5
unfolding width_bytes sized_bytes le32
width-long Wide = refl
width-long (Scalar n) = refl
width-long (Body n) = refl

range-read : {s : List ℕ} {q : ℕ} (tag a b : ℕ) → Has s q (range_bytes tag a b) → (at8 s q ≡ tag) × (at32 s (q + 1) ≡ a) × (at32 s (q + 5) ≡ b)
unfolding range_bytes
range-read {s} {q} tag a b h = (
  has-head h,
  read32 a (has_left (le32 a) (le32 b) (has-tail h)),
  read32 b (has-at (q + 5) (omega arith) (has_right 4 (le32 a) (le32 b) (long32 a) (has-tail h))),
)

extent-read : {s : List ℕ} {q : ℕ} (x : BodyExtent) → Has s q (body_bytes x) → read_extent s q ≡ record { body = x }
unfolding body_bytes read_extent
extent-read Absent h = rw (range-read 0 0 0 h).0
extent-read (Range a b) h = let (t, m, n) = range-read 1 a b h in rw (t, m, n)
extent-read Unknown h = rw (range-read 2 0 0 h).0

extent-long : (x : BodyExtent) → length (body_bytes x) ≡ 9
unfolding body_bytes range_bytes le32
extent-long Absent = refl
extent-long (Range a b) = refl
extent-long Unknown = refl

bodies-read : {s : List ℕ} {q : ℕ} (xs : List Extent) → Has s q (bodies_bytes xs) → row_at (read_extent s) 9 q (length xs) ≡ xs
unfolding bodies_bytes row_at
bodies-read [] h = refl
bodies-read {q = q} (x ∷ xs) h =
    ap₂ (λ a b. a ∷ b) (extent-read x.body (has_left (body_bytes x.body) (bodies_bytes xs) h))
    (bodies-read {q = q + 9} xs (has_right 9 (body_bytes x.body) (bodies_bytes xs) (extent-long x.body) h))

pub bodies-long : (xs : List Extent) → length (bodies_bytes xs) ≡ 9 * length xs
unfolding bodies_bytes
bodies-long [] = refl
bodies-long (x ∷ xs) = omega (arith, length-append (body_bytes x.body) (bodies_bytes xs), extent-long x.body, bodies-long xs)

origin-read : (o : Option ℕ) → NamesLocal Sayable o → read_origin (origin_number o) ≡ o
unfolding origin_number read_origin NamesLocal
origin-read None n = refl
origin-read (Some l) n = rw (ne_eqb l 65535 n)

predicate-read : (p : Predicate) → NamesReceiver Sayable p → read_predicate (receiver_number p) (when_byte p) ≡ p
unfolding receiver_number when_byte read_predicate NamesReceiver
predicate-read Untested n = refl
predicate-read (Tests r true) n = rw (ne_eqb r 65535 n)
predicate-read (Tests r false) n = rw (ne_eqb r 65535 n)

owned-read : (o : Bool) → read_owned (owned_byte o) ≡ o
unfolding owned_byte read_owned
owned-read false = refl
owned-read true = refl

source-long : (f : Flow) → length (source_bytes f) ≡ 6
unfolding source_bytes le16
source-long f = refl

source-read : {s : List ℕ} {q : ℕ} (f : Flow) → Has s q (source_bytes f)
    → (at8 s q ≡ owned_byte f.owned) × (at16 s (q + 1) ≡ origin_number f.origin) × (at16 s (q + 3) ≡ receiver_number f.predicate) × (at8 s (q + 5) ≡ when_byte f.predicate)
unfolding source_bytes
source-read {s} {q} f h =
    let rest : List ℕ = le16 (receiver_number f.predicate) ++ (when_byte f.predicate ∷ []) in
    let h₁ : Has s (q + 3) rest = has-at (q + 3) (omega arith) (has_right 2 (le16 (origin_number f.origin)) rest (long16 _) (has-tail h)) in
    let h₂ : Has s (q + 5) (when_byte f.predicate ∷ []) =
    has-at (q + 5) (omega arith) (has_right 2 (le16 (receiver_number f.predicate)) (when_byte f.predicate ∷ []) (long16 _) h₁) in (
      has-head h,
      read16 _ (has_left (le16 (origin_number f.origin)) rest (has-tail h)),
      read16 _ (has_left (le16 (receiver_number f.predicate)) (when_byte f.predicate ∷ []) h₁),
      has-head h₂,
    )

-- ---- cells
pub cell-long : (c : Cell) → length c.flow.bodies ≡ 4 → length (cell_bytes c) ≡ 49
unfolding cell_bytes
cell-long c e =
    omega (
      arith,
      length-append (le16 c.mask.bits) (width_bytes c.width ++ (bodies_bytes c.flow.bodies ++ source_bytes c.flow)),
      length-append (width_bytes c.width) (bodies_bytes c.flow.bodies ++ source_bytes c.flow),
      length-append (bodies_bytes c.flow.bodies) (source_bytes c.flow),
      long16 c.mask.bits,
      width-long c.width,
      bodies-long c.flow.bodies,
      source-long c.flow,
    )

cell_same : (c : Cell) (n : ℕ) (w : Width) (xs : List Extent) (o : Bool) (g : Option ℕ) (p : Predicate) → n ≡ c.mask.bits → w ≡ c.width → xs ≡ c.flow.bodies
    → o ≡ c.flow.owned → g ≡ c.flow.origin → p ≡ c.flow.predicate
    → record { mask = of n; width = w; flow = record { bodies = xs; owned = o; origin = g; predicate = p } } ≡ c
cell_same c n w xs o g p a b d e f h =
    λ i. record { mask = of (a i); width = b i; flow = record { bodies = d i; owned = e i; origin = f i; predicate = h i } }

pub cell-read : {s : List ℕ} {q : ℕ} (c : Cell) → Proper c → Has s q (cell_bytes c) → read_cell s q ≡ c
unfolding cell_bytes read_cell
cell-read {s} {q} c ok h =
    let t₂ : List ℕ = bodies_bytes c.flow.bodies ++ source_bytes c.flow in
    let t₁ : List ℕ = width_bytes c.width ++ t₂ in
    let h₁ : Has s (q + 2) t₁ = has_right 2 (le16 c.mask.bits) t₁ (long16 _) h in
    let h₂ : Has s (q + 7) t₂ = has-at (q + 7) (omega arith) (has_right 5 (width_bytes c.width) t₂ (width-long c.width) h₁) in
    let e₃ : length (bodies_bytes c.flow.bodies) ≡ 36 = omega (arith, bodies-long c.flow.bodies, ok.four) in
    let h₃ : Has s (q + 43) (source_bytes c.flow) =
    has-at (q + 43) (omega arith) (has_right 36 (bodies_bytes c.flow.bodies) (source_bytes c.flow) e₃ h₂) in
    let (a, b, d, e) = source-read c.flow h₃ in
    let b' : at16 s (q + 44) ≡ origin_number c.flow.origin = ap (λ k. at16 s k) (omega arith) ∙ b in
    let d' : at16 s (q + 46) ≡ receiver_number c.flow.predicate = ap (λ k. at16 s k) (omega arith) ∙ d in
    let e' : at8 s (q + 48) ≡ when_byte c.flow.predicate = ap (λ k. at8 s k) (omega arith) ∙ e in
    cell_same c _ _ _ _ _ _ (read16 _ (has_left (le16 c.mask.bits) t₁ h)) (width_read c.width (has_left (width_bytes c.width) t₂ h₁))
    (ap (λ n. row_at (read_extent s) 9 (q + 7) n) (sym ok.four) ∙ bodies-read c.flow.bodies (has_left (bodies_bytes c.flow.bodies) (source_bytes c.flow) h₂))
    (ap read_owned a ∙ owned-read c.flow.owned) (ap read_origin b' ∙ origin-read c.flow.origin ok.origin)
    (ap₂ read_predicate d' e' ∙ predicate-read c.flow.predicate ok.receiver)

pub cells-long : {cs : List Cell} → All Proper cs → length (cells_bytes cs) ≡ 49 * length cs
unfolding cells_bytes
cells-long nil = refl
cells-long (cons {x = c} {xs = cs} p ps) = omega (arith, length-append (cell_bytes c) (cells_bytes cs), cell-long c p.four, cells-long ps)

pub cells-read : {s : List ℕ} {q : ℕ} {cs : List Cell} → All Proper cs → Has s q (cells_bytes cs) → read_cells s q (length cs) ≡ cs
unfolding cells_bytes read_cells row_at
cells-read nil h = refl
cells-read {s = s} {q = q} (cons {x = c} {xs = cs} p ps) h =
    ap₂ (λ a b. a ∷ b) (cell-read c p (has_left (cell_bytes c) (cells_bytes cs) h))
    (cells-read {q = q + 49} ps (has_right 49 (cell_bytes c) (cells_bytes cs) (cell-long c p.four) h))
