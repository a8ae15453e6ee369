-- The fields of a table stand one behind another, each as long as the last, and no more of them than there may be.
use Prim.Native.Nat.{ℕ, zero, suc, ◌+◌, ◌*◌, ◌<◌, ◌≤◌}
use native.Mathlib.Omega.{arith}
use mathlib.Core.Path.{◌≡◌, refl, sym, ◌∙◌}
use mathlib.Core.Bool.{Bool, true, false}
use mathlib.Core.List.{List, [], ◌∷◌}
use lib.Dec.{eqb, ltb}
use lib.ListN.{length, get_or}
use borrow.Author.Tests.{eqb-true, eqb-false, eq-eqb, ne_eqb, ltb-true, ltb-false}
use Rattle.description.specs.Fields.{len_at, next_at, of_tag}
use Rattle.definition.specs.declared.Scan.{Scan}
use Rattle.definition.specs.Form.{so_far, placed}
use Rattle.form_laws.proofs.Faults.{table_len, table_most}
use Rattle.form_laws.proofs.Walk.{AtOther, Walk, end, chunk, instr, other}
use Rattle.form_laws.proofs.Front.{tag-this, tag-other}

-- the list of all fields of one tag
pub record Table (size most : ℕ) (l : List ℕ) : Type 0 where
  pub count : length l ≤ most
  pub place : (i : ℕ) → i < length l → get_or l i 0 ≡ get_or l 0 0 + size * i

-- those from p on, n of them before
record Rows (size most n p : ℕ) (l : List ℕ) : Type 0 where
  count : n + length l ≤ most
  place : (i : ℕ) → i < length l → get_or l i 0 ≡ p + size * i

no_rows : (size most n p : ℕ) → n ≤ most → Rows size most n p []
no_rows size most n p h = record { count = omega arith; place = λ i h. absurd (omega arith) }

one-row : (size most n p : ℕ) (l : List ℕ) → Rows size most (n + 1) (p + size) l → Rows size most n p (p ∷ l)
one-row size most n p l r = record { count = omega (arith, r.count); place = go }
  where
    go : (i : ℕ) → i < suc (length l) → get_or (p ∷ l) i 0 ≡ p + size * i
    go zero h = omega arith
    go (suc i) h = omega (arith, r.place i (omega arith))

all-rows : (size most p : ℕ) (l : List ℕ) → Rows size most 0 p l → Table size most l
all-rows size most p l r =
    record { count = omega (arith, r.count); place = λ i h. omega (arith, r.place i h, r.place 0 (omega arith)) }

-- those of tag k so far: none, or as many as the scan counts
so-far-new : (t : Scan) (k : ℕ) → t.place < k → so_far t k ≡ 0
unfolding so_far
so-far-new t k h = rw (ne_eqb t.place k (λ e. omega arith))

so-far-same : (t : Scan) (k : ℕ) → t.place ≡ k → so_far t k ≡ t.count
unfolding so_far
so-far-same t k h = rw (eq-eqb t.place k h)

module _ (s : List ℕ) (w k : ℕ) (table : 4 < k) where
  abbrev RowsFrom : ℕ → ℕ → List ℕ → Type 0
  RowsFrom n p ps = Rows (3 + table_len k) (table_most k) n p (of_tag k s ps)

  -- after a later table there are none
  none-later : {p : ℕ} {ps : List ℕ} {t : Scan} → Walk s w p ps t → k < t.place → of_tag k s ps ≡ []
  unfolding of_tag
  none-later (end h) l = refl
  none-later (chunk c r) l = absurd (omega (arith, c.early))
  none-later (instr c r) l = absurd (omega (arith, c.early))
  none-later (other {p} {ps} j n c r) l =
      let m = c.order in
      rw (tag-other s p ps k (λ q. omega (arith, c.tag))) (none-later r (omega arith))

  later-row : {p : ℕ} {ps : List ℕ} {t : Scan} {j n : ℕ} → AtOther s p j n t → Walk s w (next_at s p) ps (placed j n t) → k < j → of_tag k s (p ∷ ps) ≡ []
  later-row {p} {ps} c r l = rw (tag-other s p ps k (λ q. omega (arith, c.tag))) (none-later r l)

  -- a field of the table in front of the others
  this-row : {p : ℕ} (ps : List ℕ) {t : Scan} {j n : ℕ} → AtOther s p j n t → j ≡ k
      → (n ≤ table_most k → RowsFrom n (next_at s p) ps) → RowsFrom (so_far t j) p (p ∷ ps)
  unfolding next_at
  this-row {p} ps {t} {j} {n} c e below =
      let past : 4 < j = omega arith in
      let len : len_at s p ≡ table_len k = rw e at (c.len past) in
      let next : p + 3 + len_at s p ≡ p + (3 + table_len k) = omega arith in
      let most : n ≤ table_most k = rw e at (c.count past) in
      rw (tag-this s p ps k (c.tag ∙ e)) (one-row _ _ (so_far t j) p (of_tag k s ps) (rw (next, c.counted past) at (below most)))

  -- within the table
  rows_then : {p : ℕ} {ps : List ℕ} {t : Scan} → Walk s w p ps t → t.place ≡ k → t.count ≤ table_most k → RowsFrom t.count p ps
  unfolding of_tag
  rows_then (end {p} {t} h) l m = no_rows _ _ t.count p m
  rows_then (chunk c r) l m = absurd (omega (arith, c.early))
  rows_then (instr c r) l m = absurd (omega (arith, c.early))
  rows_then (other {p} {ps} {t} j n c r) l m = go (eqb j k) refl (rows_then r)
    where
      go : (b : Bool) → eqb j k ≡ b → (j ≡ k → n ≤ table_most k → RowsFrom n (next_at s p) ps) → RowsFrom t.count p (p ∷ ps)
      go true b below =
          let e = eqb-true j k b in
          rw (so-far-same t j (l ∙ sym e)) at (this-row ps c e (below e))
      go false b below = rw (later-row c r (omega (arith, c.order, eqb-false j k b))) (no_rows _ _ t.count p m)

  -- before the table: its fields are those of the whole table
  pub table-rows : {p : ℕ} {ps : List ℕ} {t : Scan} → Walk s w p ps t → t.place < k → Table (3 + table_len k) (table_most k) (of_tag k s ps)
  unfolding of_tag
  table-rows (end {p} h) l = all-rows _ _ p [] (no_rows _ _ 0 p (omega arith))
  table-rows (chunk {p} {ps} c r) l = rw (tag-other s p ps k (λ q. omega (arith, c.tag))) (table-rows r (omega arith))
  table-rows (instr {p} {ps} c r) l = rw (tag-other s p ps k (λ q. omega (arith, c.tag))) (table-rows r (omega arith))
  table-rows (other {p} {ps} {t} j n c r) l = go (ltb j k) (ltb k j) refl refl (table-rows r)
    where
      go : (a b : Bool) → ltb j k ≡ a → ltb k j ≡ b → (j < k → Table (3 + table_len k) (table_most k) (of_tag k s ps))
          → Table (3 + table_len k) (table_most k) (of_tag k s (p ∷ ps))
      go true b x y below = let h = ltb-true j k x in rw (tag-other s p ps k (λ q. omega (arith, c.tag))) (below h)
      go false true x y below = rw (later-row c r (ltb-true k j y)) (all-rows _ _ p [] (no_rows _ _ 0 p (omega arith)))
      go false false x y below =
          let e : j ≡ k = omega (arith, ltb-false j k x, ltb-false k j y) in
          all-rows _ _ p (of_tag k s (p ∷ ps)) (rw (so-far-new t j (omega arith)) at (this-row ps c e (λ m. rows_then r e m)))
