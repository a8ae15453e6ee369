-- An instruction has one visit, so that what is found of it is so of all; an accepted run has no fault exactly where no chunk has one.
use Prim.Native.Nat.{ℕ, ◌+◌, ◌<◌, ◌≤◌}
use native.Mathlib.Omega.{arith}
use mathlib.Core.Path.{◌≡◌, refl, sym, ap, ◌∙◌}
use mathlib.Core.Bool.{true, false}
use mathlib.Core.List.{List}
use lib.Dec.{eqb}
use lib.ListN.{length, get_or}
use borrow.Author.Tests.{eqb-true, eqb-false, not-true, not-false}
use Rattle.definition.specs.Module.{module_of}
use Rattle.definition.specs.Leaves.{always}
use Rattle.form_laws.specs.Good.{chunk_no}
use Rattle.layout.specs.declared.Chunk.{Chunk as ChunkNumbers}
use Rattle.layout.specs.Layout.{row_at}
use Rattle.layout.proofs.Read.{Row, row-known, stack_is}
use Rattle.visit.specs.declared.RowVisit.{RowVisit}
use Rattle.visit.specs.Held.{Looking, state_of, visit_in}
use Rattle.run_state.specs.Course.{Ended, Low, LowBefore}
use Rattle.report_size.specs.Reporting.{Faultless}
use Rattle.report_size.specs.Here.{Here}
use Rattle.report_size.specs.recorded.Told.{recorded}
use Rattle.resumable.specs.Decides.{Decides}
use Rattle.resumable.specs.faultless.Fine.{FineAt, FineIn}
use Rattle.resumable.proofs.Decides.{reworded, eq_decided}
use Rattle.resumable.proofs.Low.{reached-recordable, recordable-reached}

-- ---- a row has a state, or none
module _ (ws : List ℕ) (row p : ℕ) (e : row ≡ p) where
  pub unrecorded : recorded ws row ≡ false → get_or ws p 0 ≡ 0
  unrecorded z = eqb-true (get_or ws p 0) 0 (not-false _ (ap (recorded ws) (sym e) ∙ z))

  pub has-state : recorded ws row ≡ true → 0 < get_or ws p 0
  has-state z = let n = eqb-false (get_or ws p 0) 0 (not-true _ (ap (recorded ws) (sym e) ∙ z)) in omega arith

module _ (s ws : List ℕ) where
  -- ---- one visit
  same-visit : (v u : RowVisit) → Looking s ws v → Looking s ws u → v.chunk ≡ u.chunk → v.at ≡ u.at → visit_in s ws v ≡ visit_in s ws u
  unfolding visit_in state_of
  same-visit v u x y p q =
      let r : row_at (module_of s) v.chunk v.at ≡ row_at (module_of s) u.chunk u.at = cc in
      let w : get_or ws (row_at (module_of s) v.chunk v.at) 0 ≡ get_or ws (row_at (module_of s) u.chunk u.at) 0 = cc in
      let k : v.row ≡ u.row = x.row ∙ r ∙ sym y.row in
      let h : v.height ≡ u.height = omega (arith, x.height, y.height) in
      cc

  pub fine-decided : (n i : ℕ) (u : RowVisit) → Looking s ws u → u.chunk ≡ n → u.at ≡ i → (f : ℕ) → f ≡ always (visit_in s ws u)
      → Decides (eqb f 0) (FineAt s ws n i)
  unfolding FineAt
  fine-decided n i u y p q f e =
      reworded
      (λ z v x a b. ap always (same-visit v u x y (a ∙ sym p) (b ∙ sym q)) ∙ sym e ∙ z)
      (λ all. e ∙ all u y p q)
      (eq_decided f 0)

  pub fine-none : (n i : ℕ) → get_or ws (row_at (module_of s) n i) 0 ≡ 0 → FineAt s ws n i
  unfolding FineAt
  fine-none n i z v x a b =
      let e : get_or ws (row_at (module_of s) v.chunk v.at) 0 ≡ get_or ws (row_at (module_of s) n i) 0 = cc in
      absurd (omega (arith, x.height))

  -- ---- all chunks
  pub faultless-all : ((n : ℕ) → n < length (module_of s).chunks → FineIn s ws n) → Faultless s ws
  unfolding Faultless FineIn FineAt
  faultless-all all v x r =
      all v.chunk x.chunk v.at (omega (arith, x.at, reached-recordable s v.chunk r)) v x refl refl

  pub faultless-in : Faultless s ws → (n : ℕ) → FineIn s ws n
  unfolding Faultless FineIn FineAt
  faultless-in f n i l v x a b =
      f v x (ap (λ (k : ℕ). (chunk_no (module_of s) k).reachable) a ∙ recordable-reached s n i l)

  -- ---- the row of an instruction of a reachable chunk
  module _ (d : Ended s ws) (n : ℕ) (ch : ChunkNumbers) (i : ℕ) (h : Here s ws n ch i) where
    pub row_here : Row s ws n ch i
    row_here = row-known s ws n ch i d.prepared.indexed h.chunk h.numbers h.at

    pub low-here : get_or ws (row_at (module_of s) n i) 0 ≤ ch.stack + 1
    unfolding LowBefore Low
    low-here = omega (arith, d.low n h.chunk h.reachable i row_here.there, stack_is s ws n ch h.numbers)
