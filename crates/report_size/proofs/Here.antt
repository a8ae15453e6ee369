-- What is known of a recorded instruction: its row, its visit, its bounds.
use Prim.Native.Nat.{ℕ, ◌+◌, ◌<◌, ◌≤◌}
use native.Mathlib.Omega.{arith}
use mathlib.Core.Path.{◌≡◌, refl, sym, ap, ap₂, ◌∙◌}
use mathlib.Core.Bool.{Bool, true, false, cond}
use mathlib.Core.List.{List}
use lib.Dec.{eqb}
use lib.ListN.{length, get_or}
use borrow.Author.Tests.{eqb-true, eqb-false, not-true, not-false}
use Rattle.description.specs.declared.Instr.{Instr}
use Rattle.definition.specs.declared.Want.{Want}
use Rattle.definition.specs.Module.{module_of}
use Rattle.definition.specs.Wants.{is_entry, want_of}
use Rattle.definition.specs.Leaves.{always, visit_of}
use Rattle.form_laws.specs.Good.{chunk_no}
use Rattle.layout.specs.declared.Tables.{Tables}
use Rattle.layout.specs.declared.Chunk.{Chunk as ChunkNumbers}
use Rattle.layout.specs.Layout.{row_at}
use Rattle.layout.specs.Indexed.{Indexed, chunk_at}
use Rattle.layout.proofs.Read.{Row, row-known, count-is, stack_is, locals-is, entry-is}
use Rattle.visit.specs.declared.RowVisit.{RowVisit}
use Rattle.visit.specs.Held.{Looking, known_in, visit_in}
use Rattle.run_state.specs.Course.{Low, LowBefore}
use Rattle.checks.specs.asked.Proving.{Asking}
use Rattle.report_size.specs.Reporting.{Faultless}
use Rattle.report_size.specs.Adds.{recordable}
use Rattle.report_size.specs.recorded.Told.{RowInside, recorded}
use Rattle.report_size.specs.Here.{Finished, Here}

-- its visit
abbrev pub Visits : List ℕ → List ℕ → ℕ → ℕ → RowVisit → Type 0
Visits s ws c i v = Looking s ws v × (v.chunk ≡ c) × (v.at ≡ i)

-- ---- the instructions that may be recorded
counted : (b : Bool) (n i : ℕ) → i < cond b n 0 → (b ≡ true) × (i < n)
counted true n i h = (refl, h)
counted false n i h = absurd (omega arith)

module _ (s ws : List ℕ) (c : ℕ) (ch : ChunkNumbers) (e : ch ≡ chunk_at s ws c) (k : ℕ) (q : k ≡ cond ch.reachable ch.count 0) where
  reachable-is : ch.reachable ≡ (chunk_no (module_of s) c).reachable
  unfolding chunk_at
  reachable-is = ap (λ (x : ChunkNumbers). x.reachable) e

  pub count-recordable : k ≡ recordable s c
  unfolding recordable
  count-recordable = q ∙ ap₂ (λ (b : Bool) (n : ℕ). cond b n 0) reachable-is (count-is s ws c ch e)

  pub counted-here : c < length (module_of s).chunks → (i : ℕ) → i < k → Here s ws c ch i
  counted-here h i l =
      let d = counted ch.reachable ch.count i (rw q at l) in
      record { chunk = h; numbers = e; reachable = sym reachable-is ∙ d.0; at = d.1 }

cond-most : (b : Bool) (n m : ℕ) → n ≤ m → cond b n 0 ≤ m
cond-most true n m h = h
cond-most false n m h = omega arith

pub coded-recordable : (s : List ℕ) (c : ℕ) → recordable s c ≤ length (chunk_no (module_of s) c).code
unfolding recordable
coded-recordable s c = cond-most (chunk_no (module_of s) c).reachable _ _ (omega arith)

pub few-recordable : (s ws : List ℕ) → Indexed s ws → (c : ℕ) → c < length (module_of s).chunks → recordable s c ≤ 4096
few-recordable s ws x c h = omega (arith, coded-recordable s c, (x.good.each_chunk c h).code)

module _ (s ws : List ℕ) (t : Tables) (f : Finished s ws t) (c : ℕ) (ch : ChunkNumbers) (i : ℕ) (h : Here s ws c ch i) where
  pub indexed : Indexed s ws
  indexed = f.ended.prepared.indexed

  pub row_here : Row s ws c ch i
  row_here = row-known s ws c ch i indexed h.chunk h.numbers h.at

  -- the row is no higher than its places
  pub low-here : get_or ws (row_at (module_of s) c i) 0 ≤ ch.stack + 1
  unfolding LowBefore Low
  low-here = omega (arith, f.ended.low c h.chunk h.reachable i row_here.there, stack_is s ws c ch h.numbers)

  pub stands_here : (row : ℕ) → row ≡ row_at (module_of s) c i → RowInside ws row
  stands_here row e =
      rw e
      (record {
        room = omega (arith, low-here, row_here, stack_is s ws c ch h.numbers);
        small = omega (arith, low-here, row_here, stack_is s ws c ch h.numbers);
      })

  -- it has a state, or none
  pub none_here : (row : ℕ) → row ≡ row_at (module_of s) c i → recorded ws row ≡ false → get_or ws (row_at (module_of s) c i) 0 ≡ 0
  none_here row e z = ap (λ (p : ℕ). get_or ws p 0) (sym e) ∙ eqb-true (get_or ws row 0) 0 (not-false _ z)

  pub some-here : (row : ℕ) → row ≡ row_at (module_of s) c i → recorded ws row ≡ true → 0 < get_or ws (row_at (module_of s) c i) 0
  some-here row e z =
      let n = eqb-false (get_or ws row 0) 0 (not-true _ z) in
      let w : get_or ws row 0 ≡ get_or ws (row_at (module_of s) c i) 0 = ap (λ (p : ℕ). get_or ws p 0) e in
      omega arith

  module _ (v : RowVisit) (x : Visits s ws c i v) where
    pub numbers-here : ch ≡ chunk_at s ws v.chunk
    numbers-here = h.numbers ∙ ap (chunk_at s ws) (sym x.1)

    pub row_of : (row : ℕ) → row ≡ row_at (module_of s) c i → row ≡ v.row
    row_of row e = e ∙ ap₂ (row_at (module_of s)) (sym x.1) (sym x.2) ∙ sym x.0.row

    pub fine-here : always (visit_in s ws v) ≡ 0
    unfolding Faultless
    fine-here = f.faultless v x.0 (ap (λ (n : ℕ). (chunk_no (module_of s) n).reachable) x.1 ∙ h.reachable)

    pub entry_here : eqb c t.entry ≡ is_entry (visit_in s ws v)
    unfolding visit_in visit_of known_in
    entry_here =
        ap₂ eqb (sym x.1 ∙ sym (indexed.good.each_chunk v.chunk x.0.chunk).number) (entry-is s t f.tables)

    pub asking-here : (w : Want) → w ≡ want_of (visit_in s ws v) → Asking s ws v w
    asking-here w e = record { looking = x.0; fine = fine-here; want = e }

    -- what bounds the length of its record
    pub few-here : (v.height ≤ 64) × (ch.locals ≤ 256) × (v.ins.given ≤ 4)
    few-here =
        let g = indexed.good.each_chunk v.chunk x.0.chunk in (
          omega (arith, x.0.low, g.stack),
          omega (arith, locals-is s ws c ch h.numbers, (indexed.good.each_chunk c h.chunk).locals),
          omega (arith, ap (λ (j : Instr). j.given) x.0.ins, (g.lines v.at x.0.at).given),
        )
