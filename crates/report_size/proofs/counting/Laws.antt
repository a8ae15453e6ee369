-- There are as many records as marks, and an instruction has a mark where it is recorded.
use Prim.Native.Nat.{ℕ, zero, suc, ◌+◌, ◌*◌, ◌^◌, ◌<◌}
use native.Mathlib.Omega.{arith}
use mathlib.Core.Path.{◌≡◌, refl, sym, ap, ◌∙◌}
use mathlib.Core.Bool.{Bool, not, cond}
use mathlib.Core.List.{List, [], ◌∷◌}
use lib.Dec.{eqb}
use lib.ListN.{length, get_or}
use borrow.Author.Tests.{ne_eqb}
use Rattle.definition.specs.Module.{module_of}
use Rattle.definition.specs.Start.{known_of}
use Rattle.definition.specs.Report.{Record, record_of, from_state, each, report_of}
use Rattle.form_laws.specs.Good.{chunk_no}
use Rattle.layout.specs.declared.Chunk.{Chunk as ChunkNumbers}
use Rattle.layout.specs.Layout.{row_at}
use Rattle.layout.specs.Indexed.{Indexed, chunk_at}
use Rattle.layout.proofs.Read.{Row, row-known}
use Rattle.row_join.specs.joining.Leave.{state_by, state_in}
use Rattle.visit.specs.Held.{facts_in}
use Rattle.run_state.specs.Course.{final_in, known_as}
use Rattle.report_size.specs.Reporting.{report_in}
use Rattle.report_size.specs.Span.{span}
use Rattle.report_size.specs.Adds.{added}
use Rattle.report_size.specs.recorded.Told.{recorded}
use Rattle.report_size.specs.counting.Marks.{mark, mark_for, marks_in}
use Rattle.report_size.proofs.Adds.{chunks-added}
use Rattle.report_size.proofs.Here.{counted-here}

each-marked : (xs : List Record) → length (each mark xs) ≡ length xs
unfolding each mark
each-marked [] = refl
each-marked (x ∷ xs) = ap suc (each-marked xs)

module _ (s ws : List ℕ) where
  mark-told : (n i : ℕ) → length (mark_for s ws n i) ≡ cond (recorded ws (row_at (module_of s) n i)) 1 0
  unfolding mark_for mark added state_in state_by from_state each
  mark-told n i = go (get_or ws (row_at (module_of s) n i) 0)
    where
      go : (w : ℕ)
          → length
          (each mark
          (from_state (λ k x. record_of (known_as s) (chunk_no (module_of s) n) (facts_in s ws) k x ∷ []) i
          (state_by ws (row_at (module_of s) n i) (chunk_no (module_of s) n).stack (chunk_no (module_of s) n).locals w)))
          ≡ cond (not (eqb w 0)) 1 0
      go zero = refl
      go (suc h) = ap (λ (b : Bool). cond (not b) 1 0) (sym (ne_eqb (suc h) 0 (λ e. omega arith)))

  pub records-counted : (reply : ℕ) → length (report_in s ws reply).records ≡ length (span (marks_in s ws) 0 (length (module_of s).chunks))
  unfolding report_in report_of final_in known_of marks_in mark_for
  records-counted reply =
      sym (each-marked (report_in s ws reply).records)
      ∙ ap length (chunks-added s ws mark (λ c i x. record_of (known_as s) c (facts_in s ws) i x ∷ []))

  -- the row of an instruction that may be recorded, and its mark
  module _ (x : Indexed s ws) (c : ℕ) (h : c < length (module_of s).chunks) (ch : ChunkNumbers) (e : ch ≡ chunk_at s ws c) (count : ℕ) (q : count ≡ cond ch.reachable ch.count 0)
      (i : ℕ) (l : i < count) where
    pub row-counted : Row s ws c ch i
    row-counted = let d = counted-here s ws c ch e count q h i l in row-known s ws c ch i x h e d.at

    pub row_inside : (ch.rows + i * ch.size < 2 ^ 63) × (ch.rows + i * ch.size < length ws)
    row_inside = (omega (arith, row-counted.at, row-counted.small), omega (arith, row-counted.at, row-counted.room))

    pub mark-counted : (n row : ℕ) → row ≡ ch.rows + i * ch.size → n ≡ cond (recorded ws row) 1 0 → length (mark_for s ws c i) ≡ n
    mark-counted n row r k = mark-told c i ∙ ap (λ (p : ℕ). cond (recorded ws p) 1 0) (sym (r ∙ row-counted.at)) ∙ sym k
