-- The report is what each chunk and each instruction adds.
use Prim.Native.Nat.{ℕ, zero, suc, ◌+◌, ◌-◌, ◌<◌, ◌≤◌}
use native.Mathlib.Nat.{zero-add}
use native.Mathlib.Omega.{arith}
use mathlib.Core.Path.{◌≡◌, refl, sym, ap, ap₂, ◌∙◌}
use mathlib.Core.Bool.{Bool, true, false, cond}
use mathlib.Core.Option.{Option}
use mathlib.Core.List.{List, [], ◌∷◌, ◌++◌}
use lib.ListN.{length, get_or}
use Rattle.masks.specs.declared.Mask.{Mask}
use Rattle.widths.specs.declared.Width.TheVariants.{Unknown as Wide}
use Rattle.flows.specs.declared.Flow.{Flow}
use Rattle.cells.specs.declared.Cell.{Cell}
use Rattle.words.specs.Layout.{cell_at}
use Rattle.le.specs.Le.{le32}
use Rattle.definition.specs.Module.{Chunk, row, module_of}
use Rattle.definition.specs.State.{State}
use Rattle.definition.specs.Outputs.{no_cell}
use Rattle.definition.specs.Start.{known_of}
use Rattle.definition.specs.Report.{signatures_from, slot_cells, record_of, inspection_of, branch_of, from_state, from_states, from_chunks, report_of, field, signature_bytes, slot_bytes, record_bytes, inspection_bytes, branch_bytes, each, report_bytes}
use Rattle.form_laws.proofs.Each.{suc-out, row-at}
use Rattle.form_laws.specs.Good.{no_chunk, chunk_no}
use Rattle.layout.specs.Layout.{slot_at, result_at}
use Rattle.visit.specs.Held.{facts_in}
use Rattle.run_state.specs.Course.{states_in, past_in, final_in, known_as, state_at}
use Rattle.report_laws.proofs.Walk.{each_append}
use Rattle.report_size.specs.Reporting.{report_in}
use Rattle.report_size.specs.Span.{spread, span}
use Rattle.report_size.proofs.Span.{span_same}
use Rattle.report_size.specs.Adds.{added, added_for, bare_at, branch_at, chunk_for, chunks_for, inspection_at, record_at, recordable, signature_at}

unfoldable pub private_at : List ℕ → List ℕ → ℕ → List ℕ
private_at s ws n = slot_bytes (bare_at ws (slot_at (module_of s) n))

-- ---- the definition's lists
module _ {A : Type 0} (f : A → List ℕ) where
  each-states : (h : ℕ → State → List A) (st : ℕ → Option State) (i n : ℕ)
      → each f (from_states h i (row st i n)) ≡ spread (λ k. each f (from_state h k (st k))) i n
  unfolding each from_states row spread
  each-states h st i zero = refl
  each-states h st i (suc n) =
      each_append f (from_state h i (st i)) (from_states h (suc i) (row st (suc i) n))
      ∙ ap (λ (l : List ℕ). each f (from_state h i (st i)) ++ l) (each-states h st (suc i) n)

  each-chunks : (g : Chunk → ℕ → State → List A) (c : ℕ → Chunk) (p : ℕ → List (Option State)) (i n : ℕ)
      → each f (from_chunks g (row c i n) (row p i n)) ≡ spread (λ k. each f (from_states (g (c k)) 0 (p k))) i n
  unfolding each from_chunks row spread
  each-chunks g c p i zero = refl
  each-chunks g c p i (suc n) =
      each_append f (from_states (g (c i)) 0 (p i)) (from_chunks g (row c (suc i) n) (row p (suc i) n))
      ∙ ap (λ (l : List ℕ). each f (from_states (g (c i)) 0 (p i)) ++ l) (each-chunks g c p (suc i) n)

-- a list is its elements, one by one
listed : {A : Type 0} (d : A) (l : List A) (f : ℕ → A) (i : ℕ) → ((k : ℕ) → k < length l → get_or l k d ≡ f (i + k)) → l ≡ row f i (length l)
unfolding row
listed d [] f i h = refl
listed d (x ∷ xs) f i h =
    let z : i + 0 ≡ i = omega arith in
    ap₂ ◌∷◌ (h 0 (omega arith) ∙ ap f z) (listed d xs f (suc i) (λ k l. h (suc k) (omega arith) ∙ ap f (suc-out i k)))

spread-span : (f : ℕ → List ℕ) (n : ℕ) → spread f 0 n ≡ span f 0 n
unfolding span
spread-span f n = let z : n ≡ n - 0 = omega arith in ap (spread f 0) z

module _ (s ws : List ℕ) where
  chunks-listed : (module_of s).chunks ≡ row (chunk_no (module_of s)) 0 (length (module_of s).chunks)
  unfolding chunk_no
  chunks-listed =
      listed no_chunk (module_of s).chunks (chunk_no (module_of s)) 0 (λ k l. ap (λ (j : ℕ). get_or (module_of s).chunks j no_chunk) (sym (zero-add k)))

  module _ {A : Type 0} (f : A → List ℕ) (g : Chunk → ℕ → State → List A) where
    one_chunk : (n : ℕ) → each f (from_states (g (chunk_no (module_of s) n)) 0 (cond (chunk_no (module_of s) n).reachable (states_in s ws n) []))
        ≡ span (added f g s ws n) 0 (recordable s n)
    unfolding recordable span spread states_in added each from_states
    one_chunk n = go (chunk_no (module_of s) n).reachable
      where
        go : (b : Bool) → each f (from_states (g (chunk_no (module_of s) n)) 0 (cond b (states_in s ws n) []))
            ≡ span (added f g s ws n) 0 (cond b (length (chunk_no (module_of s) n).code) 0)
        go true =
            let k = length (chunk_no (module_of s) n).code in
            let z : k ≡ k - 0 = omega arith in
            each-states f (g (chunk_no (module_of s) n)) (state_at s n ws) 0 k ∙ ap (spread (added f g s ws n) 0) z
        go false = refl

    pub chunks-added : each f (from_chunks g (module_of s).chunks (past_in s ws (length (module_of s).chunks)))
        ≡ span (λ n. span (added f g s ws n) 0 (recordable s n)) 0 (length (module_of s).chunks)
    unfolding past_in
    chunks-added =
        let k = length (module_of s).chunks in
        ap (λ (cs : List Chunk). each f (from_chunks g cs (past_in s ws k))) chunks-listed
        ∙ each-chunks f g (chunk_no (module_of s)) (λ n. cond (chunk_no (module_of s) n).reachable (states_in s ws n) []) 0 k
        ∙ spread-span _ k
        ∙ span_same _ 0 _ k (λ n l m. one_chunk n)

  pub records-added : (reply : ℕ) → each record_bytes (report_in s ws reply).records ≡ chunks_for s ws 19
  unfolding report_in report_of final_in known_of chunks_for chunk_for added_for record_at
  records-added reply = chunks-added record_bytes (λ c i x. record_of (known_as s) c (facts_in s ws) i x ∷ [])

  pub inspections-added : (reply : ℕ) → each inspection_bytes (report_in s ws reply).inspections ≡ chunks_for s ws 20
  unfolding report_in report_of final_in known_of chunks_for chunk_for added_for inspection_at
  inspections-added reply = chunks-added inspection_bytes inspection_of

  pub branches-added : (reply : ℕ) → each branch_bytes (report_in s ws reply).branches ≡ chunks_for s ws 21
  unfolding report_in report_of final_in known_of chunks_for chunk_for added_for branch_at
  branches-added reply = chunks-added branch_bytes branch_of

  -- ---- signatures
  each-signatures : (is : ℕ → List Cell) (rs : List Cell) (r : ℕ → Cell) (i n : ℕ) → ((k : ℕ) → i ≤ k → k < i + n → get_or rs k no_cell ≡ r k)
      → each signature_bytes (signatures_from i (row is i n) rs) ≡ spread (λ k. signature_bytes (record { chunk = k; inputs = is k; result = r k })) i n
  unfolding each signatures_from row spread
  each-signatures is rs r i zero h = refl
  each-signatures is rs r i (suc n) h =
      ap₂ ◌++◌ (ap (λ (c : Cell). signature_bytes (record { chunk = i; inputs = is i; result = c })) (h i (omega arith) (omega arith)))
      (each-signatures is rs r (suc i) n (λ k l m. h k (omega arith) (omega arith)))

  pub signatures-added : (reply : ℕ) → each signature_bytes (report_in s ws reply).signatures ≡ span (signature_at s ws) 0 (module_of s).signatures
  unfolding report_in report_of final_in facts_in signature_at
  signatures-added reply =
      let k = (module_of s).signatures in
      each-signatures _ _ (λ n. cell_at ws (result_at (module_of s) n)) 0 k
      (λ n l m. row-at (λ n. cell_at ws (result_at (module_of s) n)) no_cell 0 k n (omega arith) ∙ ap (λ (j : ℕ). cell_at ws (result_at (module_of s) j)) (zero-add n))
      ∙ spread-span _ k

  -- ---- slots
  each-slots : (ms : ℕ → Mask) (fs : ℕ → Flow) (i n : ℕ)
      → each slot_bytes (slot_cells (row ms i n) (row fs i n)) ≡ spread (λ k. slot_bytes (record { mask = ms k; width = Wide; flow = fs k })) i n
  unfolding each slot_cells row spread
  each-slots ms fs i zero = refl
  each-slots ms fs i (suc n) = ap (λ (l : List ℕ). slot_bytes (record { mask = ms i; width = Wide; flow = fs i }) ++ l) (each-slots ms fs (suc i) n)

  pub slots-added : (reply : ℕ) → each slot_bytes (report_in s ws reply).slots ≡ span (private_at s ws) 0 (module_of s).slots
  unfolding report_in report_of final_in facts_in private_at
  slots-added reply = each-slots _ _ 0 (module_of s).slots ∙ spread-span _ (module_of s).slots

  -- ---- the report
  pub report-added : (reply : ℕ) → report_bytes (report_in s ws reply)
      ≡ field 16 (le32 reply)
      ++ (span (signature_at s ws) 0 (module_of s).signatures
      ++ (span (private_at s ws) 0 (module_of s).slots
      ++ (chunks_for s ws 19
      ++ (chunks_for s ws 20
      ++ chunks_for s ws 21))))
  unfolding report_bytes report_in report_of
  report-added reply =
      ap (λ (l : List ℕ). field 16 (le32 reply) ++ l)
      (ap₂ ◌++◌ (signatures-added reply)
      (ap₂ ◌++◌ (slots-added reply)
      (ap₂ ◌++◌ (records-added reply)
      (ap₂ ◌++◌ (inspections-added reply) (branches-added reply)))))
