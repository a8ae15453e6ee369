-- The bytes of a report, part by part, against the sums of the bound.
use Prim.Native.Nat.{ℕ, zero, suc, ◌+◌, ◌*◌, ◌<◌, ◌≤◌}
use native.Mathlib.Omega.{arith}
use native.Mathlib.Nat.{add-zero, zero-add}
use mathlib.Core.Path.{◌≡◌, refl, sym, ap, ◌∙◌}
use mathlib.Core.Logic.{inl, inr}
use mathlib.Core.Bool.{Bool, true, false, cond, ◌&&◌}
use mathlib.Core.Option.{Option, none, some}
use mathlib.Core.List.{List, [], ◌∷◌, ◌++◌, map}
use lib.Dec.{ltb, eqb}
use lib.ListN.{length, get_or, take, length-append, length-map}
use borrow.Author.Tests.{lt-ltb}
use Rattle.le.specs.Le.{le16}
use Rattle.masks.proofs.Both.{never}
use Rattle.cells.specs.declared.Cell.{Cell}
use Rattle.cells.specs.Cell.{declared}
use Rattle.definition.specs.Module.{Module, Chunk, Line}
use Rattle.definition.specs.State.{State, Facts}
use Rattle.definition.specs.Leaves.{Known, no_line, line_at}
use Rattle.definition.specs.Start.{declared_params}
use Rattle.definition.specs.Report.{Signature, record_of, inspection_of, branch_of, from_state, from_states, from_chunks, cell_bytes, cells_bytes, field, signature_bytes, slot_bytes, record_bytes, inspection_bytes, branch_bytes, each}
use Rattle.form_laws.proofs.Each.{suc-out}
use Rattle.machine_laws.proofs.All.{All, nil, cons}
use Rattle.machine_laws.proofs.Bind.{none≢some}
use Rattle.report_laws.proofs.Cells.{Proper, cell-long, cells-long}
use Rattle.report_laws.proofs.Back.{ProperSignature, signature_in}
use Rattle.report_laws.proofs.Walk.{field-long, each_append}
use Rattle.consistent.proofs.Records.{Beside, Numbered}
use Rattle.report_bound.specs.Most.{goes_on, height_after, instr_most, code_most, signature_most, chunk_most, chunks_most}
use Rattle.report_bound.proofs.States.{state_bytes}
use Rattle.report_bound.proofs.Heights.{height_at}

-- ---- the records, inspections and branches
-- a chunk that isn't reachable has none
unfoldable pub code_of : Module → Chunk → ℕ
code_of m c = cond c.reachable (code_most c.locals c.stack (eqb c.number m.entry) true 0 c.code) 0

unfoldable pub codes_of : Module → List Chunk → ℕ
codes_of m [] = 0
codes_of m (c ∷ cs) = code_of m c + codes_of m cs

module _ (k : Known) (f : Facts) where
  -- of a chunk's states, and of all chunks
  unfoldable states_bytes : Chunk → ℕ → List (Option State) → ℕ
  states_bytes c i ss =
      length (each record_bytes (from_states (λ j s. record_of k c f j s ∷ []) i ss)) + length (each inspection_bytes (from_states (inspection_of c) i ss))
      + length (each branch_bytes (from_states (branch_of c) i ss))

  unfoldable pub chunks_bytes : List Chunk → List (List (Option State)) → ℕ
  chunks_bytes cs sss =
      length (each record_bytes (from_chunks (λ c j s. record_of k c f j s ∷ []) cs sss)) + length (each inspection_bytes (from_chunks inspection_of cs sss))
      + length (each branch_bytes (from_chunks branch_of cs sss))

  states-empty : (c : Chunk) (i n : ℕ) → states_bytes c i [] ≤ n
  unfolding states_bytes from_states each
  states-empty c i n = omega arith

  states-none : (c : Chunk) (i : ℕ) (ss : List (Option State)) → states_bytes c i (none ∷ ss) ≡ states_bytes c (suc i) ss
  unfolding states_bytes from_states from_state
  states-none c i ss = refl

  states-some : (c : Chunk) (i : ℕ) (s : State) (ss : List (Option State)) → states_bytes c i (some s ∷ ss) ≡ state_bytes k c f i s + states_bytes c (suc i) ss
  unfolding states_bytes state_bytes from_states from_state
  states-some c i s ss =
      let rs = from_states (λ j t. record_of k c f j t ∷ []) (suc i) ss in
      let is = from_states (inspection_of c) (suc i) ss in
      let bs = from_states (branch_of c) (suc i) ss in
      omega (
        arith,
        ap length (each_append record_bytes (record_of k c f i s ∷ []) rs) ∙ length-append (each record_bytes (record_of k c f i s ∷ [])) (each record_bytes rs),
        ap length (each_append inspection_bytes (inspection_of c i s) is) ∙ length-append (each inspection_bytes (inspection_of c i s)) (each inspection_bytes is),
        ap length (each_append branch_bytes (branch_of c i s) bs) ∙ length-append (each branch_bytes (branch_of c i s)) (each branch_bytes bs),
      )

  -- each state within the bound of its instruction, so all within the bound of the code
  states-few : (c : Chunk) (l d : ℕ) (e on : Bool) (b i : ℕ) (ss : List (Option State)) (code : List Line)
      → ((j : ℕ) (s : State) → get_or ss j none ≡ some s
      → (j < length code) × (state_bytes k c f (i + j) s ≤ instr_most l d (height_at d on b code j) e (get_or code j no_line).instr))
      → states_bytes c i ss ≤ code_most l d e on b code
  unfolding code_most height_at
  states-few c l d e on b i [] code h = states-empty c i (code_most l d e on b code)
  states-few c l d e on b i (none ∷ ss) [] h =
      rw (states-none c i ss) (states-few c l d e on b (suc i) ss [] (λ j s r. absurd (omega (arith, (h (suc j) s r).0))))
  states-few c l d e on b i (none ∷ ss) (x ∷ xs) h =
      let go = on && goes_on x.instr in
      rw (states-none c i ss)
      (omega (arith, states-few c l d e go (height_after go d b x.instr) (suc i) ss xs (λ j s r. (omega (arith, (h (suc j) s r).0), rw (← suc-out i j) (h (suc j) s r).1))))
  states-few c l d e on b i (some t ∷ ss) [] h = absurd (omega (arith, (h 0 t refl).0))
  states-few c l d e on b i (some t ∷ ss) (x ∷ xs) h =
      let go = on && goes_on x.instr in
      rw (states-some c i t ss)
      (omega (arith, rw (add-zero i) at (h 0 t refl).1, states-few c l d e go (height_after go d b x.instr) (suc i) ss xs (λ j s r. (omega (arith, (h (suc j) s r).0), rw (← suc-out i j) (h (suc j) s r).1))))

  -- what is known of the states of a chunk
  abbrev pub Within : Module → Chunk → List (Option State) → Type 0
  Within m c st = (j : ℕ) (s : State) → get_or st j none ≡ some s
      → (c.reachable ≡ true) × (j < length c.code) × (state_bytes k c f j s ≤ instr_most c.locals c.stack (height_at c.stack true 0 c.code j) (eqb c.number m.entry) (line_at c j).instr)

  chunk-few : (m : Module) (c : Chunk) (st : List (Option State)) → Within m c st → states_bytes c 0 st ≤ code_of m c
  unfolding code_of code_most line_at
  chunk-few m c st h = go c.reachable refl
    where
      go : (b : Bool) → c.reachable ≡ b → states_bytes c 0 st ≤ cond b (code_most c.locals c.stack (eqb c.number m.entry) true 0 c.code) 0
      go true e = states-few c _ _ _ true 0 0 st c.code (λ j s r. ((h j s r).1, rw (zero-add j) (h j s r).2))
      go false e = states-few c 0 0 false true 0 0 st [] (λ j s r. never (sym e ∙ (h j s r).0))

  pub chunks-few : (m : Module) (cs : List Chunk) (sss : List (List (Option State))) → ((c : Chunk) (st : List (Option State)) → Beside c st cs sss → Within m c st)
      → chunks_bytes cs sss ≤ codes_of m cs
  unfolding chunks_bytes from_chunks codes_of each states_bytes
  chunks-few m [] sss h = omega arith
  chunks-few m (c ∷ cs) [] h = omega arith
  chunks-few m (c ∷ cs) (ss ∷ sss) h =
      let rs = from_chunks (λ c j s. record_of k c f j s ∷ []) cs sss in
      let is = from_chunks inspection_of cs sss in
      let bs = from_chunks branch_of cs sss in
      let r = from_states (λ j s. record_of k c f j s ∷ []) 0 ss in
      let i = from_states (inspection_of c) 0 ss in
      let b = from_states (branch_of c) 0 ss in
      omega (
        arith,
        ap length (each_append record_bytes r rs) ∙ length-append (each record_bytes r) (each record_bytes rs),
        ap length (each_append inspection_bytes i is) ∙ length-append (each inspection_bytes i) (each inspection_bytes is),
        ap length (each_append branch_bytes b bs) ∙ length-append (each branch_bytes b) (each branch_bytes bs),
        chunk-few m c ss (h c ss (inl (refl, refl))),
        chunks-few m cs sss (λ d st b. h d st (inr b)),
      )

-- ---- the signatures
unfoldable pub inputs_most : List (List Cell) → ℕ
inputs_most [] = 0
inputs_most (is ∷ iss) = 54 + 49 * length is + inputs_most iss

signature-long : (x : Signature) → ProperSignature x → length (signature_bytes x) ≡ 54 + 49 * length x.inputs
unfolding signature_bytes le16
signature-long x ok =
    omega (
      arith,
      field-long 17 (signature_in x),
      length-append (cells_bytes x.inputs) (cell_bytes x.result),
      cells-long ok.inputs,
      cell-long x.result ok.result.four,
    )

pub signatures-long : {xs : List Signature} → All ProperSignature xs → length (each signature_bytes xs) ≡ inputs_most (map (λ x. x.inputs) xs)
unfolding each inputs_most
signatures-long nil = refl
signatures-long (cons {x = x} {xs = xs} p a) = omega (arith, length-append (signature_bytes x) (each signature_bytes xs), signature-long x p, signatures-long a)

-- rows of the same lengths
pub inputs-alike : (iss jss : List (List Cell)) → length iss ≡ length jss → ((n : ℕ) → n < length iss → length (get_or iss n []) ≡ length (get_or jss n []))
    → inputs_most iss ≡ inputs_most jss
unfolding inputs_most
inputs-alike [] [] e h = refl
inputs-alike [] (j ∷ jss) e h = absurd (omega arith)
inputs-alike (i ∷ iss) [] e h = absurd (omega arith)
inputs-alike (i ∷ iss) (j ∷ jss) e h = omega (arith, h 0 (omega arith), inputs-alike iss jss (omega arith) (λ n l. h (suc n) (omega arith)))

unfoldable pub signatures_of : Module → List Chunk → ℕ
signatures_of m [] = 0
signatures_of m (c ∷ cs) = signature_most (length c.params) (ltb c.number m.signatures) + signatures_of m cs

-- the first k chunks have signatures, the others none
pub declared-few : (m : Module) (n k : ℕ) (cs : List Chunk) → n + k ≡ m.signatures → Numbered n cs
    → inputs_most (map (declared_params m) (take k cs)) ≤ signatures_of m cs
unfolding inputs_most signatures_of declared_params
declared-few m n zero cs e q = omega arith
declared-few m n (suc k) [] e q = omega arith
declared-few m n (suc k) (c ∷ cs) e q =
    rw (q.0, lt-ltb n m.signatures (omega arith))
    (omega (arith, length-map c.params (λ x. declared x m.owns), declared-few m (suc n) k cs (omega arith) q.1))

-- ---- the slots
slot-long : (c : Cell) → Proper c → length (slot_bytes c) ≡ 52
unfolding slot_bytes
slot-long c p = omega (arith, field-long 18 (cell_bytes c), cell-long c p.four)

pub slots-long : {cs : List Cell} → All Proper cs → length (each slot_bytes cs) ≡ 52 * length cs
unfolding each
slots-long nil = refl
slots-long (cons {x = c} {xs = cs} p a) = omega (arith, length-append (slot_bytes c) (each slot_bytes cs), slot-long c p, slots-long a)

-- ---- the bound, part by part
pub chunks-parts : (m : Module) (cs : List Chunk) → chunks_most m cs ≡ signatures_of m cs + codes_of m cs
unfolding chunks_most chunk_most signatures_of codes_of code_of
chunks-parts m [] = refl
chunks-parts m (c ∷ cs) = omega (arith, chunks-parts m cs)
