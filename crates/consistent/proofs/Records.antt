-- The report of a run, read back: its records are the recorded states, chunk by chunk, and its cells of tags 17 and 18 are the facts.
use Prim.Native.Nat.{ℕ, zero, suc, ◌+◌, ◌≤◌}
use native.Mathlib.Omega.{arith}
use native.Mathlib.Nat.{add-zero, zero-add}
use mathlib.Core.Path.{◌≡◌, refl, sym, ◌∙◌, ap}
use mathlib.Core.Logic.{◌⊎◌, inl, inr}
use mathlib.Core.Bool.{Bool, true, false, cond}
use mathlib.Core.Option.{Option, none, some}
use mathlib.Core.List.Memᴰ
use mathlib.Core.List.{List, [], ◌∷◌, map, Memᴰ}
use lib.Dec.{eqb, ltb}
use lib.ListN.{length, get_or, drop, length-map, length-replicate, drop_of_length-le}
use lib.Seq.{drop-cons}
use Rattle.masks.specs.declared.Mask.{Mask}
use Rattle.masks.specs.Mask.{union}
use Rattle.masks.specs.Names.{NONE}
use Rattle.flows.specs.declared.Flow.{Flow}
use Rattle.flows.specs.Flow.{join_flow, no_flow}
use Rattle.cells.specs.declared.Cell.{Cell}
use Rattle.cells.specs.Cell.{join_cell}
use Rattle.description.specs.Fields.{tag_at}
use Rattle.definition.specs.Machine.{Final}
use Rattle.definition.specs.Module.{Module, Chunk, row, chunk_from, chunks_from, code_after, module_from, module_of}
use Rattle.definition.specs.State.{State, Facts, join_cells}
use Rattle.definition.specs.Outputs.{no_cell}
use Rattle.definition.specs.Leaves.{Known, visit_of}
use Rattle.definition.specs.Start.{first_facts}
use Rattle.definition.specs.Report.{Record, guards_rise, signatures_from, slot_cells, record_from, record_of, from_state, from_states, from_chunks, report_of}
use Rattle.definition.proofs.Guards.{guards-rise}
use Rattle.consistent.proofs.Rows.{wider-refl}
use Rattle.consistent.proofs.Absorb.{Declared}
use Rattle.form_laws.proofs.Each.{suc-out, row-length}
use Rattle.machine_laws.proofs.Bind.{none≢some, some_inj}
use Rattle.consistent.specs.Consistent.{facts_of, state_of, Recorded}

-- ---- chunks beside their states
abbrev pub Beside : {C D : Type 0} → C → D → List C → List D → Type 0
Beside c d [] ds = ⊥
Beside c d (x ∷ xs) [] = ⊥
Beside c d (x ∷ xs) (y ∷ ys) = ((c ≡ x) × (d ≡ y)) ⊎ Beside c d xs ys

-- numbered from n on
abbrev pub Numbered : ℕ → List Chunk → Type 0
Numbered n [] = Unit {0}
Numbered n (c ∷ cs) = (c.number ≡ n) × Numbered (suc n) cs

pub after : {D : Type 0} (n : ℕ) (c : Chunk) (d : D) (cs : List Chunk) (ds : List D) → Numbered n cs → Beside c d cs ds → n ≤ c.number
after n c d [] ds k b = absurd b
after n c d (x ∷ xs) [] k b = absurd b
after n c d (x ∷ xs) (y ∷ ys) k (inl e) = omega (arith, ap (λ (z : Chunk). z.number) e.0, k.0)
after n c d (x ∷ xs) (y ∷ ys) k (inr b) = omega (arith, after (suc n) c d xs ys k.1 b)

-- the number of a chunk says its place
pub same_place : {D : Type 0} (n : ℕ) (c c' : Chunk) (d d' : D) (cs : List Chunk) (ds : List D) → Numbered n cs
    → Beside c d cs ds → Beside c' d' cs ds → c.number ≡ c'.number → (c ≡ c') × (d ≡ d')
same_place n c c' d d' [] ds k b b' e = absurd b
same_place n c c' d d' (x ∷ xs) [] k b b' e = absurd b
same_place n c c' d d' (x ∷ xs) (y ∷ ys) k (inl p) (inl q) e = (p.0 ∙ sym q.0, p.1 ∙ sym q.1)
same_place n c c' d d' (x ∷ xs) (y ∷ ys) k (inl p) (inr b') e =
    absurd (omega (arith, ap (λ (z : Chunk). z.number) p.0, k.0, after (suc n) c' d' xs ys k.1 b'))
same_place n c c' d d' (x ∷ xs) (y ∷ ys) k (inr b) (inl q) e =
    absurd (omega (arith, ap (λ (z : Chunk). z.number) q.0, k.0, after (suc n) c d xs ys k.1 b))
same_place n c c' d d' (x ∷ xs) (y ∷ ys) k (inr b) (inr b') e = same_place (suc n) c c' d d' xs ys k.1 b b' e

chunks-numbered : (s : List ℕ) (signatures n : ℕ) (ps : List ℕ) → Numbered n (chunks_from s signatures n ps)
unfolding chunks_from chunk_from
chunks-numbered s signatures n [] = tt
chunks-numbered s signatures n (p ∷ ps) = go (eqb (tag_at s p) 2) (chunks-numbered s signatures (suc n) ps) (chunks-numbered s signatures n ps)
  where
    go : (b : Bool) → Numbered (suc n) (chunks_from s signatures (suc n) ps) → Numbered n (chunks_from s signatures n ps)
        → Numbered n (cond b (chunk_from s n p (ltb n signatures) (code_after s ps) ∷ chunks_from s signatures (suc n) ps) (chunks_from s signatures n ps))
    go true h k = (refl, h)
    go false h k = k

pub numbered : (s : List ℕ) → Numbered 0 (module_of s).chunks
unfolding module_of module_from
numbered s = chunks-numbered s _ 0 _

pub beside-mem : {C D : Type 0} (c : C) (d : D) (cs : List C) (ds : List D) → Beside c d cs ds → Memᴰ c cs
beside-mem c d [] ds b = absurd b
beside-mem c d (x ∷ xs) [] b = absurd b
beside-mem c d (x ∷ xs) (y ∷ ys) (inl e) = Memᴰ.head e.0
beside-mem c d (x ∷ xs) (y ∷ ys) (inr b) = Memᴰ.tail (beside-mem c d xs ys b)

-- ---- what each recorded state adds, and back
module _ {A : Type 0} (x : A) where
  abbrev InStates : (ℕ → State → List A) → ℕ → List (Option State) → Type 0
  InStates g i ss = (j : ℕ) × (s : State) × (get_or ss j none ≡ some s) × Memᴰ x (g (i + j) s)

  pub in-states : (g : ℕ → State → List A) (i : ℕ) (ss : List (Option State)) → Memᴰ x (from_states g i ss) → InStates g i ss
  unfolding from_states from_state
  in-states g i [] m = absurd (Memᴰ.not-nil m)
  in-states g i (o ∷ ss) m = go o (in-states g (suc i) ss) (Memᴰ.append_cases (from_state g i o) m)
    where
      go : (o : Option State) → (Memᴰ x (from_states g (suc i) ss) → InStates g (suc i) ss)
          → Memᴰ x (from_state g i o) ⊎ Memᴰ x (from_states g (suc i) ss) → InStates g i (o ∷ ss)
      go none below (inl m) = absurd (Memᴰ.not-nil m)
      go (some s) below (inl m) = (0, s, refl, rw (add-zero i) m)
      go o below (inr m) = let (j, s, r, h) = below m in (suc j, s, r, rw (suc-out i j) h)

  of-states : (g : ℕ → State → List A) (i : ℕ) (ss : List (Option State)) (j : ℕ) (s : State) → get_or ss j none ≡ some s
      → Memᴰ x (g (i + j) s) → Memᴰ x (from_states g i ss)
  unfolding from_states from_state
  of-states g i [] j s e m = absurd (none≢some e)
  of-states g i (none ∷ ss) zero s e m = absurd (none≢some e)
  of-states g i (some t ∷ ss) zero s e m = Memᴰ.append_left (from_states g (suc i) ss) (rw (add-zero i, ← some_inj e) at m)
  of-states g i (o ∷ ss) (suc j) s e m = Memᴰ.append_right (from_state g i o) (of-states g (suc i) ss j s e (rw (← suc-out i j) m))

  abbrev pub InChunks : (Chunk → ℕ → State → List A) → List Chunk → List (List (Option State)) → Type 0
  InChunks g cs sss =
      (c : Chunk) × (st : List (Option State)) × (i : ℕ) × (s : State) × Beside c st cs sss × (get_or st i none ≡ some s) × Memᴰ x (g c i s)

  pub in-chunks : (g : Chunk → ℕ → State → List A) (cs : List Chunk) (sss : List (List (Option State))) → Memᴰ x (from_chunks g cs sss)
      → InChunks g cs sss
  unfolding from_chunks
  in-chunks g [] sss m = absurd (Memᴰ.not-nil m)
  in-chunks g (c ∷ cs) [] m = absurd (Memᴰ.not-nil m)
  in-chunks g (c ∷ cs) (ss ∷ sss) m = go (in-chunks g cs sss) (Memᴰ.append_cases (from_states (g c) 0 ss) m)
    where
      go : (Memᴰ x (from_chunks g cs sss) → InChunks g cs sss)
          → Memᴰ x (from_states (g c) 0 ss) ⊎ Memᴰ x (from_chunks g cs sss) → InChunks g (c ∷ cs) (ss ∷ sss)
      go below (inl m) = let (j, s, r, h) = in-states (g c) 0 ss m in (c, ss, j, s, inl (refl, refl), r, rw (← zero-add j) h)
      go below (inr m) = let (c', st, i, s, b, r, h) = below m in (c', st, i, s, inr b, r, h)

  pub of-chunks : (g : Chunk → ℕ → State → List A) (cs : List Chunk) (sss : List (List (Option State))) (c : Chunk) (st : List (Option State)) (i : ℕ) (s : State)
      → Beside c st cs sss → get_or st i none ≡ some s → Memᴰ x (g c i s) → Memᴰ x (from_chunks g cs sss)
  unfolding from_chunks
  of-chunks g [] sss c st i s b r h = absurd b
  of-chunks g (c' ∷ cs) [] c st i s b r h = absurd b
  of-chunks g (c' ∷ cs) (ss ∷ sss) c st i s (inl e) r h =
      Memᴰ.append_left (from_chunks g cs sss) (of-states (g c') 0 ss i s (rw e.1 at r) (rw (zero-add i, ← e.0) h))
  of-chunks g (c' ∷ cs) (ss ∷ sss) c st i s (inr b) r h = Memᴰ.append_right (from_states (g c') 0 ss) (of-chunks g cs sss c st i s b r h)

-- ---- the facts printed
inputs-back : (n : ℕ) (is : List (List Cell)) (rs : List Cell) → map (λ x. x.inputs) (signatures_from n is rs) ≡ is
unfolding signatures_from
inputs-back n [] rs = refl
inputs-back n (i ∷ is) rs = ap (λ (l : List (List Cell)). i ∷ l) (inputs-back (suc n) is rs)

results-back : (n : ℕ) (is : List (List Cell)) (rs : List Cell) → length rs ≡ n + length is
    → map (λ x. x.result) (signatures_from n is rs) ≡ drop n rs
unfolding signatures_from
results-back n [] rs e = sym (drop_of_length-le rs {i = n} (omega arith))
results-back n (i ∷ is) rs e =
    ap (λ (l : List Cell). get_or rs n no_cell ∷ l) (results-back (suc n) is rs (omega arith)) ∙ sym (drop-cons rs n no_cell (omega arith))

masks-back : (ms : List Mask) (ws : List Flow) → map (λ x. x.mask) (slot_cells ms ws) ≡ ms
unfolding slot_cells
masks-back [] ws = refl
masks-back (m ∷ ms) [] = ap (λ (l : List Mask). m ∷ l) (masks-back ms [])
masks-back (m ∷ ms) (w ∷ ws) = ap (λ (l : List Mask). m ∷ l) (masks-back ms ws)

flows-back : (ms : List Mask) (ws : List Flow) → length ws ≡ length ms → map (λ x. x.flow) (slot_cells ms ws) ≡ ws
unfolding slot_cells
flows-back [] [] e = refl
flows-back [] (w ∷ ws) e = absurd (omega arith)
flows-back (m ∷ ms) [] e = absurd (omega arith)
flows-back (m ∷ ms) (w ∷ ws) e = ap (λ (l : List Flow). w ∷ l) (flows-back ms ws (omega arith))

first-results : (m : Module) → length (first_facts m).results ≡ length (first_facts m).inputs
unfolding first_facts
first-results m = simp length-map

pub first-masks : (m : Module) → length (first_facts m).masks ≡ m.slots
unfolding first_facts
first-masks m = row-length _ 0 m.slots

pub first-flows : (m : Module) → length (first_facts m).flows ≡ m.slots
unfolding first_facts
first-flows m = length-replicate m.slots no_flow

pub first-declared : (m : Module) → Declared m (first_facts m)
first-declared m =
    record {
      inputs = wider-refl join_cells [] (first_facts m).inputs;
      rows = λ n. refl;
      results = wider-refl join_cell no_cell (first_facts m).results;
      masks = wider-refl union NONE (first_facts m).masks;
      flows = wider-refl join_flow no_flow (first_facts m).flows;
    }

-- as many results as chunks have inputs, as many flows as masks
pub as_many : (m : Module) (f : Facts) → Declared m f → length f.results ≡ length f.inputs
as_many m f s = s.results.size ∙ first-results m ∙ sym s.inputs.size

pub all-flows : (m : Module) (f : Facts) → Declared m f → length f.flows ≡ length f.masks
all-flows m f s = s.flows.size ∙ first-flows m ∙ sym (s.masks.size ∙ first-masks m)

pub facts-back : (k : Known) (reply : ℕ) (x : Final Facts State) → Declared k.code x.facts → facts_of (report_of k reply x) ≡ x.facts
unfolding facts_of report_of
facts-back k reply x s i =
    record {
      inputs = inputs-back 0 x.facts.inputs x.facts.results i;
      results = results-back 0 x.facts.inputs x.facts.results (as_many k.code x.facts s ∙ sym (zero-add (length x.facts.inputs))) i;
      masks = masks-back x.facts.masks x.facts.flows i;
      flows = flows-back x.facts.masks x.facts.flows (all-flows k.code x.facts s) i;
    }

-- the signatures are numbered by their places
signed-from : (n : ℕ) (is : List (List Cell)) (rs : List Cell) → map (λ x. x.chunk) (signatures_from n is rs) ≡ row (λ k. k) n (length (signatures_from n is rs))
unfolding signatures_from row
signed-from n [] rs = refl
signed-from n (i ∷ is) rs = ap (λ (l : List ℕ). n ∷ l) (signed-from (suc n) is rs)

pub signatures-numbered : (k : Known) (reply : ℕ) (x : Final Facts State) → map (λ y. y.chunk) (report_of k reply x).signatures ≡ row (λ n. n) 0 (length (report_of k reply x).signatures)
unfolding report_of
signatures-numbered k reply x = signed-from 0 x.facts.inputs x.facts.results

-- ---- the records
module _ (k : Known) (reply : ℕ) (x : Final Facts State) (numbers : Numbered 0 k.code.chunks) where
  abbrev recorded : Chunk → ℕ → State → List Record
  recorded c i s = record_of k c x.facts i s ∷ []

  its-state : (y : Record) (c : Chunk) (st : List (Option State)) (i : ℕ) (s : State) → y ≡ record_of k c x.facts i s → get_or st i none ≡ some s
      → get_or st y.instruction none ≡ some (state_of y)
  unfolding record_of record_from state_of
  its-state y c st i s e r = rw e r

  -- it says what follows from its own state
  itself : (y : Record) (c : Chunk) (i : ℕ) (s : State) → y ≡ record_of k c x.facts i s → y ≡ record_of k c x.facts y.instruction (state_of y)
  unfolding record_of record_from state_of
  itself y c i s e = rw e

  -- a record is of a chunk and of one of its states
  pub record_of_lem : (y : Record) → Memᴰ y (report_of k reply x).records
      → (c : Chunk) × (st : List (Option State)) × Beside c st k.code.chunks x.states
      × (y.chunk ≡ c.number) × (get_or st y.instruction none ≡ some (state_of y)) × (y ≡ record_of k c x.facts y.instruction (state_of y))
  unfolding report_of record_of record_from
  record_of_lem y m =
      let (c, st, i, s, b, r, h) = in-chunks y recorded k.code.chunks x.states m in
      let e : y ≡ record_of k c x.facts i s = Memᴰ.eq_of_singleton h in
      (c, st, b, ap (λ (z : Record). z.chunk) e, its-state y c st i s e r, itself y c i s e)

  -- its guards are those of a visit
  pub guards-ordered : (y : Record) → Memᴰ y (report_of k reply x).records → guards_rise y.guards ≡ true
  unfolding report_of record_of record_from
  guards-ordered y m =
      let (c, st, i, s, b, r, h) = in-chunks y recorded k.code.chunks x.states m in
      ap (λ (z : Record). guards_rise z.guards) (Memᴰ.eq_of_singleton h) ∙ guards-rise (visit_of k c x.facts i s)

  pub said : (c : Chunk) (st : List (Option State)) (i : ℕ) (s : State) → Beside c st k.code.chunks x.states → get_or st i none ≡ some s
      → Recorded (report_of k reply x) c.number i s
  unfolding report_of record_of record_from state_of
  said c st i s b r =
      record {
        entry = record_of k c x.facts i s;
        listed = of-chunks _ recorded k.code.chunks x.states c st i s b r (Memᴰ.head refl);
        of-chunk = refl;
        at = refl;
        says = refl;
      }

  pub unsaid : (c : Chunk) (st : List (Option State)) (i : ℕ) (s : State) → Beside c st k.code.chunks x.states
      → Recorded (report_of k reply x) c.number i s → get_or st i none ≡ some s
  unsaid c st i s b r =
      let (c', st', b', p, q, _) = record_of_lem r.entry r.listed in
      let (ec, es) = same_place 0 c c' st st' k.code.chunks x.states numbers b b' (sym r.of-chunk ∙ p) in
      rw (es, ← r.at, ← r.says) q
