-- Demand 3: every report that is decided is consistent beside its module.
use Prim.Native.Nat.{ℕ, zero, suc, ◌<◌}
use native.Mathlib.Omega.{arith}
use native.Mathlib.Nat.{zero-add}
use mathlib.Core.Path.{◌≡◌, refl, sym, ◌∙◌, ap}
use mathlib.Core.Logic.{◌⊎◌, inl, inr}
use mathlib.Core.Bool.{Bool, true, false}
use mathlib.Core.Option.{Option, none, some}
use mathlib.Core.List.{List, [], ◌∷◌, Memᴰ}
use lib.ListN.{length, get_or}
use Rattle.masks.specs.declared.Mask.{Mask}
use Rattle.masks.specs.Names.{NONE}
use Rattle.widths.specs.declared.Width.TheVariants.{Unknown as Wide}
use Rattle.flows.specs.declared.Flow.{Flow}
use Rattle.flows.specs.Flow.{no_flow}
use Rattle.cells.specs.Cell.{join_cell}
use Rattle.join_laws.proofs.Masks.{union-joins}
use Rattle.definition.specs.Outputs.{no_cell}
use Rattle.definition.specs.Ways.{leaving}
use Rattle.definition.specs.Machine.{Final, Effect}
use Rattle.definition.specs.Machine.{accepted as ends}
use Rattle.definition.specs.Module.{Module, Chunk, module_of}
use Rattle.definition.specs.State.{State, Facts, Gift, nothing, arguments, returned, written, join}
use Rattle.definition.specs.Leaves.{Known, visit_of, gives, leaves}
use Rattle.definition.specs.Start.{init_mask, admitted, overfull, first_facts, reply_maximum, known_of}
use Rattle.definition.specs.Report.{Report, Record, Branch, Inspection, slot_cells, record_from, record_of, report_of, branch_of, inspection_of}
use Rattle.definition.specs.Call.{run_of, reported, decide}
use Rattle.machine_laws.proofs.Sweep.{Each, none_left, one_more}
use Rattle.form_laws.proofs.Each.{row-at}
use Rattle.machine_laws.proofs.Bind.{none≢some, some_inj}
use Rattle.machine_laws.proofs.All.{All, nil, cons, all-get, Opt}
use Rattle.report_laws.proofs.Cells.{Sayable}
use Rattle.report_laws.proofs.Runs.{FactsNaming, ProperState, ProperFacts, first-naming, reply-naming, run-proper}
use Rattle.rule_laws.proofs.Faults.{low-enough}
use Rattle.form_laws.proofs.Admitted.{Admitted, all-admitted}
use Rattle.consistent.specs.Consistent.{Consistent, Arrives, ArrivesChunk, Recorded, Reached, first, then, GivenIn, Fine, DeclaredIn, fresh_slot, TakesCell, Leaves, KnownBranch, FalseInspection, visit_at, facts_of, state_of, TakesIn}
use Rattle.consistent.proofs.Shows.{Branches, Inspects, branch-shows, inspection-shows, shown-branch, shown-inspection}
use Rattle.consistent.proofs.Rows.{taken_at}
use Rattle.consistent.proofs.States.{cell-grows, cells-grows, cells_over, all_in, takes-in}
use Rattle.consistent.proofs.Absorb.{Fits, Declared}
use Rattle.consistent.proofs.Visits.{accepted, after_none, start-length, start_first, begun}
use Rattle.consistent.proofs.Records.{Beside, beside-mem, same_place, Numbered, numbered, in-chunks, of-chunks, facts-back, first-declared, first-masks, all-flows, signatures-numbered, record_of_lem, guards-ordered, said, unsaid}
use Rattle.consistent.proofs.Decided.{of-decide}
use Rattle.consistent.proofs.Rising.{one-rises, chunks-rise, branch-named, branch-rises, inspection-named, inspection-rises}
use Rattle.consistent.specs.Rising.{Rising}
use Rattle.consistent.proofs.Sized.{Under, Bounded, flow-declared, facts-naming, begun-bounded, leaving-bounded, taken-bounded, sized}
use Rattle.consistent.specs.Calls.{CallsFit, LocalsFit}
use Rattle.consistent.proofs.Range.{Placed, placed}
use Rattle.consistent.proofs.Calls.{calls-fit, locals-fit}
use Rattle.consistent.proofs.Sound.{Fixes, run_sound, run-declared, run-trails}
use Rattle.consistent.proofs.Trails.{Trail, Trails, onto}
use Rattle.consistent.proofs.Trails.{first as begin}
use Rattle.consistent.proofs.Wider.{wider}

-- ---- chunk by chunk
module _ {C D : Type 0} (P : C → D → Type 0) where
  each_at : (c : C) (d : D) {cs : List C} {ds : List D} → Each P cs ds → Beside c d cs ds → P c d
  each_at c d none_left b = absurd b
  each_at c d (one_more p e) (inl q) = rw (q.0, q.1) p
  each_at c d (one_more p e) (inr b) = each_at c d e b

  each-find : (c : C) {cs : List C} {ds : List D} → Each P cs ds → Memᴰ c cs → (d : D) × Beside c d cs ds
  each-find c none_left m = absurd (mathlib.Core.List.Memᴰ.not-nil m)
  each-find c (one_more {c = x} {d = d} {cs = cs} {ds = ds} p e) m = go (each-find c e) (mathlib.Core.List.Memᴰ.cases_cons m)
    where
      go : (Memᴰ c cs → (d : D) × Beside c d cs ds) → (c ≡ x) ⊎ Memᴰ c cs → (y : D) × Beside c y (x ∷ cs) (d ∷ ds)
      go below (inl q) = (d, inl (q, refl))
      go below (inr m) = let (y, b) = below m in (y, inr b)

-- what holds of all states, of the states beside a chunk
all-beside : {C D : Type 0} (P : D → Type 0) (c : C) (d : D) (cs : List C) {ds : List D} → All P ds → Beside c d cs ds → P d
all-beside P c d [] a b = absurd b
all-beside P c d (y ∷ ys) nil b = absurd b
all-beside P c d (y ∷ ys) (cons p a) (inl e) = rw e.1 p
all-beside P c d (y ∷ ys) (cons p a) (inr b) = all-beside P c d ys a b

recorded-inside : (st : List (Option State)) (i : ℕ) (s : State) → get_or st i none ≡ some s → i < length st
recorded-inside [] i s h = absurd (none≢some h)
recorded-inside (o ∷ st) zero s h = omega arith
recorded-inside (o ∷ st) (suc i) s h = let k = recorded-inside st i s h in omega arith

-- ---- what a visit gives
in-range : {A : Type 0} (l : List (List A)) (n i : ℕ) → i < length (get_or l n []) → n < length l
in-range [] n i h = absurd (omega arith)
in-range (x ∷ xs) zero i h = omega arith
in-range (x ∷ xs) (suc n) i h = let k = in-range xs n i h in omega arith

given-in : (m : Module) (f : Facts) (g : Gift) → Declared m f → Placed f g → Fits m f g → GivenIn m f g
unfolding GivenIn
given-in m f nothing s p h = tt
given-in m f (arguments n cs) s p h = (
  p,
  λ i l.
      let k : i < length (get_or f.inputs n []) = omega arith in
      taken_at join_cell no_cell (get_or f.inputs n []) cs i k l (sym (cells_over (get_or f.inputs n []) cs) ∙ h (in-range f.inputs n i k)),
)
given-in m f (returned n c) s p h = (p, h p)
given-in m f (written ns c) s p h = λ n k. (
  p n k,
  record { mask = λ q. (h n k).mask q (p n k); flow = λ b. (h n k).flow b (rw (all-flows m f s) (p n k)) },
)

-- ---- what is declared
first-mask : (m : Module) (n : ℕ) → n < m.slots → get_or (first_facts m).masks n NONE ≡ init_mask m n
unfolding first_facts
first-mask m n l = row-at (init_mask m) NONE 0 m.slots n l ∙ ap (init_mask m) (zero-add n)

declared-in : (m : Module) (f : Facts) → Declared m f → DeclaredIn m f
declared-in m f s =
    record {
      chunks = s.inputs.size;
      inputs = λ n l. all_in _ _ (s.rows n) (s.inputs.keeps n (get_or (first_facts m).inputs n []) (λ k. cells-grows.self _) l);
      results =
          record {
            long = s.results.size;
            each = λ n l. s.results.keeps n (get_or (first_facts m).results n no_cell) (λ k. cell-grows.self _) (rw s.results.size l);
          };
      slots = s.masks.size ∙ first-masks m;
    }

-- a slot's cell has its private mask and flow
slot_at : (ms : List Mask) (ws : List Flow) (n : ℕ) → n < length ms → length ws ≡ length ms
    → get_or (slot_cells ms ws) n no_cell ≡ record { mask = get_or ms n NONE; width = Wide; flow = get_or ws n no_flow }
unfolding slot_cells
slot_at [] ws n h e = absurd (omega arith)
slot_at (m ∷ ms) [] n h e = absurd (omega arith)
slot_at (m ∷ ms) (w ∷ ws) zero h e = refl
slot_at (m ∷ ms) (w ∷ ws) (suc n) h e = slot_at ms ws n (omega arith) (omega arith)

slots-in : (m : Module) (f : Facts) → Declared m f → (n : ℕ) → n < m.slots → TakesCell (get_or (slot_cells f.masks f.flows) n no_cell) (fresh_slot (init_mask m n))
unfolding join_cell
slots-in m f s n l =
    let h : n < length f.masks = rw (s.masks.size, first-masks m) l in
    rw (slot_at f.masks f.flows n h (all-flows m f s))
    (λ i.
    record {
      mask = s.masks.keeps n (init_mask m n) (λ k. rw (first-mask m n l) (union-joins.idem (init_mask m n))) h i;
      width = Wide;
      flow = flow-declared m f s n (rw (all-flows m f s) h) i;
    })

-- ---- an accepted run of a module
module _ (m : Module) (numbers : Numbered 0 m.chunks) (admits : admitted m m.chunks ≡ none) (calls : CallsFit m) (fit : LocalsFit m) (cap limit reply n : ℕ)
    (bound : reply_maximum (known_of m (first_facts m)).reply ≡ some reply) (room : overfull m ≡ false) (x : Final Facts State)
    (ran : run_of (known_of m (first_facts m)) cap limit (first_facts m) ≡ ends x n) where
  abbrev K : Known
  K = known_of m (first_facts m)

  abbrev R : Report
  R = report_of K reply x

  begun-with : Declared m x.facts
  unfolding known_of
  begun-with = run-declared K cap limit (first_facts m) x n ran (first-declared m)

  back : facts_of R ≡ x.facts
  unfolding known_of
  back = facts-back K reply x begun-with

  declares : DeclaredIn m x.facts
  declares = declared-in m x.facts begun-with

  -- every cell is one that a report can say; the facts and the reply name no local
  proper : ProperFacts x.facts × All (All (Opt ProperState)) x.states
  proper = run-proper K cap limit n (first_facts m) x (reply-naming Sayable m (first_facts m) (first-naming Sayable m)) (first-naming Sayable m) ran

  abbrev Left : Chunk → List (Option State) → Type 0
  Left c st = (c.reachable ≡ true → Fixes K x.facts c st) × (c.reachable ≡ false → st ≡ [])

  left : Each Left m.chunks x.states
  unfolding known_of
  left = run_sound K cap limit (first_facts m) x n ran

  abbrev Reaches : Chunk → List (Option State) → Type 0
  Reaches c st = c.reachable ≡ true → Trails join (leaves K true c x.facts) st

  reached : Each Reaches m.chunks x.states
  unfolding known_of
  reached = run-trails K cap limit (first_facts m) x n ran

  module _ (c : Chunk) (st : List (Option State)) (b : Beside c st m.chunks x.states) where
    -- the records of the chunk's number are its states
    says : (i : ℕ) (s : State) → get_or st i none ≡ some s → Recorded R c.number i s
    unfolding known_of
    says i s r = said K reply x numbers c st i s b r

    states : (i : ℕ) (s : State) → Recorded R c.number i s → get_or st i none ≡ some s
    unfolding known_of
    states i s r = unsaid K reply x numbers c st i s b r

    -- the visit of a record, read with the printed facts, is that of the run
    visit-is : (i : ℕ) (s : State) → visit_at m R c i s ≡ visit_of K c x.facts i s
    unfolding visit_at
    visit-is i s = ap (λ (f : Facts). visit_of K c f i s) back

    reaches : {i : ℕ} → Trail join (leaves K true c x.facts) st i → Reached m R c i
    reaches begin = first
    reaches (onto {i = i} {t = t} {s = s} {was = w} {x = y} {e = e} h r a l k) =
        let (z, q) = wider K c x.facts i s w (takes-in s w a) e l t y k in
        then t s z (reaches h) (says i s r) (rw (visit-is i s) q)

    module _ (fixed : Fixes K x.facts c st) (trails : Trails join (leaves K true c x.facts) st) where
      long : length st ≡ length c.code
      long = fixed.size ∙ start-length c x.facts

      within : (i : ℕ) (s : State) → get_or st i none ≡ some s → i < length c.code
      within i s r = rw (← long) (recorded-inside st i s r)

      begins : 0 < length c.code → (s : State) × Recorded R c.number 0 s × TakesIn s (begun c (facts_of R))
      begins h =
          let (s, r, k) = fixed.starts 0 (begun c x.facts) (start_first c x.facts h) (rw long h) in
          (s, says 0 s r, rw back (takes-in s (begun c x.facts) k))

      passes : (i : ℕ) (s : State) → Recorded R c.number i s → (to : ℕ) (y : State) → Leaves m R c i s to y
          → to < length c.code → (t : State) × Recorded R c.number to t × TakesIn t y
      passes i s r to y k l =
          let h = fixed.held i s (states i s r) in
          let e = (accepted K true c x.facts i s h.out h.leaving).is in
          let k' : Memᴰ (to, y) h.out.ways = rw (← e, ← visit-is i s) k in
          let (t, q, a) = h.taken (to, y) k' (rw long l) in
          (t, says to t q, takes-in t y a)

      given : Admitted m c → (i : ℕ) (s : State) → Recorded R c.number i s → GivenIn m (facts_of R) (gives (visit_at m R c i s))
      unfolding known_of
      given a i s r =
          let h = fixed.held i s (states i s r) in
          let w = accepted K true c x.facts i s h.out h.leaving in
          rw (visit-is i s, back)
          (given-in m x.facts _ begun-with (placed K numbers calls x.facts begun-with c (beside-mem c st m.chunks x.states b) a.signed i s w.fits)
          (rw (ap (λ (z : Effect State Gift). z.gives) w.is) h.fits))

      fine : (i : ℕ) (s : State) → Recorded R c.number i s → Fine (visit_at m R c i s) s
      unfolding visit_of
      fine i s r =
          let h = fixed.held i s (states i s r) in
          let w = accepted K true c x.facts i s h.out h.leaving in
          rw (visit-is i s)
          (record {
            fits = w.fits;
            proven = w.proven;
            height = low-enough (visit_of K c x.facts i s) w.low;
            inspected = after_none c st fixed.quiet-after i s (states i s r);
          })

      -- along the passes every state is of the chunk's size
      mem : Memᴰ c m.chunks
      mem = beside-mem c st m.chunks x.states b

      at-proper : (i : ℕ) (s : State) → get_or st i none ≡ some s → ProperState s
      at-proper i s r = rw r at (all-get (Opt ProperState) i {d = none} tt (all-beside (All (Opt ProperState)) c st m.chunks proper.1 b))

      unnamed : FactsNaming (Under c.locals) x.facts
      unnamed = facts-naming m x.facts proper.0 begun-with declares

      bounded : 0 < length c.code → {i : ℕ} → Reached m R c i → (t : State) → get_or st i none ≡ some t → Bounded c t
      unfolding visit_of
      bounded h first t r =
          let (s, q, k) = fixed.starts 0 (begun c x.facts) (start_first c x.facts h) (rw long h) in
          let e : s ≡ t = some_inj (sym q ∙ r) in
          taken-bounded c t (begun c x.facts) (at-proper 0 t r) (rw e at (takes-in s (begun c x.facts) k)) (begun-bounded c x.facts unnamed)
      bounded h (then {i = i} to s y d e l) t r =
          let q = states i s e in
          let w = fixed.held i s q in
          let v = accepted K true c x.facts i s w.out w.leaving in
          let l' : Memᴰ {A = ℕ × State} (to, y) (leaving (visit_of K c x.facts i s)) = rw (visit-is i s) at l in
          let (t', q', k) = w.taken (to, y) (rw (← v.is) l') (recorded-inside st to t r) in
          let z : t' ≡ t = some_inj (sym q' ∙ r) in
          taken-bounded c t y (at-proper to t r) (rw z at (takes-in t' y k))
          (leaving-bounded K c x.facts i s (reply-naming (Under c.locals) m (first_facts m) (first-naming (Under c.locals) m)) unnamed (fit c mem i (within i s q))
          (low-enough (visit_of K c x.facts i s) v.low) (bounded h d s q) to y l')

      reached-at : (i : ℕ) (s : State) → Recorded R c.number i s → Reached m R c i
      reached-at i s r = reaches (trails i s (states i s r))

      follows : (y : Record) → Memᴰ y R.records → y.chunk ≡ c.number → y ≡ record_of K c (facts_of R) y.instruction (state_of y)
      unfolding known_of
      follows y k e =
          let (c', st', b', p, _, z) = record_of_lem K reply x numbers y k in
          let (ec, _) = same_place 0 c c' st st' m.chunks x.states numbers b b' (sym e ∙ p) in
          rw (back, ec) z

      one : Admitted m c → ArrivesChunk m R c
      one a =
          record {
            begins = begins a.code;
            passes = passes;
            given = given a;
            fine = fine;
            inside = λ i s r. within i s (states i s r);
            sized = λ i s r. sized c s (bounded a.code (reached-at i s r) s (states i s r));
            follows = follows;
          }

  no-states : (c : Chunk) → Memᴰ c m.chunks → c.reachable ≡ false → (i : ℕ) (s : State) → Recorded R c.number i s → ⊥
  no-states c k u i s r =
      let (st, b) = each-find Left c left k in
      let e = (each_at Left c st left b).1 u in
      none≢some (rw e at (states c st b i s r))

  owns : (y : Record) → Memᴰ y R.records → (c : Chunk) × Memᴰ c m.chunks × (y.chunk ≡ c.number) × (c.reachable ≡ true)
  unfolding known_of
  owns y k =
      let (c, st, b, p, q, _) = record_of_lem K reply x numbers y k in
      (c, beside-mem c st m.chunks x.states b, p, go c st b q c.reachable refl)
    where
      go : (c : Chunk) (st : List (Option State)) → Beside c st m.chunks x.states → get_or st y.instruction none ≡ some (state_of y)
          → (t : Bool) → c.reachable ≡ t → c.reachable ≡ true
      go c st b q true e = e
      go c st b q false e = absurd (none≢some (rw ((each_at Left c st left b).1 e) at q))

  -- a listed branch or inspection, of a chunk and one of its states
  branches_at : (y : Branch) (c : Chunk) (st : List (Option State)) (i : ℕ) (s : State) → Beside c st m.chunks x.states → get_or st i none ≡ some s
      → Branches c i s y → KnownBranch m R y
  branches_at y c st i s b r t =
      (c, s, beside-mem c st m.chunks x.states b, sym t.of-chunk, rw (t.of-chunk, t.at) (says c st b i s r), rw t.at t.tests, t.told)

  inspections-at : (y : Inspection) (c : Chunk) (st : List (Option State)) (i : ℕ) (s : State) → Beside c st m.chunks x.states → get_or st i none ≡ some s
      → Inspects c i s y → FalseInspection m R y
  inspections-at y c st i s b r t =
      (c, s, beside-mem c st m.chunks x.states b, sym t.of-chunk, rw (t.of-chunk, t.at) (says c st b i s r), rw t.at t.told)

  records-rise : Rising R.records
  unfolding known_of report_of record_of record_from
  records-rise =
      chunks-rise _ _ (λ c i s. record_of K c x.facts i s ∷ [])
      (λ c i s y h. let e = mathlib.Core.List.Memᴰ.eq_of_singleton h in (ap (λ (z : Record). z.chunk) e, ap (λ (z : Record). z.instruction) e))
      (λ c i s. one-rises _ _ (record_of K c x.facts i s)) 0 m.chunks x.states numbers

  run-arrives : Arrives m R
  unfolding known_of report_of
  run-arrives =
      record {
        admits = admits;
        reply = bound;
        room = room;
        numbered = signatures-numbered K reply x;
        declared = rw back declares;
        slots = slots-in m x.facts begun-with;
        rising = records-rise;
        chunks = λ c k u.
            let (st, b) = each-find Left c left k in
            one c st b ((each_at Left c st left b).0 u) (each_at Reaches c st reached b u) (all-admitted m m.chunks admits c k u);
        none = no-states;
        owned = owns;
        ordered = guards-ordered K reply x numbers;
        branches = λ y. (
          λ k.
              let (c, st, i, s, b, r, h) = in-chunks y branch_of m.chunks x.states k in
              branches_at y c st i s b r (branch-shows c i s y h),
          λ (c, s, k, e, r, t, o).
              let (st, b) = each-find Left c left k in
              of-chunks y branch_of m.chunks x.states c st y.instruction s b (states c st b y.instruction s (rw e r))
              (shown-branch c y.instruction s y (record { of-chunk = sym e; at = refl; tests = t; told = o })),
        );
        branches_rise = chunks-rise _ _ branch_of branch-named branch-rises 0 m.chunks x.states numbers;
        inspections_rise = chunks-rise _ _ inspection_of inspection-named inspection-rises 0 m.chunks x.states numbers;
        inspections = λ y. (
          λ k.
              let (c, st, i, s, b, r, h) = in-chunks y inspection_of m.chunks x.states k in
              inspections-at y c st i s b r (inspection-shows c i s y h),
          λ (c, s, k, e, r, o).
              let (st, b) = each-find Left c left k in
              of-chunks y inspection_of m.chunks x.states c st y.instruction s b (states c st b y.instruction s (rw e r))
              (shown-inspection c y.instruction s y (record { of-chunk = sym e; at = refl; told = o })),
        );
      }

  pub run-consistent : Consistent m R
  run-consistent =
      record {
        arrives = run-arrives;
        reached = λ c k u.
            let (st, b) = each-find Left c left k in
            reached-at c st b ((each_at Left c st left b).0 u) (each_at Reaches c st reached b u);
      }

-- THEOREM (demand 3)
pub consistent : (s : List ℕ) (words limit : ℕ) (r : Report) (n : ℕ) → decide s words limit ≡ reported r n → Consistent (module_of s) r
consistent s words limit r n h =
    let (k, cap, f, w) = of-decide s words limit r n h in
    rw (← w.says) (run-consistent (module_of s) (numbered s) w.admits (calls-fit s k f) (locals-fit s k f) cap limit w.reply n w.bound w.room w.final w.ran)
