-- What begins a chunk leaves the machine that enters it.
use Prim.Native.Nat.{ℕ, zero, suc, ◌+◌, ◌*◌, ◌-◌, ◌/◌, ◌<◌, ◌≤◌}
use native.Mathlib.Omega.{arith}
use mathlib.Core.Path.{◌≡◌, refl, sym, ap, ap₂, ◌∙◌}
use mathlib.Core.Bool.{Bool, true}
use mathlib.Core.Option.{Option, none, some}
use mathlib.Core.List.{List, [], ◌∷◌}
use mathlib.Core.Logic.{◌⊎◌, inl, inr}
use borrow.Author.Tests.{lt-ltb, le-ltb}
use lib.ListN.{length, get_or, set, drop, replicate, length-set}
use lib.Seq.{get_or-set_same, get_or-set_other}
use Rattle.cells.specs.declared.Cell.{Cell}
use Rattle.cells.specs.Cell.{unit_cell}
use Rattle.words.specs.Layout.{cell_at}
use Rattle.words.proofs.Laws.{cell_at-same}
use Rattle.words.specs.Rows.{cells_at}
use Rattle.ring.specs.declared.Queue.{Queue}
use Rattle.ring.specs.Ring.{QueueReady, cap_of, queue_of, pushed, grown}
use Rattle.ring.proofs.Ring.{entries-push, push-below, length-pushed}
use Rattle.definition.specs.Module.{Module, row, module_of}
use Rattle.definition.specs.State.{State}
use Rattle.definition.specs.Start.{filled, start}
use Rattle.form_laws.proofs.Each.{row-at}
use Rattle.form_laws.specs.Good.{chunk_no, row_cells, words_of}
use Rattle.layout.specs.declared.Chunk.{Chunk as ChunkNumbers}
use Rattle.layout.specs.Layout.{area_of, input_at, rows_at, row_at, local_at, locals_at, stack_at, row_field}
use Rattle.layout.specs.declared.Tables.{Tables}
use Rattle.layout.specs.Indexed.{tables_of, chunk_at}
use Rattle.layout.proofs.Read.{row-known}
use Rattle.layout.proofs.Apart.{by_order, areas-behind, slots-first, inputs-first, result-begins, result-next, rows-begin, row_apart, row-begins, row_before, row_in, rows_in}
use Rattle.layout.specs.Kept.{Steady}
use Rattle.row_join.specs.joining.Leave.{state_by, state_in}
use Rattle.visit.specs.Held.{facts_in}
use Rattle.run_state.specs.declared.Run.{Run}
use Rattle.run_state.specs.Course.{states_in, machine_in, Low, LowBefore, Queued, Prepared, Between, RowsOnly, state_at}
use Rattle.form_laws.proofs.Admitted.{chunk-admitted}
use Rattle.run_state.proofs.Queues.{queued-push}
use Rattle.run_state.proofs.Rows.{row-set, past-kept, low-before-kept}
use Rattle.run_state.proofs.Stays.{inputs_end, rows-live, rows-prepared}
use Rattle.form_laws.proofs.Tests.{ne-pos}
use Rattle.rounds.specs.entering.Rows.{RowsThere, Cleared, LocalsThere, Filled, first_cell}
use Rattle.rounds.specs.entering.Began.{Began, entered}

-- ---- a reachable chunk was admitted: it is signed, and has code
pub reachable-signed : (s ws : List ℕ) (c : ℕ) → Prepared s ws → c < length (module_of s).chunks → (chunk_no (module_of s) c).reachable ≡ true
    → (c < (module_of s).signatures) × (0 < length (chunk_no (module_of s) c).code)
unfolding chunk_no
reachable-signed s ws c p h r =
    let a = chunk-admitted (module_of s) (module_of s).chunks c p.admitted h r in
    (omega (arith, a.signed, (p.indexed.good.each_chunk c h).number), a.code)

-- ---- the locals that it begins with
cells-filled : (v ws : List ℕ) (a b n p : ℕ) → ((k : ℕ) → k < n → k < p → cell_at v (a + 16 * k) ≡ cell_at ws (b + 16 * k))
    → ((k : ℕ) → k < n → p ≤ k → cell_at v (a + 16 * k) ≡ unit_cell) → cells_at v a n ≡ filled n (cells_at ws b p)
unfolding cells_at filled
cells-filled v ws a b zero p e f = refl
cells-filled v ws a b (suc n) zero e f =
    let z : a ≡ a + 16 * 0 = omega arith in
    ap₂ ◌∷◌ (ap (cell_at v) z ∙ f 0 (omega arith) (omega arith))
    (cells-filled v ws (a + 16) b n 0
    (λ k l m. absurd (omega arith))
    (λ k l m. let y : a + 16 + 16 * k ≡ a + 16 * suc k = omega arith in ap (cell_at v) y ∙ f (suc k) (omega arith) (omega arith)))
cells-filled v ws a b (suc n) (suc p) e f =
    let z : a ≡ a + 16 * 0 = omega arith in
    let q : b + 16 * 0 ≡ b = omega arith in
    ap₂ ◌∷◌ (ap (cell_at v) z ∙ e 0 (omega arith) (omega arith) ∙ ap (cell_at ws) q)
    (cells-filled v ws (a + 16) (b + 16) n p
    (λ k l m.
    let y : a + 16 + 16 * k ≡ a + 16 * suc k = omega arith in
    let x : b + 16 * suc k ≡ b + 16 + 16 * k = omega arith in
    ap (cell_at v) y ∙ e (suc k) (omega arith) (omega arith) ∙ ap (cell_at ws) x)
    (λ k l m. let y : a + 16 + 16 * k ≡ a + 16 * suc k = omega arith in ap (cell_at v) y ∙ f (suc k) (omega arith) (omega arith)))

row-none : {A : Type 0} (d : A) (i n : ℕ) → row (λ k. d) i n ≡ replicate n d
unfolding row
row-none d i zero = refl
row-none d i (suc n) = ap (λ (l : List _). d ∷ l) (row-none d (suc i) n)

row_first : (m : Module) (n : ℕ) → row_at m n 0 ≡ rows_at m n
unfolding row_at
row_first m n = omega arith

-- ---- the words after: rows without states, the locals of the first, its height, the queue
abbrev pub no_entries : Queue
no_entries = record { head = 0; count = 0 }

module _ (s ws : List ℕ) (c : ℕ) (p : Prepared s ws) (h : c < length (module_of s).chunks) (code : 0 < length (chunk_no (module_of s) c).code) (w w2 w3 v : List ℕ)
    (x : Cleared (chunk_at s ws c) (length (chunk_no (module_of s) c).code) ws w) (y : Filled (chunk_at s ws c) (chunk_no (module_of s) c).locals w w2)
    (raised : w3 ≡ set w2 (rows_at (module_of s) c) 1) (queued : v ≡ pushed w3 (words_of (module_of s)) no_entries 0) where
  first-row : row_at (module_of s) c 0 ≡ rows_at (module_of s) c
  first-row = row_first (module_of s) c

  raised_long : length w3 ≡ length ws
  raised_long = ap length raised ∙ length-set w2 (rows_at (module_of s) c) 1 ∙ y.out.length ∙ x.long

  raised-other : (j : ℕ) → (j ≡ rows_at (module_of s) c → ⊥) → get_or w3 j 0 ≡ get_or w2 j 0
  raised-other j d = ap (λ (l : List ℕ). get_or l j 0) raised ∙ get_or-set_other w2 (rows_at (module_of s) c) j 1 0 d

  long : length v ≡ length ws
  long = ap length queued ∙ length-pushed w3 (words_of (module_of s)) no_entries 0 ∙ raised_long

  below : (j : ℕ) → j < words_of (module_of s) → get_or v j 0 ≡ get_or w3 j 0
  below j l = ap (λ (u : List ℕ). get_or u j 0) queued ∙ push-below w3 (words_of (module_of s)) no_entries 0 j l

  last_row : (i : ℕ) → 0 < i → rows_at (module_of s) c + 16 * row_cells (chunk_no (module_of s) c) ≤ row_at (module_of s) c i
  last_row i l = omega (arith, first-row, row_apart (module_of s) c 0 i l)

  -- the other words stay
  untouched : (j : ℕ) → j < words_of (module_of s) → ((i : ℕ) → i < length (chunk_no (module_of s) c).code → j ≡ row_at (module_of s) c i → ⊥)
      → (j < stack_at (rows_at (module_of s) c)) ⊎ (rows_at (module_of s) c + 16 * row_cells (chunk_no (module_of s) c) ≤ j) → get_or v j 0 ≡ get_or ws j 0
  unfolding chunk_at row_at
  untouched j l d o =
      below j l ∙ raised-other j (λ e. d 0 code (e ∙ sym first-row)) ∙ y.out.word j (beside o) ∙ x.other j d
    where
      beside : (j < stack_at (rows_at (module_of s) c)) ⊎ (rows_at (module_of s) c + 16 * row_cells (chunk_no (module_of s) c) ≤ j)
          → (j < local_at (rows_at (module_of s) c) (chunk_no (module_of s) c).stack 0)
          ⊎ (local_at (rows_at (module_of s) c) (chunk_no (module_of s) c).stack (chunk_no (module_of s) c).locals ≤ j)
      beside (inl a) = inl (omega arith)
      beside (inr a) = inr (omega arith)

  under : (j : ℕ) → j < rows_at (module_of s) c → get_or v j 0 ≡ get_or ws j 0
  under j q = untouched j (omega (arith, rows_in (module_of s) c h)) (λ k a e. omega (arith, rows-begin (module_of s) c k)) (inl (omega arith))

  -- the second word of a row
  field-stays : (n i : ℕ) → n < length (module_of s).chunks → i < length (chunk_no (module_of s) n).code → get_or v (row_at (module_of s) n i + row_field) 0 ≡ get_or ws (row_at (module_of s) n i + row_field) 0
  field-stays n i l o = by_order n c before same behind
    where
      before : n < c → get_or v (row_at (module_of s) n i + row_field) 0 ≡ get_or ws (row_at (module_of s) n i + row_field) 0
      before q = under _ (omega (arith, row_before (module_of s) n i c o q (omega arith), result-begins (module_of s) c, result-next (module_of s) c))

      apart : (k : ℕ) → row_at (module_of s) c i + row_field ≡ row_at (module_of s) c k → ⊥
      apart k e = by_order i k (λ q. omega (arith, row_apart (module_of s) c i k q)) (λ q. omega (arith, ap (row_at (module_of s) c) q)) (λ q. omega (arith, row_apart (module_of s) c k i q))

      first : (k : ℕ) → k ≡ i → (row_at (module_of s) c k + row_field < stack_at (rows_at (module_of s) c)) ⊎ (rows_at (module_of s) c + 16 * row_cells (chunk_no (module_of s) c) ≤ row_at (module_of s) c k + row_field)
      first zero e = inl (omega (arith, first-row))
      first (suc k) e = inr (omega (arith, last_row (suc k) (omega arith)))

      same : n ≡ c → get_or v (row_at (module_of s) n i + row_field) 0 ≡ get_or ws (row_at (module_of s) n i + row_field) 0
      same q =
          let t : i < length (chunk_no (module_of s) c).code = rw q at o in
          rw q (untouched _ (omega (arith, row_in (module_of s) c i h t)) (λ k a e. apart k e) (first i refl))

      behind : c < n → get_or v (row_at (module_of s) n i + row_field) 0 ≡ get_or ws (row_at (module_of s) n i + row_field) 0
      behind q =
          untouched _ (omega (arith, row_in (module_of s) n i l o))
          (λ k a e. omega (arith, row_before (module_of s) c k n a q (omega arith), row-begins (module_of s) n i))
          (inr (omega (arith, row_before (module_of s) c 0 n code q (omega arith), first-row, row-begins (module_of s) n i)))

  rows-only : RowsOnly s c ws v
  rows-only = record { steady = steady; under = under; above = above }
    where
      front : (j : ℕ) → j < 16 * area_of (module_of s) c → get_or v j 0 ≡ get_or ws j 0
      front j q = under j (omega (arith, result-begins (module_of s) c, result-next (module_of s) c))

      above : (j : ℕ) → row_at (module_of s) c (length (chunk_no (module_of s) c).code) ≤ j → j < words_of (module_of s) → get_or v j 0 ≡ get_or ws j 0
      above j a b =
          untouched j b (λ k l e. omega (arith, row_apart (module_of s) c k (length (chunk_no (module_of s) c).code) l))
          (inr (omega (arith, last_row (length (chunk_no (module_of s) c).code) code)))

      steady : Steady (module_of s) ws v
      steady =
          record {
            kept =
                record {
                  long = long;
                  numbers = λ n k l o d. front _ (omega (arith, areas-behind (module_of s) c));
                  fields = field-stays;
                  marks = λ n l. ap (λ (k : ℕ). k / 65536) (front _ (omega (arith, slots-first (module_of s) n c l)));
                };
            suspends = λ n l. front _ (omega (arith, areas-behind (module_of s) c));
          }

  -- ---- its states
  height-first : get_or v (row_at (module_of s) c 0) 0 ≡ 1
  height-first =
      below (row_at (module_of s) c 0) (omega (arith, row_in (module_of s) c 0 h code))
      ∙ ap₂ (λ (u : List ℕ) (j : ℕ). get_or u j 0) raised first-row
      ∙ get_or-set_same w2 (rows_at (module_of s) c) 1 0 (omega (arith, row_in (module_of s) c 0 h code, first-row, p.room, y.out.length, x.long))

  height-other : (i : ℕ) → i < length (chunk_no (module_of s) c).code → (i ≡ 0 → ⊥) → get_or v (row_at (module_of s) c i) 0 ≡ 0
  unfolding chunk_at row_at
  height-other i l d =
      let q = last_row i (ne-pos i d) in
      below (row_at (module_of s) c i) (omega (arith, row_in (module_of s) c i h l))
      ∙ raised-other (row_at (module_of s) c i) (λ e. omega arith)
      ∙ y.out.word (row_at (module_of s) c i) (inr (omega arith))
      ∙ x.zero i l

  -- a local of the first row
  local-word : (j : ℕ) → rows_at (module_of s) c < j → j < rows_at (module_of s) c + 16 * row_cells (chunk_no (module_of s) c) → get_or v j 0 ≡ get_or w2 j 0
  local-word j a b = below j (omega (arith, row_in (module_of s) c 0 h code, first-row)) ∙ raised-other j (λ e. omega arith)

  local-cell : (k : ℕ) → k < (chunk_no (module_of s) c).locals
      → cell_at v (local_at (rows_at (module_of s) c) (chunk_no (module_of s) c).stack k) ≡ first_cell w (chunk_at s ws c) k
  unfolding chunk_at
  local-cell k l = cell_at-same v w2 _ _ (λ j o. local-word _ (omega arith) (omega arith)) ∙ y.cell k l

  -- the inputs stay
  input-stays : (k : ℕ) → k < length (chunk_no (module_of s) c).params → cell_at w (input_at (module_of s) c 0 + 16 * k) ≡ cell_at ws (input_at (module_of s) c 0 + 16 * k)
  unfolding chunk_at input_at row_at
  input-stays k l =
      cell_at-same w ws _ _ (λ j o. x.other _ (λ i q e.
      omega (arith, inputs-first (module_of s) c k l, result-next (module_of s) c, rows-begin (module_of s) c i)))

  locals-first : cells_at v (locals_at (row_at (module_of s) c 0) (chunk_no (module_of s) c).stack) (chunk_no (module_of s) c).locals
      ≡ filled (chunk_no (module_of s) c).locals (cells_at ws (input_at (module_of s) c 0) (length (chunk_no (module_of s) c).params))
  unfolding chunk_at
  locals-first =
      cells-filled v ws _ (input_at (module_of s) c 0) (chunk_no (module_of s) c).locals (length (chunk_no (module_of s) c).params)
      (λ k l m. at k ∙ local-cell k l ∙ rw (lt-ltb k (length (chunk_no (module_of s) c).params) m) (input-stays k m))
      (λ k l m. at k ∙ local-cell k l ∙ rw (le-ltb k (length (chunk_no (module_of s) c).params) m))
    where
      at : (k : ℕ) → cell_at v (locals_at (row_at (module_of s) c 0) (chunk_no (module_of s) c).stack + 16 * k)
          ≡ cell_at v (local_at (rows_at (module_of s) c) (chunk_no (module_of s) c).stack k)
      at k = ap (cell_at v) (omega (arith, first-row))

  -- they are those of the facts
  inputs_are : c < (module_of s).signatures
      → get_or (facts_in s ws).inputs (chunk_no (module_of s) c).number [] ≡ cells_at ws (input_at (module_of s) c 0) (length (chunk_no (module_of s) c).params)
  unfolding facts_in
  inputs_are l =
      let z : 0 + c ≡ c = omega arith in
      let f : ℕ → List Cell = λ n. cells_at ws (input_at (module_of s) n 0) (length (chunk_no (module_of s) n).params) in
      ap (λ (n : ℕ). get_or (row f 0 (module_of s).signatures) n []) (p.indexed.good.each_chunk c h).number
      ∙ row-at f [] 0 (module_of s).signatures c l
      ∙ ap f z

  state-first : c < (module_of s).signatures
      → state_at s c v 0 ≡ some (record { stack = []; locals = filled (chunk_no (module_of s) c).locals (get_or (facts_in s ws).inputs (chunk_no (module_of s) c).number []) })
  unfolding state_in state_by cells_at
  state-first l =
      ap (state_by v (row_at (module_of s) c 0) (chunk_no (module_of s) c).stack (chunk_no (module_of s) c).locals) height-first
      ∙ (λ i. some (record { stack = []; locals = (locals-first ∙ ap (filled (chunk_no (module_of s) c).locals) (sym (inputs_are l))) i }))

  states-are : c < (module_of s).signatures → states_in s v c ≡ start (chunk_no (module_of s) c) (facts_in s ws)
  unfolding states_in start state_in state_by
  states-are l =
      row-set (λ k. none) (state_at s c v) 0 (length (chunk_no (module_of s) c).code) 0 code
      (λ k a b d. ap (state_by v (row_at (module_of s) c k) (chunk_no (module_of s) c).stack (chunk_no (module_of s) c).locals) (height-other k (omega arith) d))
      ∙ ap₂ (λ (a : List (Option State)) (b : Option State). set a 0 b) (row-none none 0 (length (chunk_no (module_of s) c).code)) (state-first l)

  -- ---- its queue
  ready-first : QueueReady w3 (words_of (module_of s)) no_entries
  ready-first = record { fits = omega (arith, p.room, raised_long); head = omega (arith, p.room, raised_long); count = omega arith }

  room-first : 0 < cap_of w3 (words_of (module_of s))
  room-first = omega (arith, ready-first.head)

  queue-is : queue_of v (words_of (module_of s)) (grown no_entries) ≡ 0 ∷ []
  unfolding queue_of
  queue-is = rw queued (entries-push w3 (words_of (module_of s)) no_entries 0 ready-first room-first)

  queued-is : Queued s v c (grown no_entries)
  queued-is = rw queued (queued-push s w3 c no_entries 0 (record { ready = ready-first; entries = λ k l. absurd (omega arith) }) room-first code)

  low-is : Low s v c
  unfolding Low
  low-is zero l = omega (arith, height-first)
  low-is (suc i) l = omega (arith, height-other (suc i) l (λ e. omega arith))

  -- ---- the chunk has begun
  module _ (reach : (chunk_no (module_of s) c).reachable ≡ true) (low : LowBefore s ws c) (validating changed : Bool) (steps : ℕ) where
    abbrev first_run : Run
    first_run = record { validating = validating; chunk = c; queue = grown no_entries; steps = steps; changed = changed }

    between : Between s v first_run
    between =
        record {
          prepared = rows-prepared s c h ws v rows-only p;
          chunk = h;
          reachable = reach;
          queued = queued-is;
          low = low-is;
          before = low-before-kept s c h ws v rows-only low;
        }

    machine : c < (module_of s).signatures → machine_in s v first_run ≡ entered s ws c validating changed
    unfolding machine_in
    machine l =
        λ i. record {
          validating = validating;
          number = c;
          chunk = chunk_no (module_of s) c;
          rest = drop (suc c) (module_of s).chunks;
          past = past-kept s c h ws v rows-only low i;
          states = states-are l i;
          queue = queue-is i;
          facts = rows-live s c h ws v rows-only p.indexed changed i;
        }

    begins : c < (module_of s).signatures → Began s ws v c validating changed steps first_run
    begins l = record { between = between; due = omega arith; same-steps = refl; long = long; machine = machine l }

-- ---- as the code goes
module _ (s ws : List ℕ) (c : ℕ) (p : Prepared s ws) (h : c < length (module_of s).chunks) (reach : (chunk_no (module_of s) c).reachable ≡ true)
    (ch : ChunkNumbers) (e : ch ≡ chunk_at s ws c) where
  pub rows-there : RowsThere ws ch
  rows-there =
      record {
        room = λ i l. let r = row-known s ws c ch i p.indexed h e l in omega (arith, r.at, r.room);
        small = λ i l. let r = row-known s ws c ch i p.indexed h e l in omega (arith, r.at, r.small);
      }

  -- the first row
  first-there : local_at ch.rows ch.stack ch.locals ≤ words_of (module_of s)
  unfolding chunk_at
  first-there =
      rw e (omega (arith, row_in (module_of s) c 0 h (reachable-signed s ws c p h reach).1, row_first (module_of s) c))

  pub first-locals-there : (w : List ℕ) → length w ≡ length ws → LocalsThere w ch
  unfolding chunk_at
  first-locals-there w l =
      record {
        room = omega (arith, first-there, p.room);
        small = omega (arith, first-there, p.indexed.good.small);
        inputs = rw e (omega (arith, inputs_end (module_of s) c, result-next (module_of s) c));
      }

  pub first-row-there : (w : List ℕ) → length w ≡ length ws → ch.rows < length w
  first-row-there w l = omega (arith, first-there, p.room)

  module _ (t : Tables) (tables : t ≡ tables_of s) (w w2 w3 : List ℕ) (x : Cleared ch ch.count ws w) (y : Filled ch ch.locals w w2)
      (raised : w3 ≡ set w2 ch.rows 1) where
    pub queue-there : QueueReady w3 t.queue_at no_entries × (0 < length w3 - t.queue_at)
    unfolding tables_of
    queue-there =
        let l : length w3 ≡ length ws = ap length raised ∙ length-set w2 ch.rows 1 ∙ y.out.length ∙ x.long in
        rw tables (record { fits = omega (arith, p.room); head = omega (arith, p.room); count = omega arith }, omega (arith, p.room))

    pub began : (v : List ℕ) (q : Queue) → v ≡ pushed w3 t.queue_at no_entries 0 → q ≡ grown no_entries → LowBefore s ws c
        → (validating changed : Bool) (steps : ℕ)
        → Began s ws v c validating changed steps (record { validating = validating; chunk = c; queue = q; steps = steps; changed = changed })
    unfolding chunk_at tables_of
    began v q put grow low validating changed steps =
        let (a, b) = reachable-signed s ws c p h reach in
        rw grow (begins s ws c p h b w w2 w3 v (rw e at x) (rw e at y) (rw e at raised) (rw tables at put) reach low validating changed steps a)
