-- One taking, by how it ends: the entry is dropped, the visit is refused, a way stops, all ways are passed.
use Prim.Native.Nat.{ℕ, suc, ◌+◌, ◌<◌, ◌≤◌}
use native.Mathlib.Omega.{arith}
use mathlib.Core.Path.{◌≡◌, refl, sym, ap, ◌∙◌}
use mathlib.Core.Bool.{Bool, true, false, cond}
use mathlib.Core.Option.{none}
use mathlib.Core.List.{List}
use lib.ListN.{length, get_or}
use Rattle.answers.specs.Answers.{refusal}
use Rattle.answers.specs.declared.Refusal.{Refusal}
use Rattle.ring.specs.declared.Queue.{Queue}
use Rattle.ring.specs.Ring.{QueueReady, cap_of, entry_at, due_of, popped_of, queue_of}
use Rattle.ring.proofs.Ring.{entries-pop, ready-pop}
use Rattle.definition.specs.Res.{bad}
use Rattle.definition.specs.Machine.{visit, visit_at, adds}
use Rattle.definition.specs.Module.{module_of}
use Rattle.definition.specs.Start.{known_of}
use Rattle.definition.specs.State.{Live, Gift, join}
use Rattle.definition.specs.Outputs.{instr}
use Rattle.definition.specs.Ways.{after}
use Rattle.definition.specs.Leaves.{gives, absorb, leaves, visit_of}
use Rattle.form_laws.specs.Good.{chunk_no, words_of}
use Rattle.layout.specs.declared.Chunk.{Chunk}
use Rattle.layout.specs.declared.Tables.{Tables}
use Rattle.layout.specs.Layout.{row_at}
use Rattle.layout.specs.Indexed.{Indexed, tables_of, chunk_at}
use Rattle.layout.proofs.Read.{Row, row-known, count-is, stack_is}
use Rattle.layout.proofs.Kept.{chunk-steady, steady-refl}
use Rattle.row_join.specs.declared.joining.Leaving.{Leaving}
use Rattle.row_join.specs.joining.Leave.{state_by, state_in}
use Rattle.visit.specs.declared.RowVisit.{RowVisit}
use Rattle.visit.specs.Held.{live_in, Looking, visit_in}
use Rattle.visit.proofs.Visits.{below-long}
use Rattle.run_state.specs.declared.Run.{Run}
use Rattle.run_state.specs.Course.{states_in, work_in, seen_in, room_in, known_as, analysis_in, Low, Queued, Between, FactsOnly}
use Rattle.run_state.proofs.Rows.{states-at}
use Rattle.run_state.proofs.Stays.{facts-low}
use Rattle.run_state.proofs.Queues.{queue-at, queued-kept}
use Rattle.form_laws.proofs.Admitted.{chunk-admitted}
use Rattle.propagate.specs.Steps.{PassReady}
use Rattle.propagate.specs.Passing.{LeavesInRow, ways_in, Passed}
use Rattle.form_laws.proofs.Tests.{ne-pos}
use Rattle.rule_laws.proofs.Faults.{low-enough}
use Rattle.step.specs.Alike.{Alike}
use Rattle.step.proofs.Alike.{after-high}
use Rattle.step.specs.Taking.{taking_of, fault_of}
use Rattle.step.proofs.Taking.{taking-faulty}
use Rattle.step.proofs.Frames.{looking-facts}
use Rattle.step.proofs.Taken.{stops, goes, still-between, past-stays, long-stays}
use Rattle.step.proofs.Faults.{faultless}
use Rattle.step.specs.Took.{Took}
use Rattle.std.specs.Prelude.{Result, Ok, Err}

-- ---- only the rounds add to the facts
module _ (s ws : List ℕ) (b : Bool) (f : Live) (g : Gift) where
  pub adds_none : b ≡ true → f ≡ adds (analysis_in s ws) b f g
  unfolding adds
  adds_none e = ap (λ (c : Bool). adds (analysis_in s ws) c f g) (sym e)

  pub adds-all : b ≡ false → absorb (module_of s) f g ≡ adds (analysis_in s ws) b f g
  unfolding adds known_of
  adds-all e = ap (λ (c : Bool). adds (analysis_in s ws) c f g) (sym e)

pub nothing_written : (s ws : List ℕ) → FactsOnly s ws ws
nothing_written s ws = record { steady = steady-refl (module_of s) ws; front = λ j l. refl; rows = λ n i k h l o. refl; queue = λ j l. refl }

-- ---- the queue without the entry due
pub queued-popped : (s ws : List ℕ) (n : ℕ) (q : Queue) → Queued s ws n q → 0 < q.count → Queued s ws n (popped_of ws (words_of (module_of s)) q)
queued-popped s ws n q x l =
    record {
      ready = ready-pop ws base q x.ready l;
      entries = λ k o.
          let e : entry_at ws base (cap_of ws base) (popped_of ws base q).head k ≡ entry_at ws base (cap_of ws base) q.head (suc k) =
          sym (queue-at ws base (popped_of ws base q) k o)
          ∙ ap (λ (l : List ℕ). get_or l (suc k) 0) (sym (entries-pop ws base q x.ready l))
          ∙ queue-at ws base q (suc k) (omega arith) in
          omega (arith, e, x.entries (suc k) (omega arith));
    }
  where
    base : ℕ
    base = words_of (module_of s)

-- the entry due is an instruction
pub due-there : (s ws : List ℕ) (n : ℕ) (q : Queue) → Queued s ws n q → 0 < q.count → due_of ws (words_of (module_of s)) q < length (chunk_no (module_of s) n).code
due-there s ws n q x l =
    let base = words_of (module_of s) in
    omega (arith, x.entries 0 l, queue-at ws base q 0 l, ap (λ (l : List ℕ). get_or l 0 0) (entries-pop ws base q x.ready l))

-- ---- an entry without a state is dropped
module _ (s ws : List ℕ) (r : Run) (q : Queue) (i : ℕ) (between : Between s ws r) (queued : Queued s ws r.chunk q)
    (l : i < length (chunk_no (module_of s) r.chunk).code) (e : get_or ws (row_at (module_of s) r.chunk i) 0 ≡ 0) where
  none-there : get_or (states_in s ws r.chunk) i none ≡ none
  unfolding state_in state_by
  none-there =
      states-at s r.chunk ws i l
      ∙ ap (state_by ws (row_at (module_of s) r.chunk i) (chunk_no (module_of s) r.chunk).stack (chunk_no (module_of s) r.chunk).locals) e

  pub took-dropped : (x : Run) → x ≡ record { validating = r.validating; chunk = r.chunk; queue = q; steps = r.steps + 1; changed = r.changed } → Took s ws ws r q i (Ok x)
  unfolding Took taking_of visit visit_at seen_in work_in
  took-dropped x p = rw p (
    ap (visit_at join (room_in s ws) (λ (y : Live). y.known) (adds (analysis_in s ws) r.validating) (leaves (known_as s) r.validating (chunk_no (module_of s) r.chunk)) (live_in s ws r.changed) (states_in s ws r.chunk) (queue_of ws (words_of (module_of s)) q) i) none-there,
    record {
      prepared = between.prepared;
      chunk = between.chunk;
      reachable = between.reachable;
      queued = queued;
      low = between.low;
      before = between.before;
    },
    refl,
    refl,
    refl,
    refl,
    refl,
  )

-- ---- a visit
module _ (s ws : List ℕ) (r : Run) (v : RowVisit) (q : Queue) (between : Between s ws r) (look : Looking s ws v) (same : v.chunk ≡ r.chunk) where
  pub signed : v.chunk < (module_of s).signatures
  unfolding chunk_no
  signed =
      omega (arith, (chunk-admitted (module_of s) (module_of s).chunks v.chunk between.prepared.admitted look.chunk (rw same between.reachable)).signed, (look.indexed.good.each_chunk v.chunk look.chunk).number)

  stop-by : (u : List ℕ) (n : ℕ) → taking_of s ws r q v.at ≡ bad n → (f : Refusal) → f ≡ refusal n r.chunk v.at (r.steps + 1) → Took s ws u r q v.at (Err f)
  unfolding Took
  stop-by u n t f g =
      let number : n ≡ f.number = ap (λ (x : Refusal). x.number) (sym g) in
      (t ∙ ap bad number, g ∙ ap (λ (k : ℕ). refusal k r.chunk v.at (r.steps + 1)) number)

  pub took-faulty : (u : List ℕ) (n : ℕ) → n ≡ fault_of r.validating (visit_in s ws v) → (n ≡ 0 → ⊥)
      → (f : Refusal) → f ≡ refusal n r.chunk v.at (r.steps + 1) → Took s ws u r q v.at (Err f)
  took-faulty u n e d = stop-by u n (taking-faulty s ws r v q look same between.prepared.known n (sym e) d)

  module _ (ch : Chunk) (e : ch ≡ chunk_at s ws v.chunk) (l : Leaving) (alike : Alike ws ch v (visit_in s ws v) l)
      (fine : fault_of r.validating (visit_in s ws v) ≡ 0) where
    high : l.height ≡ length (after (visit_in s ws v)).stack
    high = alike.height ∙ sym (after-high (visit_in s ws v))

    stack : (visit_in s ws v).chunk.stack ≡ ch.stack
    unfolding visit_in visit_of
    stack = sym (stack_is s ws v.chunk ch e)

    pub leaves-low : LeavesInRow ch v l
    leaves-low =
        record {
          height = omega (arith, high, stack, low-enough (visit_in s ws v) (faultless r.validating (visit_in s ws v) fine).1);
          above = λ p.
              let z : l.height ≡ length (visit_in s ws v).below + (instr (visit_in s ws v)).given =
              alike.height ∙ ap (λ (b : Bool). cond b (instr (visit_in s ws v)).given (length (visit_in s ws v).below + (instr (visit_in s ws v)).given)) (sym alike.resets ∙ p) in
              omega (arith, z, below-long s ws v look);
        }

    module _ (w : List ℕ) (f : FactsOnly s ws w) where
      pub ready-to-go : (t : Tables) → t ≡ tables_of s → Queued s ws v.chunk q → PassReady s w t ch v l q
      ready-to-go t p x =
          record {
            looking = looking-facts s ws w v look f;
            tables = p;
            chunk = e ∙ sym (chunk-steady s ws w v.chunk f.steady look.chunk);
            low = facts-low s ws w f v.chunk look.chunk (rw same between.low);
            queued = queued-kept s ws w v.chunk q f.steady.kept.long f.queue x;
            leaves = leaves-low;
          }

      pub took-stopped : (u : List ℕ) (n : ℕ) → Passed s w u v q (ways_in w ch v l) (Err n)
          → (x : Refusal) → x ≡ refusal n r.chunk v.at (r.steps + 1) → Took s ws u r q v.at (Err x)
      unfolding Passed
      took-stopped u n p = stop-by u n (stops s ws w u r v q ch l between look same e alike fine f n p)

      pub took-on : (u : List ℕ) (p : Queue) (changed : Bool)
          → live_in s w changed ≡ adds (analysis_in s ws) r.validating (live_in s ws r.changed) (gives (visit_in s ws v))
          → Passed s w u v q (ways_in w ch v l) (Ok p)
          → Took s ws u r q v.at (Ok (record { validating = r.validating; chunk = r.chunk; queue = p; steps = r.steps + 1; changed = changed }))
      unfolding Passed Took
      took-on u p changed live (put, only, low, queued) = (
        goes s ws w u r v q ch l between look same e alike fine f p changed live put only low queued (r.steps + 1),
        still-between s ws w u r v q ch l between look same e alike fine f p changed live put only low queued (r.steps + 1),
        refl,
        refl,
        refl,
        past-stays s ws w u r v q ch l between look same e alike fine f p changed live put only low queued,
        long-stays s ws w u r v q ch l between look same e alike fine f p changed live put only low queued,
      )

-- ---- the entry that is due, found in the words
base-is : (s : List ℕ) (t : Tables) → t ≡ tables_of s → t.queue_at ≡ words_of (module_of s)
unfolding tables_of
base-is s t e = ap (λ (x : Tables). x.queue_at) e

pub took-at : (s ws u : List ℕ) (r : Run) (x : Result Run Refusal) (q p : Queue) (i j : ℕ) → q ≡ p → i ≡ j → Took s ws u r q i x → Took s ws u r p j x
took-at s ws u r x q p i j a b t = rw b at (rw a at t)

module _ (s ws : List ℕ) (r : Run) (t : Tables) (between : Between s ws r) (some : 0 < r.queue.count) (e : t ≡ tables_of s) where
  pub ready_at : QueueReady ws t.queue_at r.queue
  ready_at = rw (base-is s t e) between.queued.ready

  pub due-is : (i : ℕ) → i ≡ due_of ws t.queue_at r.queue → i ≡ due_of ws (words_of (module_of s)) r.queue
  due-is i h = h ∙ ap (λ (b : ℕ). due_of ws b r.queue) (base-is s t e)

  pub popped-is : (q : Queue) → q ≡ popped_of ws t.queue_at r.queue → q ≡ popped_of ws (words_of (module_of s)) r.queue
  popped-is q h = h ∙ ap (λ (b : ℕ). popped_of ws b r.queue) (base-is s t e)

  pub popped-queued : (q : Queue) → q ≡ popped_of ws t.queue_at r.queue → Queued s ws r.chunk q
  popped-queued q h = rw (popped-is q h) (queued-popped s ws r.chunk r.queue between.queued some)

  module _ (ch : Chunk) (c : ch ≡ chunk_at s ws r.chunk) (i : ℕ) (d : i ≡ due_of ws t.queue_at r.queue) where
    pub due-row : Row s ws r.chunk ch i
    due-row =
        row-known s ws r.chunk ch i between.prepared.indexed between.chunk c
        (omega (arith, due-is i d, due-there s ws r.chunk r.queue between.queued some, count-is s ws r.chunk ch c))

    pub visit-ready : (get_or ws (row_at (module_of s) r.chunk i) 0 ≡ 0 → ⊥)
        → Indexed s ws × ((r.chunk < length (module_of s).chunks) × ((ch ≡ chunk_at s ws r.chunk) × ((i < ch.count)
        × ((0 < get_or ws (row_at (module_of s) r.chunk i) 0) × (get_or ws (row_at (module_of s) r.chunk i) 0 ≤ ch.stack + 1)))))
    unfolding Low
    visit-ready h = (
      between.prepared.indexed,
      (
        between.chunk,
        (
          c,
          (
            omega (arith, due-row.there, count-is s ws r.chunk ch c),
            (
              ne-pos (get_or ws (row_at (module_of s) r.chunk i) 0) h,
              omega (arith, between.low i due-row.there, stack_is s ws r.chunk ch c),
            ),
          ),
        ),
      ),
    )
