-- One way that is not cut, to an instruction that is there: the row of the target and its entry become what the definition puts.
use Prim.Native.Nat.{ℕ, zero, suc, ◌+◌, ◌*◌, ◌-◌, ◌/◌, ◌<◌, ◌≤◌}
use native.Mathlib.Omega.{arith}
use mathlib.Core.Path.{◌≡◌, refl, sym, ap, ◌∙◌}
use mathlib.Core.Logic.{◌⊎◌, inl, inr}
use mathlib.Core.Bool.{Bool, true, false}
use mathlib.Core.Option.{Option, none, some}
use mathlib.Core.List.{List, [], ◌∷◌, ◌++◌}
use borrow.Author.Tests.{lt-ltb, le-ltb}
use lib.Dec.{ltb}
use lib.ListN.{length, get_or, set}
use lib.Seq.{set-get_or}
use Rattle.words.specs.Rows.{Outside}
use Rattle.ring.specs.declared.Queue.{Queue}
use Rattle.ring.specs.Ring.{queue_of, pushed, grown}
use Rattle.ring.proofs.Ring.{entries-push, push-below}
use Rattle.definition.specs.Res.{Res, ok, bind}
use Rattle.definition.specs.Machine.{Work, push, put_at, put_in, put, puts}
use Rattle.definition.specs.Module.{Module, module_of}
use Rattle.definition.specs.State.{State, join}
use Rattle.form_laws.specs.Good.{chunk_no, row_cells, words_of}
use Rattle.layout.specs.declared.Chunk.{Chunk}
use Rattle.layout.specs.declared.Tables.{Tables}
use Rattle.layout.specs.Layout.{numbers_at, slot_at, row_at}
use Rattle.layout.specs.Indexed.{tables_of}
use Rattle.layout.proofs.Read.{Row, row-known, stack_is, locals-is}
use Rattle.layout.proofs.Apart.{by_order, rows-begin, row_apart, row_other, row_in}
use Rattle.layout.specs.Kept.{Steady}
use Rattle.layout.proofs.Kept.{Free, row-free}
use Rattle.row_join.specs.declared.joining.Leaving.{Leaving}
use Rattle.row_join.specs.declared.joining.Way.{Way}
use Rattle.row_join.specs.declared.joining.Met.{Met}
use Rattle.row_join.specs.declared.joining.Met.TheVariants.{Same, Changed, Unequal}
use Rattle.row_join.specs.joining.Leave.{JoinReady, leaves_as, state_in, met_state, met_how, met_word, row_words}
use Rattle.row_join.proofs.joining.Joined.{met_put, put-met, same-stays, state-wide, leaves-wide}
use Rattle.visit.specs.declared.RowVisit.{RowVisit}
use Rattle.run_state.specs.Course.{states_in, room_in, work_in, Low, Queued, RowsOnly, state_at}
use Rattle.run_state.proofs.Rows.{SameRow, states-length, states-at, states-set, low-set, rows-only-trans}
use Rattle.run_state.proofs.Queues.{queue-length, queue-kept, queued-kept, push-rows-only, push-states, push-low, queued-push}
use Rattle.propagate.specs.Passing.{leaves_with, Passed}
use Rattle.propagate.specs.Steps.{Enqueued, way_at, Open, PassReady, Beside}
use Rattle.std.specs.Prelude.{Result, Ok, Err}

-- ---- a write to a row that keeps its second word keeps the index
steady-around : (m : Module) (at len : ℕ) (ws v : List ℕ) → Free m at 1 → Free m (at + 2) len → length v ≡ length ws
    → get_or v (at + 1) 0 ≡ get_or ws (at + 1) 0 → ((j : ℕ) → (j < at) ⊎ (at + 2 + len ≤ j) → get_or v j 0 ≡ get_or ws j 0) → Steady m ws v
steady-around m at len ws v f g e second same =
    record {
      kept =
          record {
            long = e;
            numbers = λ n k h l d. word (numbers_at n + k) (f.numbers n k h l) (g.numbers n k h l);
            fields = λ n i h l. word (row_at m n i + 1) (f.fields n i h l) (g.fields n i h l);
            marks = λ n h. ap (λ (w : ℕ). w / 65536) (word (slot_at m n + 15) (f.marks n h) (g.marks n h));
          };
      suspends = λ n h. word (numbers_at n + 6) (f.numbers n 6 h (omega arith)) (g.numbers n 6 h (omega arith));
    }
  where
    past : (j : ℕ) → at + 1 < j → (at + 2 ≤ j → j < at + 2 + len → ⊥) → get_or v j 0 ≡ get_or ws j 0
    past j l b =
        by_order j (at + 2 + len)
        (λ o. absurd (b (omega arith) o))
        (λ o. same j (inr (omega arith)))
        (λ o. same j (inr (omega arith)))

    word : (j : ℕ) → (at ≤ j → j < at + 1 → ⊥) → (at + 2 ≤ j → j < at + 2 + len → ⊥) → get_or v j 0 ≡ get_or ws j 0
    word j a b =
        by_order j (at + 1)
        (λ l. by_order j at (λ o. same j (inl o)) (λ o. absurd (a (omega arith) l)) (λ o. absurd (omega arith)))
        (λ q. rw q second)
        (λ l. past j l b)

met-low : (w height stack : ℕ) → w ≤ stack + 1 → height ≤ stack → met_word w height ≤ stack + 1
unfolding met_word
met-low zero height stack a b = omega arith
met-low (suc w) height stack a b = a

pub open-leave : (ws : List ℕ) (t : Tables) (ch : Chunk) (v : RowVisit) (l : Leaving) (q : Queue) (to narrow : ℕ) → Open ws t ch v l q to narrow
    → (p : ℕ) → p ≡ ch.rows + to * ch.size → JoinReady ws ch (way_at v p narrow) l
open-leave ws t ch v l q to narrow o p e = rw e o.leave

-- what `leave` says
abbrev pub LeaveSays : List ℕ → List ℕ → Chunk → Way → Leaving → Met → Type 0
LeaveSays ws u ch w l r =
    (state_in u w.to ch.stack ch.locals ≡ met_state (state_in ws w.to ch.stack ch.locals) (leaves_as ws ch w l))
    × (r ≡ met_how (state_in ws w.to ch.stack ch.locals) (leaves_as ws ch w l))
    × Outside w.to (w.to + row_words ch) ws u
    × (get_or u (w.to + 1) 0 ≡ get_or ws (w.to + 1) 0)
    × (get_or u w.to 0 ≡ met_word (get_or ws w.to 0) l.height)

low-at : (s ws : List ℕ) (n i : ℕ) → Low s ws n → i < length (chunk_no (module_of s) n).code
    → get_or ws (row_at (module_of s) n i) 0 ≤ (chunk_no (module_of s) n).stack + 1
unfolding Low
low-at s ws n i low l = low i l

module _ (s ws : List ℕ) (t : Tables) (ch : Chunk) (v : RowVisit) (l : Leaving) (q : Queue) (x : PassReady s ws t ch v l q) (to : ℕ) (h : to < ch.count) where
  known : Row s ws v.chunk ch to
  known = row-known s ws v.chunk ch to x.looking.indexed x.looking.chunk x.chunk h

  stack-eq : ch.stack ≡ (chunk_no (module_of s) v.chunk).stack
  stack-eq = stack_is s ws v.chunk ch x.chunk

  locals-eq : ch.locals ≡ (chunk_no (module_of s) v.chunk).locals
  locals-eq = locals-is s ws v.chunk ch x.chunk

  module _ (p : ℕ) (pe : p ≡ ch.rows + to * ch.size) (narrow : ℕ) (u : List ℕ) (r : Met) (o : LeaveSays ws u ch (way_at v p narrow) l r) where
    at-eq : p ≡ row_at (module_of s) v.chunk to
    at-eq = pe ∙ known.at

    long : length u ≡ length ws
    long = o.2.length

    -- ---- the frame
    out : (j : ℕ) → (j < row_at (module_of s) v.chunk to) ⊎ (row_at (module_of s) v.chunk to + 16 * row_cells (chunk_no (module_of s) v.chunk) ≤ j)
        → get_or u j 0 ≡ get_or ws j 0
    out j (inl a) = o.2.word j (inl (omega (arith, at-eq)))
    out j (inr a) = o.2.word j (inr (omega (arith, at-eq, stack-eq, locals-eq)))

    beside : Beside s v to ws u
    unfolding Beside
    beside j a b = out j b

    second : get_or u (row_at (module_of s) v.chunk to + 1) 0 ≡ get_or ws (row_at (module_of s) v.chunk to + 1) 0
    second = rw at-eq at o.3

    steady : Steady (module_of s) ws u
    steady =
        steady-around (module_of s) (row_at (module_of s) v.chunk to) (16 * row_cells (chunk_no (module_of s) v.chunk) - 2) ws u
        (row-free (module_of s) v.chunk to _ 1 x.looking.chunk known.there (omega arith) (omega arith) (inl (omega arith)))
        (row-free (module_of s) v.chunk to _ _ x.looking.chunk known.there (omega arith) (omega arith) (inr (omega arith)))
        long second around
      where
        around : (j : ℕ) → (j < row_at (module_of s) v.chunk to) ⊎ (row_at (module_of s) v.chunk to + 2 + (16 * row_cells (chunk_no (module_of s) v.chunk) - 2) ≤ j)
            → get_or u j 0 ≡ get_or ws j 0
        around j (inl a) = out j (inl a)
        around j (inr a) = out j (inr (omega arith))

    rows-only : RowsOnly s v.chunk ws u
    rows-only =
        record {
          steady = steady;
          under = λ j a. out j (inl (omega (arith, rows-begin (module_of s) v.chunk to)));
          above = λ j a b. out j (inr (omega (arith, row_apart (module_of s) v.chunk to (length (chunk_no (module_of s) v.chunk).code) known.there)));
        }

    same_rows : (i : ℕ) → i < length (chunk_no (module_of s) v.chunk).code → (i ≡ to → ⊥) → SameRow s v.chunk ws u i
    same_rows i k d j a b = go (row_other (module_of s) v.chunk i to d)
      where
        go : (row_at (module_of s) v.chunk i + 16 * row_cells (chunk_no (module_of s) v.chunk) ≤ row_at (module_of s) v.chunk to)
            ⊎ (row_at (module_of s) v.chunk to + 16 * row_cells (chunk_no (module_of s) v.chunk) ≤ row_at (module_of s) v.chunk i)
            → get_or u j 0 ≡ get_or ws j 0
        go (inl e) = out j (inl (omega arith))
        go (inr e) = out j (inr (omega arith))

    low : Low s u v.chunk
    low =
        low-set s v.chunk ws u x.low to same_rows
        (rw (← at-eq, o.4)
        (met-low (get_or ws p 0) l.height (chunk_no (module_of s) v.chunk).stack (rw at-eq height) (omega (arith, x.leaves.height, stack-eq))))
      where
        height : get_or ws (row_at (module_of s) v.chunk to) 0 ≤ (chunk_no (module_of s) v.chunk).stack + 1
        height = low-at s ws v.chunk to x.low known.there

    behind : (j : ℕ) → words_of (module_of s) ≤ j → get_or u j 0 ≡ get_or ws j 0
    behind j a = out j (inr (omega (arith, row_in (module_of s) v.chunk to x.looking.chunk known.there)))

    queue-same : queue_of u (words_of (module_of s)) q ≡ queue_of ws (words_of (module_of s)) q
    queue-same = queue-kept ws u (words_of (module_of s)) long behind q

    queued : Queued s u v.chunk q
    queued = queued-kept s ws u v.chunk q long behind x.queued

    -- ---- the state of the target
    leaves-eq : leaves_as ws ch (way_at v p narrow) l ≡ leaves_with ws ch v l narrow
    unfolding leaves_as leaves_with
    leaves-eq = refl

    met : state_at s v.chunk u to ≡ met_state (state_at s v.chunk ws to) (leaves_with ws ch v l narrow)
    met =
        sym (λ i. state_in u (at-eq i) (stack-eq i) (locals-eq i))
        ∙ o.0
        ∙ (λ i. met_state (state_in ws (at-eq i) (stack-eq i) (locals-eq i)) (leaves-eq i))

    how : r ≡ met_how (state_at s v.chunk ws to) (leaves_with ws ch v l narrow)
    how = o.1 ∙ (λ i. met_how (state_in ws (at-eq i) (stack-eq i) (locals-eq i)) (leaves-eq i))

    states : states_in s u v.chunk ≡ set (states_in s ws v.chunk) to (state_at s v.chunk u to)
    states = states-set s v.chunk ws u x.low to known.there same_rows

    wide : (old : State) → state_at s v.chunk ws to ≡ some old → length old.locals ≡ length (leaves_with ws ch v l narrow).locals
    wide old e =
        state-wide ws (row_at (module_of s) v.chunk to) (chunk_no (module_of s) v.chunk).stack (chunk_no (module_of s) v.chunk).locals old e
        ∙ sym locals-eq
        ∙ sym (leaves-wide ws ch (way_at v p narrow) l)
        ∙ ap (λ (y : State). length y.locals) leaves-eq

    -- ---- what the definition puts
    put_as : (k : Met) → r ≡ k → puts join (room_in s ws) (work_in s ws v.chunk q) ((to, leaves_with ws ch v l narrow) ∷ [])
        ≡ bind (met_put (room_in s ws) (work_in s ws v.chunk q) to (state_at s v.chunk u to) k) (λ w. ok w)
    unfolding puts put put_in work_in
    put_as k e =
        ap (λ (b : Bool). bind (put_in join (room_in s ws) (work_in s ws v.chunk q) to (leaves_with ws ch v l narrow) b) (λ w. ok w))
        (lt-ltb to _ (omega (arith, states-length s v.chunk ws, known.there)))
        ∙ ap (λ (y : Option State). bind (put_at join (room_in s ws) (work_in s ws v.chunk q) to (leaves_with ws ch v l narrow) y) (λ w. ok w))
        (states-at s v.chunk ws to known.there)
        ∙ ap (λ (y : Res (Work State)). bind y (λ w. ok w))
        (put-met (room_in s ws) (work_in s ws v.chunk q) to (leaves_with ws ch v l narrow) (state_at s v.chunk ws to) wide
        ∙ (λ i. met_put (room_in s ws) (work_in s ws v.chunk q) to (sym met i) ((sym how ∙ e) i)))

    pub same-put : r ≡ Same → Passed s ws u v q ((to, leaves_with ws ch v l narrow) ∷ []) (Ok q) × Beside s v to ws u
    unfolding Passed met_put work_in
    same-put e = ((puts-same, rows-only, low, queued), beside)
      where
        stays : state_at s v.chunk u to ≡ get_or (states_in s ws v.chunk) to none
        stays =
            met
            ∙ same-stays (state_at s v.chunk ws to) (leaves_with ws ch v l narrow) (sym how ∙ e)
            ∙ sym (states-at s v.chunk ws to known.there)

        states-same : states_in s u v.chunk ≡ states_in s ws v.chunk
        states-same = states ∙ ap (set (states_in s ws v.chunk) to) stays ∙ set-get_or (states_in s ws v.chunk) to none

        puts-same : puts join (room_in s ws) (work_in s ws v.chunk q) ((to, leaves_with ws ch v l narrow) ∷ []) ≡ ok (work_in s u v.chunk q)
        puts-same =
            put_as Same e
            ∙ (λ i. ok (record { states = sym states-same i; queue = sym queue-same i }))

    pub unequal-put : r ≡ Unequal → Passed s ws u v q ((to, leaves_with ws ch v l narrow) ∷ []) (Err 18) × Beside s v to ws u
    unfolding Passed met_put
    unequal-put e = (put_as Unequal e, beside)

    changed-put : r ≡ Changed → (b : Bool) → ltb q.count (room_in s ws) ≡ b
        → puts join (room_in s ws) (work_in s ws v.chunk q) ((to, leaves_with ws ch v l narrow) ∷ [])
        ≡ bind (push (set (states_in s ws v.chunk) to (state_at s v.chunk u to)) (queue_of ws (words_of (module_of s)) q) to b) (λ w. ok w)
    unfolding met_put work_in
    changed-put e b f =
        put_as Changed e
        ∙ ap (λ (k : Bool). bind (push (set (states_in s ws v.chunk) to (state_at s v.chunk u to)) (queue_of ws (words_of (module_of s)) q) to k) (λ w. ok w))
        (ap (λ (k : ℕ). ltb k (room_in s ws)) (queue-length ws (words_of (module_of s)) q) ∙ f)

    queue-put : r ≡ Changed → q.count < length u - words_of (module_of s)
        → Passed s ws (pushed u (words_of (module_of s)) q to) v q ((to, leaves_with ws ch v l narrow) ∷ []) (Ok (grown q))
    unfolding Passed push work_in
    queue-put e f = (
      changed-put e true (lt-ltb q.count (room_in s ws) (omega (arith, long)))
          ∙ (λ i. ok (record { states = sym put-states i; queue = sym put-queue i })),
      rows-only-trans s v.chunk ws u (pushed u (words_of (module_of s)) q to) rows-only (push-rows-only s u v.chunk q to x.looking.chunk),
      push-low s u v.chunk q to x.looking.chunk low,
      queued-push s u v.chunk q to queued f known.there,
    )
      where
        put-states : states_in s (pushed u (words_of (module_of s)) q to) v.chunk ≡ set (states_in s ws v.chunk) to (state_at s v.chunk u to)
        put-states = push-states s u v.chunk q to x.looking.chunk low ∙ states

        put-queue : queue_of (pushed u (words_of (module_of s)) q to) (words_of (module_of s)) (grown q) ≡ queue_of ws (words_of (module_of s)) q ++ (to ∷ [])
        put-queue = entries-push u (words_of (module_of s)) q to queued.ready f ∙ ap (λ (k : List ℕ). k ++ (to ∷ [])) queue-same

    full_put : r ≡ Changed → length u - words_of (module_of s) ≤ q.count → Passed s ws u v q ((to, leaves_with ws ch v l narrow) ∷ []) (Err 8)
    unfolding Passed push
    full_put e f = changed-put e false (le-ltb q.count (room_in s ws) (omega (arith, long)))

    queue-at-eq : t.queue_at ≡ words_of (module_of s)
    unfolding tables_of
    queue-at-eq = ap (λ (y : Tables). y.queue_at) x.tables

    -- after its entry is put, or finds no room
    pub entry-put : r ≡ Changed → (w : List ℕ) (z : Result Queue ℕ) → Enqueued u w t.queue_at q to z
        → Passed s ws w v q ((to, leaves_with ws ch v l narrow) ∷ []) z × Beside s v to ws w
    unfolding Enqueued Beside
    entry-put e w (Ok y) (f, g, k) =
        let a : w ≡ pushed u (words_of (module_of s)) q to = g ∙ ap (λ (b : ℕ). pushed u b q to) queue-at-eq in
        rw (a, k) (
          queue-put e (omega (arith, queue-at-eq)),
          λ j b d. push-below u (words_of (module_of s)) q to j b ∙ beside j b d,
        )
    entry-put e w (Err n) (f, g, k) = rw (g, k) (full_put e (omega (arith, queue-at-eq)), beside)
