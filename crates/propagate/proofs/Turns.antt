-- One way, whether it is cut or not; and two, of which the first leaves the row that both leave as it was.
use Prim.Native.Nat.{ℕ, ◌+◌, ◌*◌, ◌<◌, ◌≤◌}
use native.Mathlib.Omega.{arith}
use mathlib.Core.Path.{◌≡◌, refl, sym, ap, ◌∙◌}
use mathlib.Core.Logic.{◌⊎◌, inl, inr}
use mathlib.Core.Bool.{Bool, true, false, ◌||◌}
use mathlib.Core.Option.{Option, none, some}
use mathlib.Core.List.{List, [], ◌∷◌}
use borrow.Author.Tests.{le-ltb, leb-true, leb-false}
use lib.Dec.{leb}
use lib.ListN.{length}
use Rattle.cells.specs.declared.Cell.{Cell}
use Rattle.ops.specs.declared.Exit.{Exit}
use Rattle.ring.specs.declared.Queue.{Queue}
use Rattle.ring.specs.Ring.{QueueReady}
use Rattle.definition.specs.Res.{ok, bind}
use Rattle.definition.specs.Machine.{put_in, put, puts}
use Rattle.definition.specs.Module.{module_of}
use Rattle.definition.specs.State.{State, join}
use Rattle.definition.specs.Ways.{narrowing, on_way}
use Rattle.form_laws.specs.Good.{ChunkGood, chunk_no, row_cells}
use Rattle.layout.specs.declared.Chunk.{Chunk}
use Rattle.layout.specs.declared.Tables.{Tables}
use Rattle.layout.specs.Layout.{row_at}
use Rattle.layout.specs.Indexed.{tables_of}
use Rattle.layout.proofs.Read.{Row, row-known, count-is, stack_is, locals-is}
use Rattle.layout.proofs.Apart.{by_order, row_apart}
use Rattle.row_join.specs.places.Arrive.{no_local}
use Rattle.row_join.specs.declared.joining.Leaving.{Leaving}
use Rattle.row_join.specs.joining.Leave.{JoinReady, row_words}
use Rattle.visit.specs.declared.RowVisit.{RowVisit}
use Rattle.visit.proofs.Visits.{row-there}
use Rattle.run_state.specs.Course.{states_in, room_in, work_in}
use Rattle.run_state.proofs.Rows.{states-length, rows-only-refl}
use Rattle.ways.specs.Ways.{receiver}
use Rattle.masks.proofs.Both.{neither}
use Rattle.propagate.specs.Passing.{leaves_with, along_in, condition, exit_in, passes, Passed, narrowed_in}
use Rattle.propagate.specs.Steps.{cut_in, local_on, way_at, Open, PassReady, Beside}
use Rattle.propagate.proofs.Cuts.{cut-passes, on-passes, on-local}
use Rattle.std.specs.Prelude.{Option as Found, Result, Ok}

module _ (s ws : List ℕ) (t : Tables) (ch : Chunk) (v : RowVisit) (l : Leaving) (q : Queue) (x : PassReady s ws t ch v l q) where
  size-eq : row_words ch ≡ 16 * row_cells (chunk_no (module_of s) v.chunk)
  size-eq = omega (arith, stack_is s ws v.chunk ch x.chunk, locals-is s ws v.chunk ch x.chunk)

  pub row_fits : v.row + row_words ch ≤ length ws
  row_fits = omega (arith, row-there s ws v x.looking, size-eq)

  queue-ready : QueueReady ws t.queue_at q
  unfolding tables_of
  queue-ready = let e = ap (λ (y : Tables). y.queue_at) x.tables in rw e x.queued.ready

  -- nothing passes
  pub still : Passed s ws ws v q [] (Ok q)
  unfolding Passed puts
  still = (refl, rows-only-refl s v.chunk ws, x.low, x.queued)

  module _ (to : ℕ) where
    past : ch.count ≤ to → (y : Option State) → Passed s ws ws v q (on_way to y []) (Ok q)
    unfolding Passed puts put put_in on_way work_in
    past h none = still
    past h (some y) = (
      ap (λ (b : Bool). bind (put_in join (room_in s ws) (work_in s ws v.chunk q) to y b) (λ w. ok w))
          (le-ltb to (length (states_in s ws v.chunk)) (omega (arith, states-length s v.chunk ws, count-is s ws v.chunk ch x.chunk))),
      rows-only-refl s v.chunk ws,
      x.low,
      x.queued,
    )

    past-passes : ch.count ≤ to → Passed s ws ws v q (passes ws ch v l to) (Ok q)
    unfolding passes
    past-passes h = past h (along_in ws ch v l (narrowed_in ws v to))

    open-pass : (narrow : ℕ) → to < ch.count → (narrow ≡ no_local) ⊎ (narrow < ch.locals) → Open ws t ch v l q to narrow
    open-pass narrow h k = record { leave = leave; queue = queue-ready; small = omega (arith, known.there, good.code) }
      where
        known : Row s ws v.chunk ch to
        known = row-known s ws v.chunk ch to x.looking.indexed x.looking.chunk x.chunk h

        good : ChunkGood (module_of s) v.chunk (chunk_no (module_of s) v.chunk)
        good = x.looking.indexed.good.each_chunk v.chunk x.looking.chunk

        apart : (v.row ≡ ch.rows + to * ch.size)
            ⊎ ((v.row + row_words ch ≤ ch.rows + to * ch.size) ⊎ (ch.rows + to * ch.size + row_words ch ≤ v.row))
        apart =
            by_order v.at to
            (λ o. inr (inl (omega (arith, size-eq, known.at, x.looking.row, row_apart (module_of s) v.chunk v.at to o))))
            (λ o. inl (x.looking.row ∙ ap (row_at (module_of s) v.chunk) o ∙ sym known.at))
            (λ o. inr (inr (omega (arith, size-eq, known.at, x.looking.row, row_apart (module_of s) v.chunk to v.at o))))

        leave : JoinReady ws ch (way_at v (ch.rows + to * ch.size) narrow) l
        leave =
            record {
              from = row_fits;
              to = omega (arith, size-eq, known.at, known.room);
              apart = apart;
              height = x.leaves.height;
              above = x.leaves.above;
              stack = omega (arith, stack_is s ws v.chunk ch x.chunk, good.stack);
              narrow = k;
            }

    module _ (n : Found ℕ) (y : Cell) (ye : y ≡ condition ws v) (exit : Exit) (ee : exit ≡ exit_in v) (e : receiver n ≡ narrowing exit y.flow.predicate v.ins.a to) (b : Bool) (be : b ≡ cut_in ws ch v n) where
      by : receiver n ≡ narrowed_in ws v to
      by = e ∙ (λ i. narrowing (ee i) (ye i).flow.predicate v.ins.a to)

      pub none_pass : (b || leb ch.count to) ≡ true → Passed s ws ws v q (passes ws ch v l to) (Ok q) × Beside s v to ws ws
      unfolding Beside
      none_pass f = (go b refl, λ j a c. refl)
        where
          go : (k : Bool) → b ≡ k → Passed s ws ws v q (passes ws ch v l to) (Ok q)
          go true g = rw (cut-passes ws ch v l to n by (sym be ∙ g)) still
          go false g = past-passes (leb-true ch.count to (rw g at f))

      module _ (f : (b || leb ch.count to) ≡ false) where
        uncut : cut_in ws ch v n ≡ false
        uncut = sym be ∙ (neither b (leb ch.count to) f).0

        inside : to < ch.count
        inside = leb-false ch.count to (neither b (leb ch.count to) f).1

        module _ (k : ℕ) (ke : k ≡ local_on n) where
          pub open-on : Open ws t ch v l q to k
          open-on = rw ke (open-pass (local_on n) inside (on-local ws ch v n uncut))

          pub one-pass : (u : List ℕ) (r : Result Queue ℕ)
              → ((s : List ℕ) → PassReady s ws t ch v l q → to < ch.count
              → Passed s ws u v q ((to, leaves_with ws ch v l k) ∷ []) r × Beside s v to ws u)
              → Passed s ws u v q (passes ws ch v l to) r × Beside s v to ws u
          one-pass u r g = rw (on-passes ws ch v l to n by uncut, ← ke) (g s x inside)
