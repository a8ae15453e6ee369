-- All ways of a visit. Where there are two, the first leads to the next instruction: it leaves the row of the visit as it was, so that what
-- passes along the second is what would have passed before.
use Prim.Native.Nat.{ℕ, suc, ◌+◌, ◌*◌, ◌-◌, ◌<◌}
use native.Mathlib.Omega.{arith}
use mathlib.Core.Path.{◌≡◌, refl, sym, ap, ◌∙◌}
use mathlib.Core.Logic.{inl}
use mathlib.Core.Bool.{Bool, true, false, cond}
use mathlib.Core.Option.{Option, none, some}
use mathlib.Core.List.{List, [], ◌∷◌}
use lib.ListN.{get_or}
use Rattle.masks.specs.declared.Mask.{Mask}
use Rattle.masks.specs.Mask.{has, same}
use Rattle.masks.specs.Names.{ENUM, FALSE, TRUE}
use Rattle.cells.specs.declared.Cell.{Cell}
use Rattle.words.specs.Layout.{cell_at}
use Rattle.words.specs.Rows.{cells_at}
use Rattle.words.proofs.Laws.{cell_at-same}
use Rattle.ops.specs.declared.Exit.{Exit}
use Rattle.ops.specs.declared.Exit.TheVariants.{Next, Stops, Jumps, Ifs, Breaks, Restarts}
use Rattle.ring.specs.declared.Queue.{Queue}
use Rattle.definition.specs.Res.{Res, ok, bad, bind}
use Rattle.definition.specs.Machine.{Work, put, puts}
use Rattle.definition.specs.Module.{module_of}
use Rattle.definition.specs.State.{State, join}
use Rattle.definition.specs.Outputs.{no_cell}
use Rattle.definition.specs.Ways.{branch, ways_of, narrowing, on_way}
use Rattle.form_laws.specs.Good.{chunk_no, row_cells, words_of}
use Rattle.layout.specs.declared.Chunk.{Chunk}
use Rattle.layout.specs.declared.Tables.{Tables}
use Rattle.layout.specs.Layout.{row_at, locals_at, place_at, stack_at}
use Rattle.layout.proofs.Read.{stack_is, locals-is}
use Rattle.layout.proofs.Apart.{areas-behind, result-begins, result-next, row_apart, row_in}
use Rattle.layout.proofs.Kept.{indexed-steady, chunk-steady}
use Rattle.row_join.specs.declared.joining.Leaving.{Leaving}
use Rattle.row_join.specs.joining.Leave.{leaves_kept, leaves_reset, leaves_as}
use Rattle.visit.specs.declared.RowVisit.{RowVisit}
use Rattle.visit.specs.Held.{Looking, args_in}
use Rattle.run_state.specs.Course.{room_in, work_in, RowsOnly}
use Rattle.run_state.proofs.Rows.{SameWords, cells-kept, rows-only-trans}
use Rattle.ways.specs.declared.Ways.{Ways}
use Rattle.ways.specs.declared.Ways.TheVariants.{Zero, One, Two}
use Rattle.ways.specs.Ways.{targets}
use Rattle.propagate.specs.Passing.{locals_of, leaves_with, along_in, condition, exit_in, passes, passes_all, ways_in, Passed, narrowed_in}
use Rattle.propagate.specs.Steps.{PassReady, Beside}
use Rattle.propagate.proofs.Turns.{still}
use Rattle.std.specs.Prelude.{Result, Ok, Err}

-- ---- of two ways, the first leads on
branch-first : (p q : Bool) (n t a b : ℕ) → cond p (t ∷ []) (cond q (n ∷ []) (n ∷ t ∷ [])) ≡ a ∷ b ∷ [] → a ≡ n
branch-first true q n t a b e = cc
branch-first false true n t a b e = cc
branch-first false false n t a b e = cc

first_on : (x : Exit) (i target : ℕ) (m : Mask) (a b : ℕ) → ways_of x i target m ≡ a ∷ b ∷ [] → a ≡ suc i
unfolding ways_of branch
first_on Next i target m a b e = cc
first_on Stops i target m a b e = cc
first_on Jumps i target m a b e = cc
first_on Ifs i target m a b e = branch-first (same m FALSE) (same m TRUE) (suc i) target a b e
first_on Breaks i target m a b e = branch-first (same m TRUE) (same m FALSE) (suc i) target a b e
first_on Restarts i target m a b e = cc

-- ---- one way, then the others
way-first : (cap : ℕ) (w : Work State) (to : ℕ) (y : Option State) (os : List (ℕ × State))
    → puts join cap w (on_way to y os) ≡ bind (puts join cap w (on_way to y [])) (λ v. puts join cap v os)
unfolding puts on_way
way-first cap w to none os = refl
way-first cap w to (some y) os = go (put join cap w (to, y))
  where
    go : (r : Res (Work State)) → bind r (λ v. puts join cap v os) ≡ bind (bind r (λ v. ok v)) (λ v. puts join cap v os)
    go (ok v) = refl
    go (bad n) = refl

module _ (s ws : List ℕ) (t : Tables) (ch : Chunk) (v : RowVisit) (l : Leaving) (q : Queue) (x : PassReady s ws t ch v l q) where
  -- ---- words that agree on the row of the visit and the reply
  module _ (w : List ℕ) (row : SameWords ws w v.row (16 * row_cells (chunk_no (module_of s) v.chunk))) (reply : (j : ℕ) → j < 16 → get_or w j 0 ≡ get_or ws j 0) where
    args-same : args_in w v ≡ args_in ws v
    unfolding args_in
    args-same =
        cells-kept ws w v.row _ row (place_at v.row v.start) (v.height - v.start) (omega arith) (omega (arith, x.looking.start, x.looking.low))

    locals_same : locals_of w ch v ≡ locals_of ws ch v
    locals_same = cells-kept ws w v.row _ row (locals_at v.row ch.stack) ch.locals (omega arith) (omega (arith, stack_is s ws v.chunk ch x.chunk, locals-is s ws v.chunk ch x.chunk))

    below-same : cells_at w (stack_at v.row) v.start ≡ cells_at ws (stack_at v.row) v.start
    below-same = cells-kept ws w v.row _ row (stack_at v.row) v.start (omega arith) (omega (arith, x.looking.start, x.looking.low))

    reply-same : cell_at w 0 ≡ cell_at ws 0
    reply-same = cell_at-same w ws 0 0 (λ k h. reply (0 + k) (omega arith))

    leaves-same : (narrow : ℕ) → leaves_with w ch v l narrow ≡ leaves_with ws ch v l narrow
    unfolding leaves_with leaves_as
    leaves-same narrow =
        λ i. cond l.resets (leaves_reset l ch.streams (reply-same i) (locals_same i)) (leaves_kept l narrow (below-same i) (locals_same i))

    along-same : (r : Option ℕ) → along_in w ch v l r ≡ along_in ws ch v l r
    unfolding along_in
    along-same none = ap some (leaves-same _)
    along-same (some r) = λ i. cond (has (get_or (locals_same i) r no_cell).mask ENUM) (some (leaves-same r i)) none

    passes_same : (to : ℕ) → passes w ch v l to ≡ passes ws ch v l to
    unfolding passes
    passes_same to =
        ap (λ (y : Option State). on_way to y []) (along-same (narrowed_in w v to))
        ∙ ap (λ (cs : List Cell). on_way to (along_in ws ch v l (narrowing (exit_in v) (get_or cs 0 no_cell).flow.predicate v.ins.a to)) []) args-same

  -- ---- the ways, by the code's answer
  module _ (y : Cell) (ye : y ≡ condition ws v) (exit : Exit) (ee : exit ≡ exit_in v) (k : Ways) (e : targets k ≡ ways_of exit v.at v.ins.a y.mask) where
    ways-are : ways_in ws ch v l ≡ passes_all ws ch v l (targets k)
    unfolding ways_in
    ways-are = ap (passes_all ws ch v l) (sym (e ∙ (λ i. ways_of (ee i) v.at v.ins.a (ye i).mask)))

    ways-none : k ≡ Zero → ways_in ws ch v l ≡ []
    unfolding passes_all
    ways-none f = ways-are ∙ ap (λ (z : Ways). passes_all ws ch v l (targets z)) f

    ways-one : (a : ℕ) → k ≡ One a → ways_in ws ch v l ≡ passes ws ch v l a
    unfolding passes_all passes
    ways-one a f = ways-are ∙ ap (λ (z : Ways). passes_all ws ch v l (targets z)) f

    pub no-ways : k ≡ Zero → Passed s ws ws v q (ways_in ws ch v l) (Ok q)
    no-ways f = rw (ways-none f) (still s ws t ch v l q x)

    pub one_way : (a : ℕ) → k ≡ One a → (u : List ℕ) (r : Result Queue ℕ) → Passed s ws u v q (passes ws ch v l a) r → Passed s ws u v q (ways_in ws ch v l) r
    one_way a f u r g = rw (ways-one a f) g

    module _ (a b : ℕ) (f : k ≡ Two a b) where
      two-puts : (cap : ℕ) (z : Work State)
          → puts join cap z (ways_in ws ch v l) ≡ bind (puts join cap z (passes ws ch v l a)) (λ w. puts join cap w (passes ws ch v l b))
      unfolding passes_all passes
      two-puts cap z =
          ap (puts join cap z) (ways-are ∙ ap (λ (i : Ways). passes_all ws ch v l (targets i)) f)
          ∙ way-first cap z a _ (passes ws ch v l b)

      pub two-stop : (u : List ℕ) (n : ℕ) → Passed s ws u v q (passes ws ch v l a) (Err n) → Passed s ws u v q (ways_in ws ch v l) (Err n)
      unfolding Passed
      two-stop u n g =
          two-puts (room_in s ws) (work_in s ws v.chunk q)
          ∙ ap (λ (r : Res (Work State)). bind r (λ w. puts join (room_in s ws) w (passes ws ch v l b))) g

      -- ---- between the two
      module _ (w : List ℕ) (z : Queue) (g : Passed s ws w v q (passes ws ch v l a) (Ok z)) (o : Beside s v a ws w) where
        rows-only : RowsOnly s v.chunk ws w
        unfolding Passed
        rows-only = g.1

        next : a ≡ suc v.at
        next = first_on exit v.at v.ins.a y.mask a b (sym e ∙ ap targets f)

        row_same : SameWords ws w (row_at (module_of s) v.chunk v.at) (16 * row_cells (chunk_no (module_of s) v.chunk))
        unfolding Beside
        row_same j c d =
            o j (omega (arith, row_in (module_of s) v.chunk v.at x.looking.chunk x.looking.at))
            (inl (omega (arith, row_apart (module_of s) v.chunk v.at a (omega (arith, next)))))

        reply : (j : ℕ) → j < 16 → get_or w j 0 ≡ get_or ws j 0
        reply j c =
            rows-only.under j
            (omega (arith, areas-behind (module_of s) v.chunk, result-begins (module_of s) v.chunk, result-next (module_of s) v.chunk))

        looking : Looking s w v
        looking =
            record {
              indexed = indexed-steady s ws w rows-only.steady x.looking.indexed;
              chunk = x.looking.chunk;
              at = x.looking.at;
              row = x.looking.row;
              height = row_same (row_at (module_of s) v.chunk v.at) (omega arith) (omega arith) ∙ x.looking.height;
              low = x.looking.low;
              ins = x.looking.ins;
              rule = x.looking.rule;
              field = x.looking.field;
              start = x.looking.start;
            }

        pub stands_after : PassReady s w t ch v l z
        unfolding Passed
        stands_after =
            record {
              looking = looking;
              tables = x.tables;
              chunk = x.chunk ∙ sym (chunk-steady s ws w v.chunk rows-only.steady x.looking.chunk);
              low = g.2;
              queued = g.3;
              leaves = x.leaves;
            }

        same-passes : passes w ch v l b ≡ passes ws ch v l b
        same-passes = passes_same w (rw (← x.looking.row) at row_same) reply b

        both-puts : puts join (room_in s ws) (work_in s ws v.chunk q) (ways_in ws ch v l)
            ≡ puts join (room_in s w) (work_in s w v.chunk z) (passes w ch v l b)
        unfolding Passed
        both-puts =
            two-puts (room_in s ws) (work_in s ws v.chunk q)
            ∙ ap (λ (r : Res (Work State)). bind r (λ u. puts join (room_in s ws) u (passes ws ch v l b))) g.0
            ∙ (λ i. puts join (sym rows-only.steady.kept.long i - words_of (module_of s)) (work_in s w v.chunk z) (sym same-passes i))

        pub two_ways : (u : List ℕ) (r : Result Queue ℕ) → Passed s w u v z (passes w ch v l b) r → Passed s ws u v q (ways_in ws ch v l) r
        unfolding Passed
        two_ways u (Ok r) h = (both-puts ∙ h.0, rows-only-trans s v.chunk ws w u rows-only h.1, h.2, h.3)
        two_ways u (Err n) h = both-puts ∙ h
