-- The laws by which a row takes in what leaves: its stack and its locals, and the state that they make.
use Prim.Native.Nat.{ℕ, zero, suc, ◌+◌, ◌*◌, ◌-◌, ◌<◌, ◌≤◌}
use mathlib.Core.Path.{◌≡◌, refl, sym, ap, ap₂, ◌∙◌}
use mathlib.Core.Logic.{◌⊎◌, inl, inr}
use mathlib.Core.Bool.{Bool, true, false, true≢false, not, cond, ◌&&◌, ◌||◌}
use mathlib.Core.Option.{some}
use mathlib.Core.List.{List, [], ◌∷◌, ◌++◌, map}
use native.Mathlib.Omega.{arith}
use native.Mathlib.Numerals.{add-one}
use borrow.Author.Tests.{eq-eqb, ne_eqb, eqb-true, eqb-false, not-true}
use lib.Dec.{eqb}
use lib.ListN.{length, get_or, set, length-append, length-map}
use lib.Seq.{set_out, set_at, get_or-set_same}
use Rattle.masks.proofs.Both.{both}
use Rattle.cells.specs.declared.Cell.{Cell}
use Rattle.cells.specs.Cell.{narrow_enum, unit_cell}
use Rattle.definition.specs.Module.{row}
use Rattle.definition.specs.Outputs.{no_cell, output}
use Rattle.definition.specs.State.{State, join_cells, same_cells, join_states, same_states}
use Rattle.definition.specs.Ways.{output_list, reset_first}
use Rattle.layout.specs.declared.Chunk.{Chunk}
use Rattle.words.specs.Layout.{cell_at}
use Rattle.words.specs.Rows.{cells_at, Outside}
use Rattle.words.proofs.RowLaws.{cells_at-length, cells_at-get_d, cells_at-append, cells_at-outside, outside_refl, outside_trans, outside-widen, outside_set}
use Rattle.row_join.specs.places.Arrive.{no_local, kept_cell, arrive, moves, Arrived, PlacesApart}
use Rattle.row_join.proofs.places.Laws.{arrived-more, map-append, row-length}
use Rattle.row_join.specs.joining.Leave.{kept_locals, kept_stack, narrowed_local, set_on_way, leaves_kept, leaves_reset, leaves_as, state_by, state_in, met_state, met_how, met_word, row_words, JoinReady}
use Rattle.row_join.specs.declared.joining.Leaving.{Leaving}
use Rattle.row_join.specs.declared.joining.SetLocal.{SetLocal}
use Rattle.row_join.specs.declared.joining.Way.{Way}
use Rattle.row_join.specs.declared.joining.Met.{Met}
use Rattle.row_join.specs.declared.joining.Met.TheVariants.{Same, Changed, Unequal}
use Rattle.row_join.specs.joining.Left.{Left, how_of, reset_at}
use Rattle.layout.specs.Layout.{locals_at, place_at, row_head, stack_at}

-- the stack, then the locals
pub left_both : (fresh : Bool) (ch : Chunk) (to h : ℕ) (xs ys : List Cell) (w v u : List ℕ) (a b : Bool) → h ≤ ch.stack → Arrived fresh (stack_at to) h xs w v a → Arrived fresh (locals_at to ch.stack) ch.locals ys v u b → Left fresh ch to h (record { stack = xs; locals = ys }) w u (a || b)
left_both fresh ch to h xs ys w v u a b l p q =
    record {
      high = p.count;
      stack = cells_at-outside q.out (stack_at to) h (inl (omega arith)) ∙ p.cells;
      locals = q.cells ∙ ap (λ (z : List Cell). arrive fresh z ys) old;
      changed = ap₂ ◌||◌ p.changed (q.changed ∙ ap (λ (z : List Cell). moves fresh z ys) old);
      out = outside_trans (outside-widen (stack_at to) (to + row_words ch) p.out (omega arith) (omega arith)) (outside-widen (stack_at to) (to + row_words ch) q.out (omega arith) (omega arith));
    }
  where
    old : cells_at v (locals_at to ch.stack) ch.locals ≡ cells_at w (locals_at to ch.stack) ch.locals
    old = cells_at-outside p.out (locals_at to ch.stack) ch.locals (inr (omega arith))

-- ---- the locals
arrived-as : {fresh : Bool} {to n m : ℕ} {xs ys : List Cell} {w v : List ℕ} {b : Bool} → n ≡ m → xs ≡ ys → Arrived fresh to n xs w v b → Arrived fresh to m ys w v b
arrived-as {fresh} {to} {n} {m} {xs} {ys} {w} {v} {b} e f p = rw (← e, ← f) p

-- none of them is set
pub locals-beside : (x : SetLocal) (forget n : ℕ) (ls : List Cell) → length ls ≡ n → n ≤ x.local → map (kept_cell forget no_local) ls ≡ kept_locals x forget ls
unfolding kept_locals
locals-beside x forget n ls e l =
    sym (set_out (map (kept_cell forget no_local) ls) x.local x.cell (omega (arith, length-map ls (kept_cell forget no_local))))

split : (w : List ℕ) (at k r n : ℕ) → n ≡ k + suc r → cells_at w at n ≡ cells_at w at k ++ (cell_at w (at + 16 * k) ∷ cells_at w (at + 16 * (k + 1)) r)
unfolding cells_at
split w at k r n e =
    let z : at + 16 * k + 16 ≡ at + 16 * (k + 1) = omega arith in
    ap (cells_at w at) e
    ∙ cells_at-append w at k (suc r)
    ∙ ap (λ (b : ℕ). cells_at w at k ++ (cell_at w (at + 16 * k) ∷ cells_at w b r)) z

between : (xs : List Cell) (c : Cell) (ys : List Cell) → (xs ++ (c ∷ [])) ++ ys ≡ xs ++ (c ∷ ys)
between [] c ys = refl
between (x ∷ xs) c ys = ap (λ (l : List Cell). x ∷ l) (between xs c ys)

-- one is: those before it, it, and those behind
pub locals-around : (x : SetLocal) (forget from to n : ℕ) (fresh : Bool) (w v₁ v₂ u : List ℕ) (a b c : Bool) → PlacesApart w from to n → x.local < n → Arrived fresh to x.local (map (kept_cell forget no_local) (cells_at w from x.local)) w v₁ a → Arrived fresh (to + 16 * x.local) 1 (x.cell ∷ []) v₁ v₂ b → Arrived fresh (to + 16 * (x.local + 1)) (n - x.local - 1) (map (kept_cell forget no_local) (cells_at v₂ (from + 16 * (x.local + 1)) (n - x.local - 1))) v₂ u c → Arrived fresh to n (kept_locals x forget (cells_at w from n)) w u ((a || b) || c)
unfolding kept_locals
locals-around x forget from to n fresh w v₁ v₂ u a b c s l p q r = arrived-as count cells (arrived-more low (rw behind at r))
  where
    k : ℕ
    k = x.local

    rest : ℕ
    rest = n - k - 1

    f : Cell → Cell
    f = kept_cell forget no_local

    low : Arrived fresh to (k + 1) (map f (cells_at w from k) ++ (x.cell ∷ [])) w v₂ (a || b)
    low = arrived-more p q

    unread : (to ≤ from) ⊎ (from + 16 * n ≤ to) → cells_at v₂ (from + 16 * (k + 1)) rest ≡ cells_at w (from + 16 * (k + 1)) rest
    unread (inl h) = cells_at-outside low.out (from + 16 * (k + 1)) rest (inr (omega arith))
    unread (inr h) = cells_at-outside low.out (from + 16 * (k + 1)) rest (inl (omega arith))

    behind : cells_at v₂ (from + 16 * (k + 1)) rest ≡ cells_at w (from + 16 * (k + 1)) rest
    behind = unread s.apart

    count : k + 1 + rest ≡ n
    count = omega arith

    parts : cells_at w from n ≡ cells_at w from k ++ (cell_at w (from + 16 * k) ∷ cells_at w (from + 16 * (k + 1)) rest)
    parts = split w from k rest n (omega arith)

    cells : (map f (cells_at w from k) ++ (x.cell ∷ [])) ++ map f (cells_at w (from + 16 * (k + 1)) rest) ≡ set (map f (cells_at w from n)) k x.cell
    cells =
        between (map f (cells_at w from k)) x.cell (map f (cells_at w (from + 16 * (k + 1)) rest))
        ∙ sym (set_at (map f (cells_at w from k)) (f (cell_at w (from + 16 * k))) (map f (cells_at w (from + 16 * (k + 1)) rest)) x.cell k (length-map (cells_at w from k) f ∙ cells_at-length w from k))
        ∙ ap (λ (z : List Cell). set z k x.cell) (sym (map-append f (cells_at w from k) (cell_at w (from + 16 * k) ∷ cells_at w (from + 16 * (k + 1)) rest)) ∙ ap (map f) (sym parts))

-- ---- the stack: what is kept, then the outputs
pub stack-arrived : (l : Leaving) (narrow : ℕ) (fresh : Bool) (from to n : ℕ) (w v u : List ℕ) (a b : Bool) → n ≤ l.height → Arrived fresh to n (map (kept_cell l.set.local narrow) (cells_at w from n)) w v a → Arrived fresh (to + 16 * n) (l.height - n) (output_list l.made (l.height - n)) v u b → Arrived fresh to l.height (kept_stack l narrow (cells_at w from n)) w u (a || b)
unfolding kept_stack
stack-arrived l narrow fresh from to n w v u a b h p q =
    let m : n + (l.height - n) ≡ l.height = omega arith in
    rw (cells_at-length w from n) (arrived-as m refl (arrived-more p q))

-- the local that is narrowed is one of the row's, and is read off its words
pub narrow-room : (from stack locals narrow n : ℕ) → from + (row_head + 16 * (stack + locals)) ≤ n → (narrow ≡ no_local → ⊥) → (narrow ≡ no_local) ⊎ (narrow < locals) → locals_at from stack + 16 * narrow + 16 ≤ n
narrow-room from stack locals narrow n l p (inl e) = absurd (p e)
narrow-room from stack locals narrow n l p (inr h) = omega arith

pub set-on-way : (x y : SetLocal) (narrow at n : ℕ) (w : List ℕ) (c : Cell) → (narrow ≡ no_local → ⊥) → (narrow ≡ no_local) ⊎ (narrow < n) → c ≡ cell_at w (at + 16 * narrow) → y.local ≡ narrow → y.cell ≡ narrow_enum c → y ≡ set_on_way x narrow (cells_at w at n)
unfolding set_on_way narrowed_local
set-on-way x y narrow at n w c p (inl e) q el ec = absurd (p e)
set-on-way x y narrow at n w c p (inr h) q el ec =
    rw (ne_eqb narrow no_local p)
    (λ i. record { local = el i; cell = (ec ∙ ap narrow_enum (q ∙ sym (cells_at-get_d w at n narrow no_cell h))) i })

pub set-as-given : (x : SetLocal) (narrow : ℕ) (ls : List Cell) → narrow ≡ no_local → x ≡ set_on_way x narrow ls
unfolding set_on_way
set-as-given x narrow ls e = rw (eq-eqb narrow no_local e)

pub reset-at : (streams : Bool) (reply : Cell) (k : ℕ) → cond (streams && eqb k 0) reply unit_cell ≡ reset_at streams reply k
unfolding reset_at
reset-at true reply zero = refl
reset-at false reply zero = refl
reset-at true reply (suc k) = rw (ne_eqb (suc k) 0 (λ e. omega arith))
reset-at false reply (suc k) = refl

reset-others : (streams : Bool) (reply : Cell) (i : ℕ) (cs : List Cell) → map (λ (c : Cell). unit_cell) cs ≡ row (reset_at streams reply) (suc i) (length cs)
unfolding reset_at row
reset-others streams reply i [] = refl
reset-others streams reply i (c ∷ cs) = ap (λ (l : List Cell). unit_cell ∷ l) (reset-others streams reply (suc i) cs)

reset-row : (streams : Bool) (reply : Cell) (ls : List Cell) → row (reset_at streams reply) 0 (length ls) ≡ reset_first streams reply ls
unfolding reset_first reset_at row
reset-row streams reply [] = refl
reset-row streams reply (c ∷ cs) =
    ap (λ (l : List Cell). cond streams reply unit_cell ∷ l) (sym (reset-others streams reply 0 cs))

-- which of the two leaves
module _ (ws : List ℕ) (ch : Chunk) (w : Way) (l : Leaving) where
  abbrev pub gone : State
  gone = leaves_reset l ch.streams (cell_at ws 0) (cells_at ws (locals_at w.from ch.stack) ch.locals)

  abbrev pub stays : State
  stays =
      leaves_kept l w.narrow (cells_at ws (stack_at w.from) w.start) (cells_at ws (locals_at w.from ch.stack) ch.locals)

  pub leaves-reset : l.resets ≡ true → leaves_as ws ch w l ≡ gone
  unfolding leaves_as
  leaves-reset e = ap (λ (t : Bool). cond t gone stays) e

  pub leaves_kept_lem : l.resets ≡ false → leaves_as ws ch w l ≡ stays
  unfolding leaves_as
  leaves_kept_lem e = ap (λ (t : Bool). cond t gone stays) e

-- ---- what is ready has its places
module _ {ws : List ℕ} {ch : Chunk} {w : Way} {l : Leaving} (r : JoinReady ws ch w l) where
  near : (w.to ≤ w.from) ⊎ (w.from + row_words ch ≤ w.to)
  near = go r.apart
    where
      go : (w.from ≡ w.to) ⊎ ((w.from + row_words ch ≤ w.to) ⊎ (w.to + row_words ch ≤ w.from)) → (w.to ≤ w.from) ⊎ (w.from + row_words ch ≤ w.to)
      go (inl e) = inl (omega arith)
      go (inr (inl h)) = inr h
      go (inr (inr h)) = inl (omega arith)

  pub stack_places : l.resets ≡ false → PlacesApart ws (stack_at w.from) (stack_at w.to) w.start
  stack_places e =
      let a = r.above e in
      record { source = omega (arith, r.from, r.height); target = omega (arith, r.to, r.height); apart = go a near }
    where
      go : w.start ≤ l.height → (w.to ≤ w.from) ⊎ (w.from + row_words ch ≤ w.to) → (stack_at w.to ≤ stack_at w.from) ⊎ (place_at w.from w.start ≤ stack_at w.to)
      go a (inl h) = inl (omega arith)
      go a (inr h) = inr (omega (arith, r.height))

  pub locals-places : (v : List ℕ) → length v ≡ length ws → PlacesApart v (locals_at w.from ch.stack) (locals_at w.to ch.stack) ch.locals
  locals-places v e = record { source = omega (arith, r.from); target = omega (arith, r.to); apart = go near }
    where
      go : (w.to ≤ w.from) ⊎ (w.from + row_words ch ≤ w.to) → (locals_at w.to ch.stack ≤ locals_at w.from ch.stack) ⊎ (locals_at w.from ch.stack + 16 * ch.locals ≤ locals_at w.to ch.stack)
      go (inl h) = inl (omega arith)
      go (inr h) = inr (omega arith)

  -- the locals are read after the stack has arrived
  pub locals-unread : {v : List ℕ} → Outside (stack_at w.to) (place_at w.to l.height) ws v → cells_at v (locals_at w.from ch.stack) ch.locals ≡ cells_at ws (locals_at w.from ch.stack) ch.locals
  locals-unread {v} o = go near
    where
      go : (w.to ≤ w.from) ⊎ (w.from + row_words ch ≤ w.to) → cells_at v (locals_at w.from ch.stack) ch.locals ≡ cells_at ws (locals_at w.from ch.stack) ch.locals
      go (inl h) = cells_at-outside o (locals_at w.from ch.stack) ch.locals (inr (omega (arith, r.height)))
      go (inr h) = cells_at-outside o (locals_at w.from ch.stack) ch.locals (inl (omega arith))

  -- ---- the three parts of what leaves
  pub kept-left : (fresh : Bool) (v u : List ℕ) (x : SetLocal) (a b : Bool) → x ≡ set_on_way l.set w.narrow (cells_at ws (locals_at w.from ch.stack) ch.locals) → Arrived fresh (stack_at w.to) l.height (kept_stack l w.narrow (cells_at ws (stack_at w.from) w.start)) ws v a → Arrived fresh (locals_at w.to ch.stack) ch.locals (kept_locals x l.set.local (cells_at v (locals_at w.from ch.stack) ch.locals)) v u b → Left fresh ch w.to l.height (leaves_kept l w.narrow (cells_at ws (stack_at w.from) w.start) (cells_at ws (locals_at w.from ch.stack) ch.locals)) ws u (a || b)
  unfolding leaves_kept
  kept-left fresh v u x a b e p q =
      left_both fresh ch w.to l.height _ _ ws v u a b r.height p (rw (← e) (rw (locals-unread p.out) at q))

  pub reset-left : (fresh : Bool) (v u : List ℕ) (reply : Cell) (a b : Bool) → reply ≡ cell_at ws 0 → Arrived fresh (stack_at w.to) l.height (output_list l.made l.height) ws v a → Arrived fresh (locals_at w.to ch.stack) ch.locals (row (reset_at ch.streams reply) 0 ch.locals) v u b → Left fresh ch w.to l.height (leaves_reset l ch.streams (cell_at ws 0) (cells_at ws (locals_at w.from ch.stack) ch.locals)) ws u (a || b)
  unfolding leaves_reset
  reset-left fresh v u reply a b e p q =
      left_both fresh ch w.to l.height _ _ ws v u a b r.height p
      (arrived-as refl (ap (λ (c : Cell). row (reset_at ch.streams c) 0 ch.locals) e ∙ ap (row (reset_at ch.streams (cell_at ws 0)) 0) (sym (cells_at-length ws (locals_at w.from ch.stack) ch.locals)) ∙ reset-row ch.streams (cell_at ws 0) (cells_at ws (locals_at w.from ch.stack) ch.locals)) q)

  -- ---- the height of what leaves
  pub leaves-high : length (leaves_as ws ch w l).stack ≡ l.height
  unfolding leaves_as leaves_kept leaves_reset kept_stack output_list
  leaves-high = go l.resets refl
    where
      below : List Cell
      below = cells_at ws (stack_at w.from) w.start

      kept : List Cell
      kept = map (kept_cell l.set.local w.narrow) below

      made : List Cell
      made = output_list l.made (l.height - length below)

      go : (b : Bool) → l.resets ≡ b → length (cond b (leaves_reset l ch.streams (cell_at ws 0) (cells_at ws (locals_at w.from ch.stack) ch.locals)) (leaves_kept l w.narrow below (cells_at ws (locals_at w.from ch.stack) ch.locals))).stack ≡ l.height
      go true e = row-length (output l.made) 0 l.height
      go false e =
          let a = r.above e in
          length-append kept made
          ∙ omega (arith, length-map below (kept_cell l.set.local w.narrow), cells_at-length ws (stack_at w.from) w.start, row-length (output l.made) 0 (l.height - length below))

-- ---- the state of the row
-- the height is written, the rest of the row is v's
state-written : (ch : Chunk) (to h : ℕ) (v : List ℕ) → to < length v → state_in (set v to (h + 1)) to ch.stack ch.locals ≡ some (record { stack = cells_at v (stack_at to) h; locals = cells_at v (locals_at to ch.stack) ch.locals })
unfolding state_in state_by
state-written ch to h v l =
    ap (state_by (set v to (h + 1)) to ch.stack ch.locals) (get_or-set_same v to (h + 1) 0 l ∙ add-one h)
    ∙ (λ i. some (record { stack = stack i; locals = locals i }))
  where
    stack : cells_at (set v to (h + 1)) (stack_at to) h ≡ cells_at v (stack_at to) h
    stack = cells_at-outside (outside_set v to (h + 1)) (stack_at to) h (inr (omega arith))

    locals : cells_at (set v to (h + 1)) (locals_at to ch.stack) ch.locals ≡ cells_at v (locals_at to ch.stack) ch.locals
    locals = cells_at-outside (outside_set v to (h + 1)) (locals_at to ch.stack) ch.locals (inr (omega arith))

how-met : (p q : Bool) → how_of ((not p || not q) || false) ≡ cond (p && q) Same Changed
how-met true true = refl
how-met true false = refl
how-met false true = refl
how-met false false = refl

-- what the contract says of the row
pub record Meets (ch : Chunk) (to height : ℕ) (x : State) (w u : List ℕ) (r : Met) : Type 0 where
  pub state : state_in u to ch.stack ch.locals ≡ met_state (state_in w to ch.stack ch.locals) x
  pub how : r ≡ met_how (state_in w to ch.stack ch.locals) x
  pub out : Outside to (to + row_words ch) w u
  pub field : get_or u (to + 1) 0 ≡ get_or w (to + 1) 0
  pub word : get_or u to 0 ≡ met_word (get_or w to 0) height

module _ (ch : Chunk) (to h : ℕ) (x : State) (w v : List ℕ) (b : Bool) (l : to + row_words ch ≤ length w) where
  written_out : Outside (stack_at to) (to + row_words ch) w v → Outside to (to + row_words ch) w (set v to (h + 1))
  written_out o =
      outside_trans (outside-widen to (to + row_words ch) o (omega arith) (omega arith)) (outside-widen to (to + row_words ch) (outside_set v to (h + 1)) (omega arith) (omega arith))

  written-field : Outside (stack_at to) (to + row_words ch) w v → get_or (set v to (h + 1)) (to + 1) 0 ≡ get_or w (to + 1) 0
  written-field o = (outside_set v to (h + 1)).word (to + 1) (inr (omega arith)) ∙ o.word (to + 1) (inl (omega arith))

  pub meets-fresh : get_or w to 0 ≡ 0 → Left true ch to h x w v b → Meets ch to h x w (set v to (h + 1)) (how_of (b || true))
  unfolding state_in state_by met_state met_how met_word arrive
  meets-fresh z p =
      record {
        state = state-written ch to h v (omega (arith, p.out.length)) ∙ (λ i. some (record { stack = p.stack i; locals = p.locals i })) ∙ sym (ap (λ (n : ℕ). met_state (state_by w to ch.stack ch.locals n) x) z);
        how = always b ∙ sym (ap (λ (n : ℕ). met_how (state_by w to ch.stack ch.locals n) x) z);
        out = written_out p.out;
        field = written-field p.out;
        word = get_or-set_same v to (h + 1) 0 (omega (arith, p.out.length)) ∙ add-one h ∙ sym (ap (λ (n : ℕ). met_word n h) z);
      }
    where
      always : (t : Bool) → how_of (t || true) ≡ Changed
      always true = refl
      always false = refl

  pub meets-joined : get_or w to 0 ≡ h + 1 → Left false ch to h x w v b → Meets ch to h x w (set v to (h + 1)) (how_of (b || false))
  unfolding state_in state_by met_state met_how met_word arrive moves join_states same_states
  meets-joined z p =
      record {
        state = state-written ch to h v (omega (arith, p.out.length)) ∙ (λ i. some (record { stack = p.stack i; locals = p.locals i })) ∙ sym (ap (λ (n : ℕ). met_state (state_by w to ch.stack ch.locals n) x) full ∙ ap (λ (t : Bool). cond t (some (join_states old x)) (some old)) level);
        how = ap (λ (t : Bool). how_of (t || false)) p.changed ∙ how-met (same_cells old.stack (join_cells old.stack x.stack)) (same_cells old.locals (join_cells old.locals x.locals)) ∙ sym (ap (λ (n : ℕ). met_how (state_by w to ch.stack ch.locals n) x) full ∙ ap (λ (t : Bool). cond t (cond (same_states old (join_states old x)) Same Changed) Unequal) level);
        out = written_out p.out;
        field = written-field p.out;
        word = get_or-set_same v to (h + 1) 0 (omega (arith, p.out.length)) ∙ add-one h ∙ sym (ap (λ (n : ℕ). met_word n h) full);
      }
    where
      old : State
      old = record { stack = cells_at w (stack_at to) h; locals = cells_at w (locals_at to ch.stack) ch.locals }

      full : get_or w to 0 ≡ suc h
      full = z ∙ add-one h

      level : eqb (length (cells_at w (stack_at to) h)) (length x.stack) ≡ true
      level = eq-eqb _ _ (cells_at-length w (stack_at to) h ∙ sym p.high)

  -- by the tests of the code
  pub meets-level : (r : Met) → not (eqb (get_or w to 0) 0) && not (eqb (get_or w to 0) (h + 1)) ≡ false → Left (eqb (get_or w to 0) 0) ch to h x w v b → r ≡ how_of (b || eqb (get_or w to 0) 0) → Meets ch to h x w (set v to (h + 1)) r
  meets-level r t p e = go (eqb (get_or w to 0) 0) (eqb (get_or w to 0) (h + 1)) refl refl t p e
    where
      go : (f g : Bool) → eqb (get_or w to 0) 0 ≡ f → eqb (get_or w to 0) (h + 1) ≡ g → not f && not g ≡ false → Left f ch to h x w v b → r ≡ how_of (b || f) → Meets ch to h x w (set v to (h + 1)) r
      go true g y z t p e = rw e (meets-fresh (eqb-true _ _ y) p)
      go false true y z t p e = rw e (meets-joined (eqb-true _ _ z) p)
      go false false y z t p e = absurd (true≢false t)

-- a row of another height
meets-unequal : (ch : Chunk) (to h : ℕ) (x : State) (w : List ℕ) → (get_or w to 0 ≡ 0 → ⊥) → (get_or w to 0 ≡ h + 1 → ⊥) → length x.stack ≡ h → Meets ch to h x w w Unequal
unfolding state_in state_by met_state met_how met_word
meets-unequal ch to h x w p q e =
    record {
      state = (go (get_or w to 0) p q).0;
      how = (go (get_or w to 0) p q).1;
      out = outside_refl to (to + row_words ch) w;
      field = refl;
      word = (go (get_or w to 0) p q).2;
    }
  where
    go : (n : ℕ) → (n ≡ 0 → ⊥) → (n ≡ h + 1 → ⊥) → (state_by w to ch.stack ch.locals n ≡ met_state (state_by w to ch.stack ch.locals n) x) × (Unequal ≡ met_how (state_by w to ch.stack ch.locals n) x) × (n ≡ met_word n h)
    go zero a b = absurd (a refl)
    go (suc k) a b =
        let f : eqb (length (cells_at w (stack_at to) k)) (length x.stack) ≡ false = ne_eqb (length (cells_at w (stack_at to) k)) (length x.stack) (λ c. b (omega (arith, cells_at-length w (stack_at to) k))) in
        (rw f, rw f, refl)

pub meets-other : (ch : Chunk) (to h : ℕ) (x : State) (w : List ℕ) → not (eqb (get_or w to 0) 0) && not (eqb (get_or w to 0) (h + 1)) ≡ true → length x.stack ≡ h → Meets ch to h x w w Unequal
meets-other ch to h x w t e =
    let (p, q) = both (not (eqb (get_or w to 0) 0)) (not (eqb (get_or w to 0) (h + 1))) t in
    meets-unequal ch to h x w (eqb-false _ _ (not-true _ p)) (eqb-false _ _ (not-true _ q)) e
