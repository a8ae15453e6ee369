-- What leaves is the definition's state after the visit, along the way; and how it meets its target is what the machine puts there.
use Rattle.std.specs.Prelude.{Option as Maybe, None}
use Prim.Native.Nat.{ℕ, zero, suc, ◌+◌, ◌-◌, ◌≤◌}
use mathlib.Core.Path.{◌≡◌, refl, sym, ap, ap₂, ◌∙◌}
use mathlib.Core.Bool.{Bool, true, false, cond, ◌&&◌}
use mathlib.Core.Option.{Option, none, some}
use mathlib.Core.List.{List, [], ◌∷◌, ◌++◌, map}
use native.Mathlib.Omega.{arith}
use borrow.Author.Tests.{eq-eqb, ne_eqb}
use lib.Dec.{eqb, ltb}
use lib.ListN.{length, get_or, set, length-set, length-map}
use lib.Seq.{set_out}
use Rattle.masks.proofs.Both.{both}
use Rattle.cells.specs.declared.Cell.{Cell}
use Rattle.cells.specs.Cell.{invalidated_cell, narrow_enum, unit_cell}
use Rattle.definition.specs.Res.{Res, ok, bad, bind}
use Rattle.definition.specs.Machine.{Work, push, put_at, put_joined}
use Rattle.definition.specs.Module.{row}
use Rattle.definition.specs.State.{State, same_cells, join_states, same_states, join_if, join}
use Rattle.definition.specs.Outputs.{Visit, Setting, instr, no_cell, output}
use Rattle.definition.specs.Ways.{is_from, narrow_stack, narrowed, forget, set_locals, output_list, kept, reset_first}
use Rattle.layout.specs.declared.Chunk.{Chunk}
use Rattle.words.specs.Layout.{cell_at}
use Rattle.words.specs.Rows.{cells_at}
use Rattle.words.proofs.RowLaws.{cells_at-length}
use Rattle.row_join.specs.places.Arrive.{no_local, kept_cell}
use Rattle.row_join.proofs.places.Laws.{same_cells-sound, map-append}
use Rattle.row_join.specs.joining.Leave.{kept_locals, kept_stack, narrowed_local, set_on_way, leaves_kept, leaves_reset, leaves_as, state_by, state_in, met_state, met_how}
use Rattle.row_join.specs.declared.joining.Leaving.{Leaving}
use Rattle.row_join.specs.declared.joining.SetLocal.{SetLocal}
use Rattle.row_join.specs.declared.joining.Way.{Way}
use Rattle.row_join.specs.declared.joining.Met.{Met}
use Rattle.row_join.specs.declared.joining.Met.TheVariants.{Same, Changed, Unequal}
use Rattle.row_join.specs.joining.Met.{SetAs}
use Rattle.layout.specs.Layout.{locals_at, stack_at}

-- ---- a target that is the same after, or of another height, keeps its state
same_states-sound : (x y : State) → same_states x y ≡ true → x ≡ y
unfolding same_states
same_states-sound x y h =
    let (p, q) = both (same_cells x.stack y.stack) (same_cells x.locals y.locals) h in
    λ i. record { stack = same_cells-sound x.stack y.stack p i; locals = same_cells-sound x.locals y.locals q i }

pub same-stays : (o : Option State) (x : State) → met_how o x ≡ Same → met_state o x ≡ o
unfolding met_how met_state
same-stays none x e = let z : ◌≡◌ {A = ℕ} 0 1 = cc in absurd (omega arith)
same-stays (some old) x e = go (eqb (length old.stack) (length x.stack)) (same_states old (join_states old x)) refl e
  where
    go : (s t : Bool) → same_states old (join_states old x) ≡ t → cond s (cond t Same Changed) Unequal ≡ Same → cond s (some (join_states old x)) (some old) ≡ some old
    go true true p e = ap some (sym (same_states-sound old (join_states old x) p))
    go true false p e = let z : ◌≡◌ {A = ℕ} 0 1 = cc in absurd (omega arith)
    go false t p e = refl

-- ---- how it meets its target is what the machine puts there
unfoldable pub met_put : ℕ → Work State → ℕ → Option State → Met → Res (Work State)
met_put cap w t o Same = ok w
met_put cap w t o Changed = push (set w.states t o) w.queue t (ltb (length w.queue) cap)
met_put cap w t o Unequal = bad 18

pub put-met : (cap : ℕ) (w : Work State) (t : ℕ) (x : State) (o : Option State) → ((old : State) → o ≡ some old → length old.locals ≡ length x.locals) → put_at join cap w t x o ≡ met_put cap w t (met_state o x) (met_how o x)
unfolding put_at put_joined join join_if met_put met_state met_how
put-met cap w t x none wide = refl
put-met cap w t x (some old) wide =
    go (eqb (length old.stack) (length x.stack)) (same_states old (join_states old x)) (eqb (length old.locals) (length x.locals)) refl (eq-eqb _ _ (wide old refl))
  where
    go : (s t' u : Bool) → same_states old (join_states old x) ≡ t' → u ≡ true → bind (join_if (s && u) old x) (λ j. put_joined join cap w t j j.changed) ≡ met_put cap w t (cond s (some (join_states old x)) (some old)) (cond s (cond t' Same Changed) Unequal)
    go true true u p q = rw (q, p)
    go true false u p q = rw (q, p)
    go false t' u p q = refl

-- ---- the locals of a row's state, and of what leaves, are as many as the chunk has
wide : (w : List ℕ) (at stack locals n : ℕ) (x : State) → state_by w at stack locals n ≡ some x → length x.locals ≡ locals
unfolding state_by
wide w at stack locals zero x e = let z : ◌≡◌ {A = ℕ} 0 1 = cc in absurd (omega arith)
wide w at stack locals (suc h) x e =
    let y : x.locals ≡ cells_at w (locals_at at stack) locals = cc in
    ap length y ∙ cells_at-length w (locals_at at stack) locals

pub state-wide : (w : List ℕ) (at stack locals : ℕ) (x : State) → state_in w at stack locals ≡ some x → length x.locals ≡ locals
unfolding state_in
state-wide w at stack locals x e = wide w at stack locals (get_or w at 0) x e

kept-wide : (x : SetLocal) (f : ℕ) (ls : List Cell) → length (kept_locals x f ls) ≡ length ls
unfolding kept_locals
kept-wide x f ls = length-set (map (kept_cell f no_local) ls) x.local x.cell ∙ length-map ls (kept_cell f no_local)

reset-wide : (streams : Bool) (reply : Cell) (ls : List Cell) → length (reset_first streams reply ls) ≡ length ls
unfolding reset_first
reset-wide streams reply [] = refl
reset-wide streams reply (c ∷ cs) = ap suc (length-map cs (λ (x : Cell). unit_cell))

pub leaves-wide : (ws : List ℕ) (ch : Chunk) (w : Way) (l : Leaving) → length (leaves_as ws ch w l).locals ≡ ch.locals
unfolding leaves_as leaves_kept leaves_reset
leaves-wide ws ch w l = go l.resets
  where
    ls : List Cell
    ls = cells_at ws (locals_at w.from ch.stack) ch.locals

    many : length ls ≡ ch.locals
    many = cells_at-length ws (locals_at w.from ch.stack) ch.locals

    go : (b : Bool) → length (cond b (leaves_reset l ch.streams (cell_at ws 0) ls) (leaves_kept l w.narrow (cells_at ws (stack_at w.from) w.start) ls)).locals ≡ ch.locals
    go true = reset-wide ch.streams (cell_at ws 0) ls ∙ many
    go false = kept-wide (set_on_way l.set w.narrow ls) l.set.local ls ∙ many

-- ---- what leaves is the state after the visit
map_same : (f g : Cell → Cell) (xs : List Cell) → ((c : Cell) → f c ≡ g c) → map f xs ≡ map g xs
map_same f g [] e = refl
map_same f g (x ∷ xs) e = ap₂ ◌∷◌ (e x) (map_same f g xs e)

map-id : (f : Cell → Cell) (xs : List Cell) → ((c : Cell) → f c ≡ c) → map f xs ≡ xs
map-id f [] e = refl
map-id f (x ∷ xs) e = ap₂ ◌∷◌ (e x) (map-id f xs e)

kept-all : (c : Cell) → kept_cell no_local no_local c ≡ c
unfolding kept_cell
kept-all c = refl

kept-without : (l : ℕ) (c : Cell) → (l ≡ no_local → ⊥) → kept_cell l no_local c ≡ invalidated_cell c l
unfolding kept_cell
kept-without l c p = rw (ne_eqb l no_local p)

kept-narrowed : (r : ℕ) (c : Cell) → (r ≡ no_local → ⊥) → kept_cell no_local r c ≡ narrow_stack r c
unfolding kept_cell
kept-narrowed r c p = rw (ne_eqb r no_local p)

bare-stays : (r : ℕ) (c : Cell) → c.flow.origin ≡ None → narrow_stack r c ≡ c
unfolding narrow_stack is_from
bare-stays r c e = ap (λ (o : Maybe ℕ). cond (is_from o r) (narrow_enum c) c) e

bare-stay : (r : ℕ) (f : ℕ → Cell) → ((k : ℕ) → (f k).flow.origin ≡ None) → (i n : ℕ) → map (narrow_stack r) (row f i n) ≡ row f i n
unfolding row
bare-stay r f e i zero = refl
bare-stay r f e i (suc n) = ap₂ ◌∷◌ (bare-stays r (f i) (e i)) (bare-stay r f e (suc i) n)

module _ (v : Visit) (l : Leaving) (high : l.height ≡ length v.below + (instr v).given) (few : length v.locals ≤ no_local) where
  given : l.height - length v.below ≡ (instr v).given
  given = omega arith

  pub leaves_after : (x : Option Setting) → SetAs x l.set → leaves_kept l no_local v.below v.locals ≡ kept v l.made x
  unfolding leaves_kept kept_stack kept_locals kept set_locals forget SetAs set_on_way
  leaves_after none e =
      λ i. record {
        stack = (ap (λ (n : ℕ). map (kept_cell n no_local) v.below) e ∙ map_same (kept_cell no_local no_local) (λ c. c) v.below kept-all) i ++ output_list l.made (given i);
        locals = (ap (λ (n : ℕ). set (map (kept_cell n no_local) v.locals) n l.set.cell) e ∙ ap (λ (ls : List Cell). set ls no_local l.set.cell) (map-id (kept_cell no_local no_local) v.locals kept-all) ∙ set_out v.locals no_local l.set.cell few) i;
      }
  leaves_after (some x) (el, ec, p) =
      λ i. record {
        stack = (ap (λ (n : ℕ). map (kept_cell n no_local) v.below) el ∙ map_same (kept_cell x.local no_local) (λ c. invalidated_cell c x.local) v.below (λ c. kept-without x.local c p)) i ++ output_list l.made (given i);
        locals = ((λ j. set (map (kept_cell (el j) no_local) v.locals) (el j) (ec j)) ∙ ap (λ (ls : List Cell). set ls x.local x.cell) (map_same (kept_cell x.local no_local) (λ c. invalidated_cell c x.local) v.locals (λ c. kept-without x.local c p))) i;
      }

  -- along a way that narrows; what a test gives came from no local
  pub leaves-narrowed : (r : ℕ) → l.set.local ≡ no_local → (r ≡ no_local → ⊥) → ((k : ℕ) → (output l.made k).flow.origin ≡ None) → leaves_kept l r v.below v.locals ≡ narrowed (kept v l.made none) r
  unfolding leaves_kept kept_stack kept_locals kept set_locals forget narrowed set_on_way narrowed_local output_list
  leaves-narrowed r e p bare = λ i. record { stack = stack i; locals = locals i }
    where
      made : ℕ → List Cell
      made n = row (output l.made) 0 n

      below : map (kept_cell l.set.local r) v.below ≡ map (narrow_stack r) (map (forget none) v.below)
      below =
          ap (λ (n : ℕ). map (kept_cell n r) v.below) e
          ∙ map_same (kept_cell no_local r) (narrow_stack r) v.below (λ c. kept-narrowed r c p)
          ∙ ap (map (narrow_stack r)) (sym (map-id (forget none) v.below (λ c. refl)))

      stack : map (kept_cell l.set.local r) v.below ++ made (l.height - length v.below) ≡ map (narrow_stack r) (map (forget none) v.below ++ made (instr v).given)
      stack =
          ap₂ ◌++◌ below (ap made given ∙ sym (bare-stay r (output l.made) bare 0 (instr v).given))
          ∙ sym (map-append (narrow_stack r) (map (forget none) v.below) (made (instr v).given))

      locals : kept_locals (cond (eqb r no_local) l.set (narrowed_local r v.locals)) l.set.local v.locals ≡ set v.locals r (narrow_enum (get_or v.locals r no_cell))
      locals =
          ap (λ (t : Bool). kept_locals (cond t l.set (narrowed_local r v.locals)) l.set.local v.locals) (ne_eqb r no_local p)
          ∙ ap (λ (n : ℕ). set (map (kept_cell n no_local) v.locals) r (narrow_enum (get_or v.locals r no_cell))) e
          ∙ ap (λ (ls : List Cell). set ls r (narrow_enum (get_or v.locals r no_cell))) (map-id (kept_cell no_local no_local) v.locals kept-all)

-- after a reset
pub leaves-reset-after : (v : Visit) (l : Leaving) → l.height ≡ (instr v).given → leaves_reset l v.streams v.reply v.locals ≡ record { stack = output_list l.made (instr v).given; locals = reset_first v.streams v.reply v.locals }
unfolding leaves_reset
leaves-reset-after v l e = λ i. record { stack = output_list l.made (e i); locals = reset_first v.streams v.reply v.locals }
