-- The join of states keeps the laws of the worklist, and what it is for a state to take in another.
use mathlib.Core.Path.{◌≡◌, refl, sym, ◌∙◌, ap}
use mathlib.Core.Bool.{Bool, true, false, not, ◌&&◌}
use mathlib.Core.List.{List, [], ◌∷◌}
use lib.Dec.{eqb}
use lib.ListN.{length}
use borrow.Author.Tests.{not-false, eq-eqb, eqb-true}
use Rattle.masks.proofs.Both.{both, never}
use Rattle.cells.specs.declared.Cell.{Cell}
use Rattle.cells.specs.Cell.{join_cell, same_cell}
use Rattle.join_laws.specs.Join.{Equals}
use Rattle.join_laws.proofs.Lists.{each_same, each-equals}
use Rattle.join_laws.proofs.Cells.{cell-joins, cell-equals}
use Rattle.definition.specs.Res.{ok}
use Rattle.definition.specs.Machine.{Joined}
use Rattle.definition.specs.State.{State, join_cells, same_cells, join_states, same_states, join_if, join}
use Rattle.definition.specs.Outputs.{no_cell}
use Rattle.machine_laws.proofs.Moves.{Takes, Laws}
use Rattle.form_laws.proofs.Each.{join_cells-length}
use Rattle.consistent.proofs.Rows.{Grows, grows-of, over, over-grows, taken_at}
use Rattle.consistent.specs.Consistent.{TakesAll, TakesIn}

pub cell-grows : Grows join_cell
cell-grows = grows-of cell-joins

-- ---- rows of cells
pub cells_over : (xs ys : List Cell) → join_cells xs ys ≡ over join_cell xs ys
unfolding join_cells
cells_over [] ys = refl
cells_over (x ∷ xs) [] = refl
cells_over (x ∷ xs) (y ∷ ys) = ap (λ (l : List Cell). join_cell x y ∷ l) (cells_over xs ys)

sames-each : (xs ys : List Cell) → same_cells xs ys ≡ each_same same_cell xs ys
unfolding same_cells
sames-each [] [] = refl
sames-each [] (y ∷ ys) = refl
sames-each (x ∷ xs) [] = refl
sames-each (x ∷ xs) (y ∷ ys) = ap (λ (b : Bool). same_cell x y && b) (sames-each xs ys)

pub cells-grows : Grows join_cells
cells-grows =
    record {
      self = λ xs. cells_over xs xs ∙ (over-grows cell-grows).self xs;
      takes = λ xs ys. rw (cells_over xs ys, cells_over (over join_cell xs ys) ys) ((over-grows cell-grows).takes xs ys);
      keeps = λ xs ys zs e. rw (cells_over xs ys, cells_over (over join_cell xs ys) zs) ((over-grows cell-grows).keeps xs ys zs (sym (cells_over xs zs) ∙ e));
    }

pub cells-equals : Equals same_cells
cells-equals =
    record {
      sound = λ xs ys h. (each-equals cell-equals).sound xs ys (sym (sames-each xs ys) ∙ h);
      whole = λ xs. sames-each xs xs ∙ (each-equals cell-equals).whole xs;
    }

-- ---- states
state-grows : Grows join_states
unfolding join_states
state-grows =
    record {
      self = λ x i. record { stack = cells-grows.self x.stack i; locals = cells-grows.self x.locals i };
      takes = λ x y i. record { stack = cells-grows.takes x.stack y.stack i; locals = cells-grows.takes x.locals y.locals i };
      keeps = λ x y z e i.
          record {
            stack = cells-grows.keeps x.stack y.stack z.stack (ap (λ (s : State). s.stack) e) i;
            locals = cells-grows.keeps x.locals y.locals z.locals (ap (λ (s : State). s.locals) e) i;
          };
    }

state-equals : Equals same_states
unfolding same_states
state-equals =
    record {
      sound = λ x y h.
          let (p, q) = both (same_cells x.stack y.stack) (same_cells x.locals y.locals) h in
          λ i. record { stack = cells-equals.sound x.stack y.stack p i; locals = cells-equals.sound x.locals y.locals q i };
      whole = λ x. rw (cells-equals.whole x.stack) (cells-equals.whole x.locals);
    }

-- the heights and the numbers of locals agree
abbrev fits : State → State → Bool
fits x y = eqb (length x.stack) (length y.stack) && eqb (length x.locals) (length y.locals)

takes_of : (x y : State) → fits x y ≡ true → join_states x y ≡ x → Takes join x y
unfolding join join_if
takes_of x y e h = rw (e, h, state-equals.whole x)

-- what a join that is not refused says
abbrev joined : State → State → Joined State
joined x y = record { value = join_states x y; changed = not (same_states x (join_states x y)) }

join-use : {C : Type 0} (x y : State) (r : Joined State) → join x y ≡ ok r → (fits x y ≡ true → joined x y ≡ r → C) → C
unfolding join join_if
join-use {C} x y r h k = go (fits x y) refl h
  where
    go : (b : Bool) → fits x y ≡ b → join_if b x y ≡ ok r → C
    go true e h = k e (cc)
    go false e h = never (cc)

fits-self : (x : State) → fits x x ≡ true
fits-self x = rw (eq-eqb (length x.stack) (length x.stack) refl) (eq-eqb (length x.locals) (length x.locals) refl)

fits-join : (x y z : State) → fits x z ≡ true → fits (join_states x y) z ≡ true
unfolding join_states
fits-join x y z e = rw (join_cells-length x.stack y.stack, join_cells-length x.locals y.locals) e

-- what was joined last is taken in, and so is what was taken in before
takes-last : (s x : State) (r : Joined State) → join s x ≡ ok r → Takes join r.value x
takes-last s x r h =
    join-use s x r h λ e p.
    rw (← p) (takes_of (join_states s x) x (fits-join s x x e) (state-grows.takes s x))

takes-still : (s x : State) (r : Joined State) → join s x ≡ ok r → r.changed ≡ false → Takes join s x
takes-still s x r h c =
    join-use s x r h λ e p.
    takes_of s x e (sym (state-equals.sound s (join_states s x) (not-false _ (ap (λ (j : Joined State). j.changed) p ∙ c))))

takes-before : (s x y : State) (r : Joined State) → join s x ≡ ok r → Takes join s y → Takes join r.value y
takes-before s x y r h t =
    join-use s x r h λ e p.
    join-use s y (record { value = s; changed = false }) t λ e' p'.
    rw (← p) (takes_of (join_states s x) y (fits-join s x y e') (state-grows.keeps s x y (ap (λ (j : Joined State). j.value) p')))

pub join-laws : Laws join
join-laws =
    record {
      self = λ x. takes_of x x (fits-self x) (state-grows.self x);
      same = takes-still;
      takes = takes-last;
      keeps = takes-before;
    }

-- ---- taking in, as the statement says it
pub all_in : (xs ys : List Cell) → length xs ≡ length ys → join_cells xs ys ≡ xs → TakesAll xs ys
all_in xs ys l e =
    record {
      long = l;
      each = λ i h. taken_at join_cell no_cell xs ys i (rw l h) h (sym (cells_over xs ys) ∙ e);
    }

pub takes-in : (s x : State) → Takes join s x → TakesIn s x
unfolding join_states
takes-in s x t =
    join-use s x (record { value = s; changed = false }) t λ e p.
    let (h, l) = both (eqb (length s.stack) (length x.stack)) (eqb (length s.locals) (length x.locals)) e in
    record {
      stack = all_in s.stack x.stack (eqb-true _ _ h) (ap (λ (j : Joined State). j.value.stack) p);
      locals = all_in s.locals x.locals (eqb-true _ _ l) (ap (λ (j : Joined State). j.value.locals) p);
    }
