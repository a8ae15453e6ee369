-- What passes along the ways of a visit, read off its row, is what leaves the definition's visit.
use Rattle.std.specs.Prelude.{None}
use Prim.Native.Nat.{ℕ, zero, suc, ◌+◌}
use native.Mathlib.Omega.{arith}
use mathlib.Core.Path.{◌≡◌, refl, sym, ap, ap₂, ◌∙◌}
use mathlib.Core.Bool.{Bool, true, false, cond}
use mathlib.Core.Option.{Option, none, some}
use mathlib.Core.List.{List, [], ◌∷◌, map}
use lib.ListN.{length, get_or, length-append, length-map, get_or-eq_default}
use lib.Dec.{ltb}
use borrow.Author.Tests.{ltb-true, ltb-false}
use Rattle.masks.specs.Mask.{has}
use Rattle.masks.specs.Names.{ENUM}
use Rattle.flows.specs.Flow.{new_flow}
use Rattle.cells.specs.declared.Cell.{Cell}
use Rattle.cells.specs.Cell.{made}
use Rattle.ops.specs.declared.Rule.{Rule}
use Rattle.ops.specs.declared.Acts.{Acts}
use Rattle.ops.specs.declared.Acts.TheVariants.{Still}
use Rattle.ops.specs.declared.Makes.TheVariants.{Anything}
use Rattle.ops.specs.declared.Others.TheVariants.{Unknowns}
use Rattle.ops.specs.Ops.{rule_of}
use Rattle.definition.specs.declared.Made.{Made}
use Rattle.definition.specs.State.{State}
use Rattle.definition.specs.Outputs.{Visit, Setting, no_cell, arg, instr, outputs, output, setting, made_from, first_output, second_output, rest_output}
use Rattle.definition.specs.Ways.{exit_of, exit_from, ways_of, narrowing, narrowed, along, on_way, forget, kept, is_reset, reset, after, narrowed_on, leaving_by, leaving, output_list}
use Rattle.form_laws.proofs.Each.{row-length}
use Rattle.layout.specs.declared.Chunk.{Chunk}
use Rattle.row_join.specs.places.Arrive.{no_local}
use Rattle.row_join.specs.declared.joining.Leaving.{Leaving}
use Rattle.row_join.specs.joining.Leave.{leaves_as, leaves_kept, leaves_reset}
use Rattle.row_join.specs.joining.Met.{SetAs}
use Rattle.row_join.proofs.joining.Joined.{leaves_after, leaves-narrowed, leaves-reset-after}
use Rattle.ways.proofs.Still.{narrowed-still, narrowed-after, narrowed-locals, narrowed-test}
use Rattle.visit.specs.declared.RowVisit.{RowVisit}
use Rattle.propagate.specs.Passing.{leaves_with, along_in, condition, exit_in, passes_all, ways_in}
use Rattle.rule_laws.proofs.Tests.{Testing}
use Rattle.step.specs.Alike.{Alike}

-- ---- a test makes nothing that has an origin
module _ (x : Visit) (e : x.rule ≡ rule_of (instr x).op) (to r : ℕ) (h : narrowed_on x to ≡ some r) where
  test : Testing x.rule
  test = rw e (narrowed-test (instr x).op _ _ _ _ _ (rw e at h))

  -- so no output of a test has an origin
  test-outputs : (k : ℕ) → (output (outputs x) k).flow.origin ≡ None
  unfolding outputs made_from output first_output second_output rest_output made new_flow
  test-outputs k = go k test.makes test.others
    where
      go : (k : ℕ) → x.rule.makes ≡ Anything → x.rule.others ≡ Unknowns → (output (outputs x) k).flow.origin ≡ None
      go zero m o = rw m
      go (suc zero) m o = rw (m, o)
      go (suc (suc k)) m o = rw (m, o)

outputs-long : (m : Made) (n : ℕ) → length (output_list m n) ≡ n
unfolding output_list
outputs-long m n = row-length (output m) 0 n

kept-long : (x : Visit) (o : Option Setting) → length (kept x (outputs x) o).stack ≡ length x.below + (instr x).given
unfolding kept
kept-long x o =
    length-append (map (forget o) x.below) (output_list (outputs x) (instr x).given)
    ∙ ap₂ ◌+◌ (length-map x.below (forget o)) (outputs-long (outputs x) (instr x).given)

-- the height after a visit
pub after-high : (x : Visit) → length (after x).stack ≡ cond (is_reset x.rule.acts) (instr x).given (length x.below + (instr x).given)
unfolding after reset
after-high x = go (is_reset x.rule.acts)
  where
    go : (b : Bool) → length (cond b (reset x (outputs x)) (kept x (outputs x) (setting x x.rule.acts))).stack ≡ cond b (instr x).given (length x.below + (instr x).given)
    go true = outputs-long (outputs x) (instr x).given
    go false = kept-long x (setting x x.rule.acts)

module _ (ws : List ℕ) (ch : Chunk) (v : RowVisit) (x : Visit) (l : Leaving) (a : Alike ws ch v x l) where
  leaves-is : (narrow : ℕ) → leaves_with ws ch v l narrow ≡ cond (is_reset x.rule.acts) (leaves_reset l x.streams x.reply x.locals) (leaves_kept l narrow x.below x.locals)
  unfolding leaves_with leaves_as
  leaves-is narrow =
      λ i. cond (a.resets i) (leaves_reset l (a.streams i) (a.reply i) (a.locals i)) (leaves_kept l narrow (a.below i) (a.locals i))

  -- without narrowing
  leaves-plain : leaves_with ws ch v l no_local ≡ after x
  unfolding after reset
  leaves-plain = leaves-is no_local ∙ go (is_reset x.rule.acts) a.height
    where
      go : (b : Bool) → l.height ≡ cond b (instr x).given (length x.below + (instr x).given)
          → cond b (leaves_reset l x.streams x.reply x.locals) (leaves_kept l no_local x.below x.locals)
          ≡ cond b (reset x (outputs x)) (kept x (outputs x) (setting x x.rule.acts))
      go true h = leaves-reset-after x l h ∙ ap (reset x) a.made
      go false h =
          leaves_after x l h (omega (arith, a.few)) (setting x x.rule.acts) a.sets
          ∙ ap (λ (m : _). kept x m (setting x x.rule.acts)) a.made

  -- an enum among the locals is one of them
  local-there : (r : ℕ) → has (get_or x.locals r no_cell).mask ENUM ≡ true → r ≡ no_local → ⊥
  unfolding no_cell made
  local-there r h e = go (ltb r (length x.locals)) refl
    where
      go : (b : Bool) → ltb r (length x.locals) ≡ b → ⊥
      go true p = omega (arith, ltb-true r (length x.locals) p, a.few)
      go false p =
          let q : get_or x.locals r no_cell ≡ no_cell = get_or-eq_default x.locals no_cell (ltb-false r (length x.locals) p) in
          let z : has no_cell.mask ENUM ≡ true = rw q at h in
          let f : ◌≡◌ {A = ℕ} 0 1 = ap (λ (b : Bool). cond b 1 0) z in
          omega arith

  -- with a local narrowed
  module _ (to r : ℕ) (h : narrowed_on x to ≡ some r) where
    still : x.rule.acts ≡ Still
    still = ap (λ (y : Rule). y.acts) a.table ∙ narrowed-still (instr x).op _ _ _ _ _ (rw a.table at h)

    leaves-narrow : has (get_or x.locals r no_cell).mask ENUM ≡ true → leaves_with ws ch v l r ≡ narrowed (after x) r
    unfolding is_reset setting SetAs
    leaves-narrow e =
        leaves-is r
        ∙ ap (λ (b : Acts). cond (is_reset b) (leaves_reset l x.streams x.reply x.locals) (leaves_kept l r x.below x.locals)) still
        ∙ leaves-narrowed x l high (omega (arith, a.few)) r none-set (local-there r e) (λ k. ap (λ (m : _). (output m k).flow.origin) a.made ∙ test-outputs x a.table to r h k)
        ∙ ap (λ (m : _). narrowed (kept x m none) r) a.made
        ∙ ap (λ (y : State). narrowed y r) (sym (narrowed-after x to r a.table h))
      where
        high : l.height ≡ length x.below + (instr x).given
        high = a.height ∙ ap (λ (b : Acts). cond (is_reset b) (instr x).given (length x.below + (instr x).given)) still

        none-set : l.set.local ≡ no_local
        none-set = rw still at a.sets

  -- along one way
  along-alike : (to : ℕ) (n : Option ℕ) → narrowed_on x to ≡ n → along_in ws ch v l n ≡ along (after x) n
  unfolding along_in along
  along-alike to none h = ap some leaves-plain
  along-alike to (some r) h =
      ap (λ (ls : List Cell). cond (has (get_or ls r no_cell).mask ENUM) (some (leaves_with ws ch v l r)) none) a.locals
      ∙ go (has (get_or x.locals r no_cell).mask ENUM) refl
      ∙ ap (λ (ls : List Cell). cond (has (get_or ls r no_cell).mask ENUM) (some (narrowed (after x) r)) none) (sym (narrowed-locals x to r a.table h))
    where
      go : (b : Bool) → has (get_or x.locals r no_cell).mask ENUM ≡ b → cond b (some (leaves_with ws ch v l r)) none ≡ cond b (some (narrowed (after x) r)) none
      go true e = ap some (leaves-narrow to r h e)
      go false e = refl

  condition-is : condition ws v ≡ arg x 0
  condition-is = ap (λ (cs : List Cell). get_or cs 0 no_cell) a.args

  exit-is : exit_in v ≡ exit_from x
  exit-is = λ i. exit_of (a.rule i).exit (a.at i) (a.ins i).a

  passes-alike : (tos : List ℕ) → passes_all ws ch v l tos ≡ leaving_by x (after x) tos
  unfolding passes_all leaving_by
  passes-alike [] = refl
  passes-alike (to ∷ tos) =
      (λ i. on_way to (along_in ws ch v l (narrowing (exit-is i) (condition-is i).flow.predicate (a.ins i).a to)) (passes_all ws ch v l tos))
      ∙ ap₂ (on_way to) (along-alike to (narrowed_on x to) refl) (passes-alike tos)

  -- THEOREM: what passes along the ways is what leaves the visit
  pub ways-alike : ways_in ws ch v l ≡ leaving x
  unfolding ways_in leaving
  ways-alike =
      (λ i. passes_all ws ch v l (ways_of (exit-is i) (a.at i) (a.ins i).a (condition-is i).mask))
      ∙ passes-alike (ways_of (exit_from x) x.at (instr x).a (arg x 0).mask)
