-- Whether a way is cut, and what passes along one that is not.
use Prim.Native.Nat.{ℕ, ◌+◌, ◌*◌, ◌<◌, ◌≤◌}
use native.Mathlib.Omega.{arith}
use mathlib.Core.Path.{◌≡◌, refl, sym, ap, ◌∙◌}
use mathlib.Core.Logic.{◌⊎◌, inl, inr}
use mathlib.Core.Bool.{Bool, true, false, cond}
use mathlib.Core.Option.{none, some}
use mathlib.Core.List.{List, [], ◌∷◌}
use borrow.Author.Tests.{ltb-true, ltb-false, not-true, not-false}
use lib.Dec.{ltb}
use lib.ListN.{get_or-eq_default}
use Rattle.masks.specs.Mask.{has}
use Rattle.masks.specs.Names.{ENUM}
use Rattle.cells.specs.declared.Cell.{Cell}
use Rattle.cells.specs.Cell.{made}
use Rattle.words.specs.Layout.{cell_at}
use Rattle.words.proofs.RowLaws.{cells_at-length, cells_at-get_d}
use Rattle.definition.specs.Outputs.{no_cell}
use Rattle.definition.specs.Ways.{on_way}
use Rattle.layout.specs.declared.Chunk.{Chunk}
use Rattle.layout.specs.Layout.{local_at, locals_at}
use Rattle.row_join.specs.places.Arrive.{no_local}
use Rattle.row_join.specs.declared.joining.Leaving.{Leaving}
use Rattle.visit.specs.declared.RowVisit.{RowVisit}
use Rattle.ways.specs.Ways.{receiver}
use Rattle.propagate.specs.Passing.{locals_of, leaves_with, along_in, passes, narrowed_in}
use Rattle.propagate.specs.Steps.{may_be, cut_in, local_on}
use Rattle.std.specs.Prelude.{Option, Some, None}

module _ (ws : List ℕ) (ch : Chunk) (v : RowVisit) where
  pub may-there : (r : ℕ) → r < ch.locals → has (cell_at ws (local_at v.row ch.stack r)).mask ENUM ≡ may_be ws ch v r
  may-there r h =
      let e : local_at v.row ch.stack r ≡ locals_at v.row ch.stack + 16 * r = omega arith in
      ap (λ (c : Cell). has c.mask ENUM) (ap (cell_at ws) e ∙ sym (cells_at-get_d ws (locals_at v.row ch.stack) ch.locals r no_cell h))

  -- what is no local is no enum
  pub may_none : (r : ℕ) → ch.locals ≤ r → false ≡ may_be ws ch v r
  unfolding no_cell made
  may_none r h =
      ap (λ (c : Cell). has c.mask ENUM)
      (sym (get_or-eq_default (locals_of ws ch v) no_cell {n = r} (omega (arith, cells_at-length ws (locals_at v.row ch.stack) ch.locals))))

  -- ---- what passes to `to`, by the code's narrowing
  module _ (l : Leaving) (to : ℕ) where
    passes-by : (n : Option ℕ) → receiver n ≡ narrowed_in ws v to
        → passes ws ch v l to ≡ on_way to (along_in ws ch v l (receiver n)) []
    unfolding passes
    passes-by n e = rw e

    pub cut-passes : (n : Option ℕ) → receiver n ≡ narrowed_in ws v to
        → cut_in ws ch v n ≡ true → passes ws ch v l to ≡ []
    unfolding along_in on_way
    cut-passes None e c = let z : ◌≡◌ {A = ℕ} 0 1 = cc in absurd (omega arith)
    cut-passes (Some r) e c =
        passes-by (Some r) e
        ∙ ap (λ (b : Bool). on_way to (cond b (some (leaves_with ws ch v l r)) none) []) (not-true (may_be ws ch v r) c)

    pub on-passes : (n : Option ℕ) → receiver n ≡ narrowed_in ws v to
        → cut_in ws ch v n ≡ false → passes ws ch v l to ≡ (to, leaves_with ws ch v l (local_on n)) ∷ []
    unfolding along_in on_way
    on-passes None e c = passes-by None e
    on-passes (Some r) e c =
        passes-by (Some r) e
        ∙ ap (λ (b : Bool). on_way to (cond b (some (leaves_with ws ch v l r)) none) []) (not-false (may_be ws ch v r) c)

  -- the local that is narrowed is one
  pub on-local : (n : Option ℕ) → cut_in ws ch v n ≡ false → (local_on n ≡ no_local) ⊎ (local_on n < ch.locals)
  on-local None c = inl refl
  on-local (Some r) c = inr (go (ltb r ch.locals) refl)
    where
      go : (b : Bool) → ltb r ch.locals ≡ b → r < ch.locals
      go true e = ltb-true r ch.locals e
      go false e =
          let z = may_none r (ltb-false r ch.locals e) ∙ not-false (may_be ws ch v r) c in
          let y : ◌≡◌ {A = ℕ} 0 1 = cc in
          absurd (omega arith)
