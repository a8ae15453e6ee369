-- What a visit that the code looks at says of the definition's visit: its operands, what is below them, its locals.
use Prim.Native.Nat.{ℕ, ◌+◌, ◌*◌, ◌-◌, ◌≤◌}
use native.Mathlib.Omega.{arith}
use mathlib.Core.Path.{◌≡◌, refl, sym, ap, ◌∙◌}
use mathlib.Core.List.{List}
use lib.ListN.{length, take, drop}
use Rattle.words.specs.Rows.{cells_at}
use Rattle.words.proofs.RowLaws.{cells_at-length, cells_at-take, cells_at-drop}
use Rattle.definition.specs.Module.{module_of}
use Rattle.definition.specs.Leaves.{visit_of, line_at}
use Rattle.form_laws.specs.Good.{chunk_no, row_cells}
use Rattle.layout.proofs.Apart.{row_in}
use Rattle.visit.specs.declared.RowVisit.{RowVisit}
use Rattle.visit.specs.Held.{Looking, Standing, args_in, state_of, visit_in}
use Rattle.layout.specs.Layout.{stack_at}

module _ (s ws : List ℕ) (v : RowVisit) where
  pub at-is : (visit_in s ws v).at ≡ v.at
  unfolding visit_in visit_of
  at-is = refl

  pub height-is : (visit_in s ws v).height ≡ v.height
  unfolding visit_in visit_of state_of
  height-is = cells_at-length ws (stack_at v.row) v.height

module _ (s ws : List ℕ) (v : RowVisit) (x : Looking s ws v) where
  -- the row is there
  pub row-there : v.row + 16 * row_cells (chunk_no (module_of s) v.chunk) ≤ length ws
  row-there = omega (arith, x.row, row_in (module_of s) v.chunk v.at x.chunk x.at, x.indexed.room)

  pub looking-standing : Standing ws v
  looking-standing =
      record {
        room = omega (arith, row-there, x.low);
        start = omega (arith, x.start);
        low = omega (arith, x.low, (x.indexed.good.each_chunk v.chunk x.chunk).stack);
      }

  -- the operands
  pub taken-off : length (state_of s ws v).stack - (line_at (chunk_no (module_of s) v.chunk) v.at).instr.taken ≡ v.start
  unfolding state_of
  taken-off = rw (cells_at-length ws (stack_at v.row) v.height) (rw (sym x.ins) (sym x.start))

  pub args_are : (visit_in s ws v).args ≡ args_in ws v
  unfolding visit_in visit_of args_in state_of
  args_are =
      ap (λ (k : ℕ). drop k (cells_at ws (stack_at v.row) v.height)) taken-off
      ∙ cells_at-drop ws (stack_at v.row) v.height v.start (omega (arith, x.start))

  -- what is below them
  pub below-is : (visit_in s ws v).below ≡ cells_at ws (stack_at v.row) v.start
  unfolding visit_in visit_of state_of
  below-is =
      ap (λ (k : ℕ). take k (cells_at ws (stack_at v.row) v.height)) taken-off
      ∙ cells_at-take ws (stack_at v.row) v.height v.start (omega (arith, x.start))

  pub below-long : length (visit_in s ws v).below ≡ v.start
  below-long = ap length below-is ∙ cells_at-length ws (stack_at v.row) v.start
