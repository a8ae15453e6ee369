-- What the definition adds beside the record of an instruction: the inspection that says false, the test that is known.
use Prim.Native.Nat.{ℕ, zero, suc, ◌-◌}
use native.Mathlib.Omega.{arith}
use mathlib.Core.Path.{◌≡◌, refl, sym, ap, ◌∙◌}
use mathlib.Core.Bool.{Bool, true, false, not, cond, ◌&&◌, ◌||◌}
use mathlib.Core.List.{List, [], ◌∷◌, append-nil}
use lib.Dec.{eqb}
use lib.ListN.{get_or}
use borrow.Author.Tests.{eqb-true, ne_eqb}
use Rattle.masks.specs.declared.Mask.{Mask}
use Rattle.masks.specs.Mask.{same}
use Rattle.masks.specs.Names.{FALSE, TRUE}
use Rattle.cells.specs.declared.Cell.{Cell}
use Rattle.ops.specs.Ops.{rule_of}
use Rattle.words.specs.Rows.{cells_at}
use Rattle.definition.specs.Module.{Chunk, module_of}
use Rattle.definition.specs.Leaves.{line_at}
use Rattle.definition.specs.Start.{last}
use Rattle.definition.specs.Report.{Branch, says_false, is_test, inspection_of, branch_of, from_state, inspection_bytes, branch_bytes, each}
use Rattle.form_laws.specs.Good.{chunk_no}
use Rattle.layout.specs.Layout.{row_at, stack_at}
use Rattle.row_join.specs.joining.Leave.{state_by, state_in}
use Rattle.report_size.specs.recorded.Told.{top_in, false_in, decided_in, way_in}
use Rattle.report_size.specs.Adds.{added, inspection_at, branch_at}

each-one : {A : Type 0} (f : A → List ℕ) (b : Bool) (x : A) → each f (cond b (x ∷ []) []) ≡ cond b (f x) []
unfolding each
each-one f true x = append-nil (f x)
each-one f false x = refl

module _ (s ws : List ℕ) (n i : ℕ) (number : (chunk_no (module_of s) n).number ≡ n) where
  abbrev row : ℕ
  row = row_at (module_of s) n i

  abbrev op : ℕ
  op = (line_at (chunk_no (module_of s) n) i).instr.op

  abbrev c : Chunk
  c = chunk_no (module_of s) n

  -- one less than a height's word
  less : (h : ℕ) → last (cells_at ws (stack_at row) h) ≡ last (cells_at ws (stack_at row) (suc h - 1))
  less h = let z : h ≡ suc h - 1 = omega arith in ap (λ (k : ℕ). last (cells_at ws (stack_at row) k)) z

  pub inspection-told : inspection_at s ws n i ≡ cond (false_in ws row op) (inspection_bytes (record { chunk = n; instruction = i })) []
  unfolding inspection_at added state_in state_by false_in top_in from_state inspection_of line_at each
  inspection-told = go (get_or ws row 0)
    where
      go : (w : ℕ) → each inspection_bytes (from_state (inspection_of c) i (state_by ws row c.stack c.locals w))
          ≡ cond (not (eqb w 0) && says_false (rule_of op).others (last (cells_at ws (stack_at row) (w - 1)))) (inspection_bytes (record { chunk = n; instruction = i })) []
      go zero = refl
      go (suc h) =
          each-one inspection_bytes (says_false (rule_of op).others (last (cells_at ws (stack_at row) h))) (record { chunk = c.number; instruction = i })
          ∙ ap (λ (k : ℕ). cond (says_false (rule_of op).others (last (cells_at ws (stack_at row) h))) (inspection_bytes (record { chunk = k; instruction = i })) []) number
          ∙ ap (λ (x : Cell). cond (says_false (rule_of op).others x) (inspection_bytes (record { chunk = n; instruction = i })) []) (less h)
          ∙ ap (λ (b : Bool). cond (not b && says_false (rule_of op).others (last (cells_at ws (stack_at row) (suc h - 1)))) (inspection_bytes (record { chunk = n; instruction = i })) [])
          (sym (ne_eqb (suc h) 0 (λ e. omega arith)))

  abbrev branch_as : ℕ → Branch
  branch_as v = record { chunk = n; instruction = i; value = v }

  -- FALSE is not TRUE
  either : (m : Mask) → each branch_bytes (cond (same m FALSE) (branch_as 0 ∷ []) (cond (same m TRUE) (branch_as 1 ∷ []) []))
      ≡ cond (same m FALSE || same m TRUE) (branch_bytes (branch_as (cond (same m TRUE) 1 0))) []
  unfolding each
  either m = go (same m FALSE) (same m TRUE) refl refl
    where
      go : (a b : Bool) → same m FALSE ≡ a → same m TRUE ≡ b
          → each branch_bytes (cond a (branch_as 0 ∷ []) (cond b (branch_as 1 ∷ []) [])) ≡ cond (a || b) (branch_bytes (branch_as (cond b 1 0))) []
      go true true p q = absurd (omega (arith, eqb-true m.bits FALSE.bits p, eqb-true m.bits TRUE.bits q))
      go true false p q = append-nil _
      go false true p q = append-nil _
      go false false p q = refl

  pub branch-told : branch_at s ws n i ≡ cond (decided_in ws row op) (branch_bytes (branch_as (way_in ws row))) []
  unfolding branch_at added state_in state_by decided_in way_in top_in from_state branch_of line_at each
  branch-told = go (get_or ws row 0)
    where
      decided : (b : Bool) (m : Mask) → each branch_bytes (cond b (cond (same m FALSE) (branch_as 0 ∷ []) (cond (same m TRUE) (branch_as 1 ∷ []) [])) [])
          ≡ cond (b && (same m FALSE || same m TRUE)) (branch_bytes (branch_as (cond (same m TRUE) 1 0))) []
      decided true m = either m
      decided false m = refl

      go : (w : ℕ) → each branch_bytes (from_state (branch_of c) i (state_by ws row c.stack c.locals w))
          ≡ cond
          (not (eqb w 0) && (is_test (rule_of op).exit && (same (last (cells_at ws (stack_at row) (w - 1))).mask FALSE || same (last (cells_at ws (stack_at row) (w - 1))).mask TRUE)))
          (branch_bytes (branch_as (cond (same (last (cells_at ws (stack_at row) (w - 1))).mask TRUE) 1 0))) []
      go zero = refl
      go (suc h) = rw (ne_eqb (suc h) 0 (λ e. omega arith), number, ← less h) (decided (is_test (rule_of op).exit) (last (cells_at ws (stack_at row) h)).mask)
