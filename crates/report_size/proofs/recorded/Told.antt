-- What the words of a row say is what its state says.
use Prim.Native.Nat.{ℕ, zero, suc, ◌+◌, ◌*◌, ◌-◌, ◌<◌, ◌≤◌}
use native.Mathlib.Omega.{arith}
use mathlib.Core.Path.{◌≡◌, refl, sym, ap, ◌∙◌}
use mathlib.Core.Bool.{Bool, true, false, not, ◌&&◌, ◌||◌}
use mathlib.Core.List.{List, []}
use lib.ListN.{get_or}
use Rattle.masks.specs.declared.Mask.{Mask}
use Rattle.masks.specs.Mask.{has, same}
use Rattle.masks.specs.Names.{FALSE, TRUE}
use Rattle.words.specs.Layout.{cell_at}
use Rattle.words.specs.Rows.{cells_at}
use Rattle.definition.specs.Start.{last}
use Rattle.layout.specs.Layout.{place_at, stack_at}
use Rattle.report_size.proofs.recorded.Table.{inspector, tester, inspected, tests_by, says-false-by}
use Rattle.report_size.specs.recorded.Told.{decided_in, false_in, recorded, top_in}

-- ---- the top of the stack
last-cell : (ws : List ℕ) (p n : ℕ) → last (cells_at ws p (suc n)) ≡ cell_at ws (p + 16 * n)
unfolding last cells_at
last-cell ws p zero = let z : p ≡ p + 16 * 0 = omega arith in ap (cell_at ws) z
last-cell ws p (suc n) =
    let z : p + 16 + 16 * n ≡ p + 16 * suc n = omega arith in
    last-cell ws (p + 16) n ∙ ap (cell_at ws) z

pub top-is : (ws : List ℕ) (row h : ℕ) → h ≡ get_or ws row 0 → 2 ≤ h → cell_at ws (place_at row (h - 2)) ≡ top_in ws row
unfolding top_in
top-is ws row h e l =
    let z : get_or ws row 0 - 1 ≡ suc (h - 2) = omega arith in
    sym (ap (λ (n : ℕ). last (cells_at ws (stack_at row) n)) z ∙ last-cell ws (stack_at row) (h - 2))

pub top-none : (ws : List ℕ) (row h : ℕ) → h ≡ get_or ws row 0 → h < 2 → last [] ≡ top_in ws row
unfolding top_in cells_at
top-none ws row h e l =
    let z : get_or ws row 0 - 1 ≡ 0 = omega arith in
    sym (ap (λ (n : ℕ). last (cells_at ws (stack_at row) n)) z)

-- ---- as the code finds it: by the number of the instruction
and_then : (a b c : Bool) → ((a && b) && c) ≡ (a && (b && c))
and_then true b c = refl
and_then false b c = refl

module _ (ws : List ℕ) (row op : ℕ) (r : Bool) (m : Mask) (e : r ≡ recorded ws row) (q : m ≡ (top_in ws row).mask) where
  pub false-by : (k : Mask) (h : Bool) → k ≡ inspected op → h ≡ has m k → ((r && inspector op) && not h) ≡ false_in ws row op
  unfolding false_in
  false-by k h i j =
      rw (e, j, q, i) (and_then (recorded ws row) (inspector op) _ ∙ ap (λ (b : Bool). recorded ws row && b) (sym (says-false-by op (top_in ws row))))

  pub decided-by : (a b : Bool) → a ≡ same m FALSE → b ≡ same m TRUE → ((r && tester op) && (a || b)) ≡ decided_in ws row op
  unfolding decided_in
  decided-by a b i j =
      rw (e, i, j, q) (and_then (recorded ws row) (tester op) _
      ∙ ap (λ (t : Bool). recorded ws row && (t && (same (top_in ws row).mask FALSE || same (top_in ws row).mask TRUE))) (sym (tests_by op)))
