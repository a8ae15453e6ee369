-- The places that the code asks about, with what it finds there, are the definition's checks.
use Prim.Native.Nat.{ℕ, zero, suc, ◌+◌, ◌*◌, ◌-◌, ◌<◌, ◌≤◌}
use native.Mathlib.Omega.{arith}
use mathlib.Core.Path.{◌≡◌, refl, sym, ap, ◌∙◌}
use mathlib.Core.Bool.{Bool, true, false, cond, ◌&&◌, true≢false}
use mathlib.Core.List.{List, [], ◌∷◌}
use lib.Dec.{eqb}
use lib.ListN.{length, get_or}
use borrow.Author.Tests.{eq-eqb, ne_eqb, eqb-true, eqb-false}
use Rattle.masks.specs.declared.Mask.{Mask}
use Rattle.cells.specs.declared.Cell.{Cell}
use Rattle.ops.specs.declared.Makes.TheVariants.{Composite}
use Rattle.ops.specs.declared.Rule.{Rule}
use Rattle.words.specs.Layout.{cell_at}
use Rattle.words.specs.Rows.{cells_at}
use Rattle.words.proofs.RowLaws.{cells_at-get_d}
use Rattle.definition.specs.declared.Ask.{Ask}
use Rattle.definition.specs.declared.Ask.TheVariants.{Nothing, First, Both, Every, Below, Writes, WritesIndexed, Never}
use Rattle.definition.specs.declared.Want.{Want}
use Rattle.definition.specs.declared.Check.{Check}
use Rattle.definition.specs.declared.Check.TheVariants.{Fine, Unproven}
use Rattle.definition.specs.Module.{row}
use Rattle.definition.specs.Outputs.{Visit, instr, no_cell, constructed_extent}
use Rattle.definition.specs.Wants.{require, at_index, operand_check, operand_checks, Asked, returned, checks_by, checks, is_proven, all_proven, guard_of, guards_in, guards, is_unknown, unpacked, unfit}
use Rattle.layout.specs.Layout.{place_at, stack_at}
use Rattle.visit.specs.declared.RowVisit.{RowVisit}
use Rattle.visit.specs.Held.{Looking, args_in, visit_in}
use Rattle.visit.proofs.Visits.{args_are, below-is, below-long}
use Rattle.visit.proofs.operands.Parts.{rule-is}
use Rattle.slots.proofs.Walk.{row-turn, row-end}
use Rattle.checks.specs.asked.Proving.{is_never, places_by, found_by, found_in, asked_from, asked_in, Asking}
use Rattle.checks.proofs.asked.Fine.{below-some}

-- ---- one place more
module _ (s ws : List ℕ) (v : RowVisit) (w : Want) (p e : ℕ) where
  pub asked-turn : p < e → asked_from s ws v w p e ≡ record { place = p; found = found_in s ws v w p } ∷ asked_from s ws v w (p + 1) e
  unfolding asked_from
  asked-turn h = row-turn (λ (k : ℕ). record { place = k; found = found_in s ws v w k }) p e h

  pub asked-end : e ≤ p → asked_from s ws v w p e ≡ []
  unfolding asked_from
  asked-end h = row-end (λ (k : ℕ). record { place = k; found = found_in s ws v w k }) p e h

  pub proven-turn : p < e → all_proven (asked_from s ws v w p e) ≡ is_proven (found_in s ws v w p) && all_proven (asked_from s ws v w (p + 1) e)
  unfolding all_proven
  proven-turn h = ap all_proven (asked-turn h)

  pub proven-end : e ≤ p → all_proven (asked_from s ws v w p e) ≡ true
  unfolding all_proven
  proven-end h = ap all_proven (asked-end h)

-- ---- a place and the index of its operand
same_test : (p start n : ℕ) → start ≤ p → eqb p (start + n) ≡ eqb (p - start) n
same_test p start n h = go (eqb (p - start) n) refl
  where
    go : (b : Bool) → eqb (p - start) n ≡ b → eqb p (start + n) ≡ b
    go true e = eq-eqb p (start + n) (omega (arith, eqb-true (p - start) n e))
    go false e = ne_eqb p (start + n) (λ q. eqb-false (p - start) n e (omega arith))

pub at_place : (p start n : ℕ) (c : Check) → start ≤ p → at_index p (start + n) c ≡ at_index (p - start) n c
unfolding at_index
at_place p start n c h = ap (λ (b : Bool). cond b c Fine) (same_test p start n h)

module _ (s ws : List ℕ) (v : RowVisit) (x : Looking s ws v) (w : Want) where
  -- what is asked about, by the ask a
  abbrev asked : (Ask → ℕ → Mask → Check) → Ask → ℕ → Asked
  asked f a p = record { place = p; found = f a p (cell_at ws (place_at v.row p)).mask }

  abbrev operands_by : Ask → ℕ → Mask → Check
  operands_by a p m = operand_check (visit_in s ws v) w a (p - length (visit_in s ws v).below) m

  operands-asked : (n k : ℕ) → operand_checks (visit_in s ws v) w k (cells_at ws (place_at v.row (v.start + k)) n)
      ≡ row (asked operands_by w.ask) (v.start + k) n
  unfolding operand_checks cells_at row
  operands-asked zero k = refl
  operands-asked (suc n) k =
      let u = visit_in s ws v in
      let at = place_at v.row (v.start + k) in
      let l : length u.below ≡ v.start = below-long s ws v x in
      let i : k ≡ (v.start + k) - length u.below = omega arith in
      let place : length u.below + k ≡ v.start + k = omega arith in
      let found = ap (λ (j : ℕ). operand_check u w w.ask j (cell_at ws at).mask) i in
      let next : at + 16 ≡ place_at v.row (v.start + suc k) = omega arith in
      let step : v.start + suc k ≡ suc (v.start + k) = omega arith in
      ap (λ (y : Asked). y ∷ operand_checks u w (suc k) (cells_at ws (at + 16) n)) (λ j. record { place = place j; found = found j })
      ∙ ap (λ (ys : List Asked). asked operands_by w.ask (v.start + k) ∷ ys)
      (ap (λ (b : ℕ). operand_checks u w (suc k) (cells_at ws b n)) next ∙ operands-asked n (suc k) ∙ ap (λ (b : ℕ). row (asked operands_by w.ask) b n) step)

  all-operands : operand_checks (visit_in s ws v) w 0 (visit_in s ws v).args ≡ row (asked operands_by w.ask) v.start (v.height - v.start)
  unfolding args_in
  all-operands =
      let z : v.start ≡ v.start + 0 = omega arith in
      ap (operand_checks (visit_in s ws v) w 0) (args_are s ws v x)
      ∙ ap (λ (b : ℕ). operand_checks (visit_in s ws v) w 0 (cells_at ws (place_at v.row b) (v.height - v.start))) z
      ∙ operands-asked (v.height - v.start) 0
      ∙ ap (λ (b : ℕ). row (asked operands_by w.ask) b (v.height - v.start)) (sym z)

  by-operands : (a : Ask) → w.ask ≡ a → operand_checks (visit_in s ws v) w 0 (visit_in s ws v).args ≡ row (asked operands_by a) v.start (v.height - v.start)
  by-operands a e = all-operands ∙ ap (λ (b : Ask). row (asked operands_by b) v.start (v.height - v.start)) e

  -- the value below the operands
  returned-there : 0 < v.start → returned (visit_in s ws v) ≡ cell_at ws (place_at v.row (v.start - 1))
  returned-there h =
      let u = visit_in s ws v in
      ap (λ (n : ℕ). get_or u.below (n - 1) no_cell) (below-long s ws v x)
      ∙ ap (λ (l : List Cell). get_or l (v.start - 1) no_cell) (below-is s ws v x)
      ∙ cells_at-get_d ws (stack_at v.row) v.start (v.start - 1) no_cell (omega arith)

  abbrev value_by : Ask → ℕ → Mask → Check
  value_by a p m = require m w.first

  by_value : 0 < v.start → checks_by (visit_in s ws v) w Below ≡ row (asked value_by Below) (v.start - 1) (v.start - (v.start - 1))
  unfolding checks_by row
  by_value h =
      let u = visit_in s ws v in
      let n : v.start - (v.start - 1) ≡ suc 0 = omega arith in
      let place : length u.below - 1 ≡ v.start - 1 = ap (λ (k : ℕ). k - 1) (below-long s ws v x) in
      let found = ap (λ (c : Cell). require c.mask w.first) (returned-there h) in
      ap (λ (y : Asked). y ∷ []) (λ j. record { place = place j; found = found j }) ∙ ap (row (asked value_by Below) (v.start - 1)) (sym n)

  abbrev asked_by : Ask → List Asked
  asked_by a = row (asked (found_by (visit_in s ws v) w) a) (places_by v a).from ((places_by v a).end - (places_by v a).from)

  checks-by-case : (a : Ask) → w.ask ≡ a → is_never a ≡ false → (a ≡ Below → 0 < v.start) → checks_by (visit_in s ws v) w a ≡ asked_by a
  unfolding checks_by found_by places_by is_never
  checks-by-case Nothing e n b = by-operands Nothing e
  checks-by-case First e n b = by-operands First e
  checks-by-case Both e n b = by-operands Both e
  checks-by-case Every e n b = by-operands Every e
  checks-by-case Below e n b = by_value (b refl)
  checks-by-case Writes e n b = by-operands Writes e
  checks-by-case WritesIndexed e n b = by-operands WritesIndexed e
  checks-by-case Never e n b = absurd (true≢false n)

-- ---- a flat construction
pub unpacked-flat : (v : Visit) → (instr v).a ≡ 0 → unpacked v Composite ≡ is_unknown (constructed_extent v).body
unfolding unpacked
unpacked-flat v h = rw (eq-eqb (instr v).a 0 h) refl

pub unpacked-boxed : (v : Visit) → ((instr v).a ≡ 0 → ⊥) → unpacked v Composite ≡ false
unfolding unpacked
unpacked-boxed v h = rw (ne_eqb (instr v).a 0 h) refl

never-is : (b : Ask) → is_never b ≡ true → b ≡ Never
unfolding is_never
never-is Never h = refl
never-is Nothing h = absurd (true≢false (sym h))
never-is First h = absurd (true≢false (sym h))
never-is Both h = absurd (true≢false (sym h))
never-is Every h = absurd (true≢false (sym h))
never-is Below h = absurd (true≢false (sym h))
never-is Writes h = absurd (true≢false (sym h))
never-is WritesIndexed h = absurd (true≢false (sym h))

-- ---- the definition's checks
module _ (s ws : List ℕ) (v : RowVisit) (w : Want) (a : Asking s ws v w) where
  checks-want : checks (visit_in s ws v) ≡ checks_by (visit_in s ws v) w w.ask
  unfolding checks
  checks-want = ap (λ (u : Want). checks_by (visit_in s ws v) u u.ask) (sym a.want)

  -- unless nothing proves it, the checks are what is found at the places asked about
  pub checks-are : is_never w.ask ≡ false → checks (visit_in s ws v) ≡ asked_in s ws v w
  unfolding asked_in asked_from found_in
  checks-are n = checks-want ∙ checks-by-case s ws v a.looking w w.ask refl n (below-some s ws v w a)

  -- the guards of what nothing proves are none
  none-guarded : (n p : ℕ) → guards_in (row (asked s ws v a.looking w (found_by (visit_in s ws v) w) Never) p n) ≡ []
  unfolding guards_in guard_of found_by operand_check row
  none-guarded zero p = refl
  none-guarded (suc n) p = none-guarded n (suc p)

  all-never : w.ask ≡ Never → checks (visit_in s ws v) ≡ record { place = 0; found = Unproven } ∷ []
  unfolding checks_by
  all-never e = checks-want ∙ ap (checks_by (visit_in s ws v) w) e

  pub guards-are : guards (visit_in s ws v) ≡ guards_in (asked_in s ws v w)
  unfolding guards guards_in guard_of asked_in asked_from found_in
  guards-are = go (is_never w.ask) refl
    where
      go : (b : Bool) → is_never w.ask ≡ b → guards (visit_in s ws v) ≡ guards_in (asked_in s ws v w)
      go false n = ap guards_in (checks-are n)
      go true n =
          let from = (places_by v w.ask).from in
          let more = (places_by v w.ask).end - from in
          let e = never-is w.ask n in
          ap guards_in (all-never e)
          ∙ sym (ap (λ (c : Ask). guards_in (row (asked s ws v a.looking w (found_by (visit_in s ws v) w) c) from more)) e ∙ none-guarded more from)

  -- ---- what validation refuses the visit for
  pub unfit-never : is_never w.ask ≡ true → 13 ≡ unfit (visit_in s ws v)
  unfolding unfit all_proven is_proven
  unfit-never n = rw (all-never (never-is w.ask n)) refl

  unfit-by : is_never w.ask ≡ false
      → unfit (visit_in s ws v) ≡ cond (all_proven (asked_in s ws v w)) (cond (unpacked (visit_in s ws v) v.rule.makes) 15 0) 13
  unfolding unfit
  unfit-by n =
      ap (λ (l : List Asked). cond (all_proven l) (cond (unpacked (visit_in s ws v) (visit_in s ws v).rule.makes) 15 0) 13) (checks-are n)
      ∙ ap (λ (r : Rule). cond (all_proven (asked_in s ws v w)) (cond (unpacked (visit_in s ws v) r.makes) 15 0) 13) (sym (rule-is s ws v a.looking))

  pub unfit-unproven : is_never w.ask ≡ false → all_proven (asked_in s ws v w) ≡ false → 13 ≡ unfit (visit_in s ws v)
  unfit-unproven n h = sym (unfit-by n ∙ ap (λ (b : Bool). cond b (cond (unpacked (visit_in s ws v) v.rule.makes) 15 0) 13) h)

  pub unfit-packed : is_never w.ask ≡ false → all_proven (asked_in s ws v w) ≡ true → (b : Bool)
      → unpacked (visit_in s ws v) v.rule.makes ≡ b → cond b 15 0 ≡ unfit (visit_in s ws v)
  unfit-packed n h b u =
      sym (unfit-by n ∙ ap (λ (d : Bool). cond d (cond (unpacked (visit_in s ws v) v.rule.makes) 15 0) 13) h ∙ ap (λ (d : Bool). cond d 15 0) u)
