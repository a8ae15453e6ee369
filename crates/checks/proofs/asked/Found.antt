-- What the code finds at a stack place, by what is asked for, is the definition's check there.
use Prim.Native.Nat.{ℕ, ◌+◌, ◌-◌, ◌<◌, ◌≤◌}
use native.Mathlib.Omega.{arith}
use mathlib.Core.Path.{◌≡◌, refl, sym, ap, ◌∙◌}
use mathlib.Core.List.{List}
use lib.ListN.{length}
use Rattle.masks.specs.declared.Mask.{Mask}
use Rattle.masks.specs.Mask.{kind}
use Rattle.description.specs.declared.Instr.{Instr}
use Rattle.ops.specs.declared.Rule.{Rule}
use Rattle.words.specs.Layout.{cell_at}
use Rattle.definition.specs.declared.Ask.{Ask}
use Rattle.definition.specs.declared.Ask.TheVariants.{Nothing, First, Both, Every, Below, Writes, WritesIndexed, Never}
use Rattle.definition.specs.declared.Want.{Want}
use Rattle.definition.specs.declared.Check.{Check}
use Rattle.definition.specs.declared.Check.TheVariants.{Fine, Unproven}
use Rattle.definition.specs.Module.{module_of}
use Rattle.definition.specs.Data.{slots_from}
use Rattle.definition.specs.Outputs.{instr}
use Rattle.definition.specs.Wants.{require, meet, at_index, write_check, operand_check}
use Rattle.layout.specs.Layout.{place_at}
use Rattle.visit.specs.declared.RowVisit.{RowVisit}
use Rattle.visit.specs.Held.{Looking, Standing, facts_in, visit_in}
use Rattle.layout.proofs.Read.{row_small}
use Rattle.visit.proofs.Visits.{below-long, looking-standing}
use Rattle.visit.proofs.operands.Parts.{code_is, facts-are, ins-is, rule-is}
use Rattle.checks.specs.asked.Proving.{places_by, found_by, found_in}
use Rattle.checks.proofs.asked.Checked.{at_place}

-- a place that is asked about is on the stack
pub place-low : (ws : List ℕ) (v : RowVisit) (a : Ask) (p : ℕ) → Standing ws v → p < (places_by v a).end → p < v.height
unfolding places_by
place-low ws v Below p x h = omega (arith, x.start)
place-low ws v Nothing p x h = h
place-low ws v First p x h = h
place-low ws v Both p x h = h
place-low ws v Every p x h = h
place-low ws v Writes p x h = h
place-low ws v WritesIndexed p x h = h
place-low ws v Never p x h = h

-- its cell is in the workspace, at a small address
pub place-fits : (s ws : List ℕ) (v : RowVisit) → Looking s ws v → (a : Ask) (p : ℕ) → p < (places_by v a).end
    → (place_at v.row p < length ws) × (place_at v.row p < 4294967296)
place-fits s ws v x a p h =
    let z = looking-standing s ws v x in
    let l = place-low ws v a p z h in
    (omega (arith, z.room, l), omega (arith, l, x.row, x.low, row_small s ws x.indexed v.chunk v.at x.chunk x.at))

module _ (s ws : List ℕ) (v : RowVisit) (x : Looking s ws v) (w : Want) (p : ℕ) (low : (places_by v w.ask).from ≤ p) (m : Mask) (q : m ≡ (cell_at ws (place_at v.row p)).mask) where
  found-by : (a : Ask) → w.ask ≡ a → found_by (visit_in s ws v) w a p m ≡ found_in s ws v w p
  unfolding found_in
  found-by a e = ap (found_by (visit_in s ws v) w a p) q ∙ ap (λ (b : Ask). found_by (visit_in s ws v) w b p (cell_at ws (place_at v.row p)).mask) (sym e)

  -- the first operand, and the second
  at_first : v.start ≤ p → (c : Check) → at_index p v.start c ≡ at_index (p - length (visit_in s ws v).below) 0 c
  at_first h c =
      let z : v.start ≡ v.start + 0 = omega arith in
      ap (λ (k : ℕ). at_index p k c) z ∙ at_place p v.start 0 c h ∙ ap (λ (k : ℕ). at_index (p - k) 0 c) (sym (below-long s ws v x))

  at_second : v.start ≤ p → (c : Check) → at_index p (v.start + 1) c ≡ at_index (p - length (visit_in s ws v).below) 1 c
  at_second h c = at_place p v.start 1 c h ∙ ap (λ (k : ℕ). at_index (p - k) 1 c) (sym (below-long s ws v x))

  -- what is written
  abbrev written : Check
  written = write_check (module_of s) (facts_in s ws) m Fine (slots_from v.ins v.rule.slots)

  written_is : written ≡ write_check (visit_in s ws v).code (visit_in s ws v).facts m Fine (slots_from (instr (visit_in s ws v)) (visit_in s ws v).rule.slots)
  written_is =
      ap (λ (i : Instr). write_check (module_of s) (facts_in s ws) m Fine (slots_from i v.rule.slots)) (ins-is s ws v x)
      ∙ ap (λ (r : Rule). write_check (module_of s) (facts_in s ws) m Fine (slots_from (instr (visit_in s ws v)) r.slots)) (rule-is s ws v x)
      ∙ rw (code_is s ws v, facts-are s ws v) refl

  pub found_nothing : w.ask ≡ Nothing → Fine ≡ found_in s ws v w p
  unfolding found_by operand_check
  found_nothing e = found-by Nothing e

  pub found_first : w.ask ≡ First → at_index p v.start (require m w.first) ≡ found_in s ws v w p
  unfolding found_by operand_check places_by
  found_first e = at_first (rw e at low) _ ∙ found-by First e

  pub found-both : w.ask ≡ Both
      → meet (at_index p v.start (require m w.first)) (at_index p (v.start + 1) (require m w.second)) ≡ found_in s ws v w p
  unfolding found_by operand_check places_by
  found-both e = rw (at_first (rw e at low), at_second (rw e at low)) (found-by Both e)

  pub found-every : w.ask ≡ Every → require (kind m) w.first ≡ found_in s ws v w p
  unfolding found_by operand_check
  found-every e = found-by Every e

  pub found_below : w.ask ≡ Below → require m w.first ≡ found_in s ws v w p
  unfolding found_by
  found_below e = found-by Below e

  pub found-writes : w.ask ≡ Writes → at_index p v.start written ≡ found_in s ws v w p
  unfolding found_by operand_check places_by
  found-writes e =
      at_first (rw e at low) written ∙ ap (at_index (p - length (visit_in s ws v).below) 0) written_is ∙ found-by Writes e

  pub found-indexed : w.ask ≡ WritesIndexed
      → meet (at_index p v.start written) (at_index p (v.start + 1) (require m w.second)) ≡ found_in s ws v w p
  unfolding found_by operand_check places_by
  found-indexed e =
      let h : v.start ≤ p = rw e at low in
      ap (λ (c : Check). meet c (at_index p (v.start + 1) (require m w.second)))
      (at_first h written ∙ ap (at_index (p - length (visit_in s ws v).below) 0) written_is)
      ∙ ap (meet _) (at_second h (require m w.second)) ∙ found-by WritesIndexed e

  pub found-never : w.ask ≡ Never → Unproven ≡ found_in s ws v w p
  unfolding found_by operand_check
  found-never e = found-by Never e
