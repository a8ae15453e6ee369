-- What one recorded state adds to a report is no more than the bound of its instruction.
use Prim.Native.Nat.{ℕ, suc, ◌+◌, ◌*◌, ◌-◌, ◌≤◌}
use native.Mathlib.Omega.{arith}
use mathlib.Core.Path.{◌≡◌, refl, sym, ap, ap₂, ◌∙◌}
use mathlib.Core.Bool.{Bool, true, false, cond, ◌||◌}
use mathlib.Core.Option.{Option}
use mathlib.Core.List.{List, [], ◌∷◌, ◌++◌, map}
use lib.Dec.{eqb, ltb}
use lib.ListN.{length, take, drop, length-append, length-map, length-take, length-drop}
use borrow.Author.Tests.{ltb-false, le-ltb}
use Rattle.le.specs.Le.{le16}
use Rattle.masks.proofs.Both.{or_left, or_right}
use Rattle.masks.specs.Mask.{has, same}
use Rattle.masks.specs.Names.{FALSE, TRUE}
use Rattle.cells.specs.declared.Cell.{Cell}
use Rattle.description.specs.declared.Instr.{Instr}
use Rattle.ops.specs.declared.Others.{Others}
use Rattle.ops.specs.declared.Others.TheVariants.{Unknowns, Words, Checked, Copies, Tested, Status}
use Rattle.ops.specs.Ops.{rule_of}
use Rattle.definition.specs.declared.Made.{Made}
use Rattle.definition.specs.Module.{Chunk}
use Rattle.definition.specs.State.{State, Facts}
use Rattle.definition.specs.Outputs.{Visit, Setting, instr, output, outputs, setting}
use Rattle.definition.specs.Wants.{guards}
use Rattle.definition.specs.Ways.{forget, kept, is_reset, reset, after, output_list}
use Rattle.definition.specs.Leaves.{Known, hopeless, always, visit_of, line_at}
use Rattle.definition.specs.Start.{last}
use Rattle.definition.specs.Report.{Record, Inspection, Branch, says_false, is_test, placed, record_from, record_of, inspection_of, branch_of, cells_bytes, outputs_bytes, guards_bytes, counts_bytes, field, record_bytes, inspection_bytes, branch_bytes, each}
use Rattle.form_laws.proofs.Each.{row-length}
use Rattle.rule_laws.proofs.Faults.{always-parts}
use Rattle.report_laws.proofs.Cells.{cells-long}
use Rattle.report_laws.proofs.Back.{ProperRecord, outputs-long, guards-long, record_in}
use Rattle.report_laws.proofs.Walk.{field-long}
use Rattle.report_bound.specs.Most.{least, most_guards, highest, inspection_most, unrecorded, record_most, instr_most}
use Rattle.report_bound.proofs.Few.{least-both, guards-few}

-- ---- the height after a visit
outputs-count : (m : Made) (n : ℕ) → length (output_list m n) ≡ n
unfolding output_list
outputs-count m n = row-length (output m) 0 n

kept-height : (v : Visit) (o : Option Setting) → length (kept v (outputs v) o).stack ≡ length v.below + (instr v).given
unfolding kept
kept-height v o =
    length-append (map (forget o) v.below) (output_list (outputs v) (instr v).given)
    ∙ ap₂ ◌+◌ (length-map v.below (forget o)) (outputs-count (outputs v) (instr v).given)

height-after : (v : Visit) → length (after v).stack ≡ cond (is_reset v.rule.acts) (instr v).given (length v.below + (instr v).given)
unfolding after reset
height-after v = go (is_reset v.rule.acts)
  where
    go : (b : Bool) → length (cond b (reset v (outputs v)) (kept v (outputs v) (setting v v.rule.acts))).stack ≡ cond b (instr v).given (length v.below + (instr v).given)
    go true = outputs-count (outputs v) (instr v).given
    go false = kept-height v (setting v v.rule.acts)

-- of a recorded state: by the height before
pub height-then : (k : Known) (c : Chunk) (f : Facts) (i : ℕ) (s : State) → length (after (visit_of k c f i s)).stack
    ≡ cond (is_reset (rule_of (line_at c i).instr.op).acts) (line_at c i).instr.given (length s.stack - (line_at c i).instr.taken + (line_at c i).instr.given)
unfolding visit_of
height-then k c f i s =
    let n = length s.stack - (line_at c i).instr.taken in
    let e : length (take n s.stack) ≡ n = omega (arith, length-take n s.stack) in
    rw e at (height-after (visit_of k c f i s))

-- ---- numbers: h is the height, d the highest, t taken, g given
fits-height : (b : Bool) (h d t g : ℕ) → h ≤ d → t ≤ h → cond b g (h - t + g) ≤ d → (g ≤ d) × (h ≤ highest b d t g)
fits-height true h d t g l m k = (k, l)
fits-height false h d t g l m k = (omega arith, least-both h d (d + t - g) l (omega arith))

-- ---- the bytes of a record
record-long : (x : Record) → ProperRecord x
    → length (record_bytes x) ≡ 15 + 49 * (length x.stack + length x.locals) + 51 * length x.outputs + 4 * length x.guards
unfolding record_bytes counts_bytes le16
record-long x ok =
    let st = cells_bytes x.stack in
    let ls = cells_bytes x.locals in
    let os = outputs_bytes x.outputs in
    let gs = guards_bytes x.guards in
    omega (
      arith,
      field-long 19 (record_in x),
      length-append st (ls ++ (os ++ gs)),
      length-append ls (os ++ gs),
      length-append os gs,
      cells-long ok.stack,
      cells-long ok.locals,
      outputs-long ok.outputs,
      guards-long x.guards,
    )

placed-count : (n : ℕ) (cs : List Cell) → length (placed n cs) ≡ length cs
unfolding placed
placed-count n [] = refl
placed-count n (c ∷ cs) = ap suc (placed-count (suc n) cs)

-- ---- the bytes of an inspection and a branch
inspection-few : (c : Chunk) (i : ℕ) (s : State) → length (each inspection_bytes (inspection_of c i s)) ≤ inspection_most (rule_of (line_at c i).instr.op).others
unfolding inspection_of each inspection_bytes field le16 says_false
inspection-few c i s = go (rule_of (line_at c i).instr.op).others
  where
    told : Inspection
    told = record { chunk = c.number; instruction = i }

    shown : (b : Bool) → length (each inspection_bytes (cond b (told ∷ []) [])) ≤ 7
    shown true = omega arith
    shown false = omega arith

    go : (o : Others) → length (each inspection_bytes (cond (says_false o (last s.stack)) (told ∷ []) [])) ≤ inspection_most o
    go (Tested k) = shown (says_false (Tested k) (last s.stack))
    go Unknowns = omega arith
    go Words = omega arith
    go Checked = omega arith
    go Copies = omega arith
    go Status = omega arith

branch-few : (c : Chunk) (i : ℕ) (s : State) → length (each branch_bytes (branch_of c i s)) ≤ cond (is_test (rule_of (line_at c i).instr.op).exit) 8 0
unfolding branch_of each branch_bytes field le16
branch-few c i s = go (is_test (rule_of (line_at c i).instr.op).exit) (same (last s.stack).mask FALSE) (same (last s.stack).mask TRUE)
  where
    told : ℕ → Branch
    told n = record { chunk = c.number; instruction = i; value = n }

    go : (t a b : Bool) → length (each branch_bytes (cond t (cond a (told 0 ∷ []) (cond b (told 1 ∷ []) [])) [])) ≤ cond t 8 0
    go true true b = omega arith
    go true false true = omega arith
    go true false false = omega arith
    go false a b = omega arith

-- ---- all that a recorded state adds
unfoldable pub state_bytes : Known → Chunk → Facts → ℕ → State → ℕ
state_bytes k c f i s =
    length (each record_bytes (record_of k c f i s ∷ [])) + length (each inspection_bytes (inspection_of c i s)) + length (each branch_bytes (branch_of c i s))

module _ (k : Known) (c : Chunk) (f : Facts) (i : ℕ) (s : State) (low : length s.stack ≤ c.stack)
    (fits : always (visit_of k c f i s) ≡ 0) (height : length (after (visit_of k c f i s)).stack ≤ c.stack) where
  operands-there : (line_at c i).instr.taken ≤ length s.stack
  unfolding visit_of
  operands-there = ltb-false _ _ (or_left _ _ (always-parts (visit_of k c f i s) fits).0)

  hopeful : hopeless (rule_of (line_at c i).instr.op).asks (line_at c i).instr.a ≡ false
  unfolding visit_of
  hopeful = or_left _ _ (or_right (ltb (length s.stack) (line_at c i).instr.taken) _ (always-parts (visit_of k c f i s) fits).0)

  stack-fits : ((line_at c i).instr.given ≤ c.stack)
      × (length s.stack ≤ highest (is_reset (rule_of (line_at c i).instr.op).acts) c.stack (line_at c i).instr.taken (line_at c i).instr.given)
  stack-fits =
      let x = (line_at c i).instr in
      fits-height (is_reset (rule_of x.op).acts) (length s.stack) c.stack x.taken x.given low operands-there
      (rw (height-then k c f i s) at height)

  recordable : unrecorded c.stack (line_at c i).instr ≡ false
  unfolding unrecorded
  recordable = rw (le-ltb c.stack (line_at c i).instr.taken (omega (arith, operands-there)), le-ltb c.stack (line_at c i).instr.given stack-fits.0, hopeful)

  module _ (g : Facts) (ok : ProperRecord (record_of k c g i s)) (locals : length s.locals ≡ c.locals) (b : ℕ) (within : length s.stack ≤ b) where
    record-few : length (record_bytes (record_of k c g i s)) ≤ record_most c.locals c.stack b (eqb c.number k.code.entry) (line_at c i).instr
    unfolding record_most record_of record_from visit_of
    record-few =
        let x = (line_at c i).instr in
        let r = rule_of x.op in
        let h = length s.stack in
        let v = visit_of k c g i s in
        let e : length (drop (h - x.taken) s.stack) ≡ x.taken = omega (arith, length-drop (h - x.taken) s.stack, operands-there) in
        omega (
          arith,
          record-long (record_of k c g i s) ok,
          placed-count (length v.below) (output_list (outputs v) x.given),
          outputs-count (outputs v) x.given,
          guards-few v,
          ap (λ (n : ℕ). most_guards r.asks r.slots n (eqb c.number k.code.entry)) e,
          least-both h b (highest (is_reset r.acts) c.stack x.taken x.given) within stack-fits.1,
        )

    pub state-few : state_bytes k c g i s ≤ instr_most c.locals c.stack b (eqb c.number k.code.entry) (line_at c i).instr
    unfolding state_bytes instr_most each
    state-few =
        rw recordable
        (omega (arith, length-append (record_bytes (record_of k c g i s)) [], record-few, inspection-few c i s, branch-few c i s))
