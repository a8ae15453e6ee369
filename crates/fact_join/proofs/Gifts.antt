-- What the definition's visit gives, in the terms of the code; and what it needs for that is there.
use Prim.Native.Nat.{ℕ, ◌+◌, ◌-◌, ◌<◌, ◌≤◌}
use native.Mathlib.Omega.{arith}
use mathlib.Core.Path.{◌≡◌, refl, sym, ap, ap₂, ◌∙◌}
use mathlib.Core.Bool.{Bool, true, false, cond, ◌||◌}
use mathlib.Core.List.{List, map}
use mathlib.Core.Logic.{inl, inr}
use lib.Dec.{eqb, ltb}
use lib.ListN.{length, get_or}
use borrow.Author.Tests.{ltb-false, eqb-false}
use Rattle.cells.specs.declared.Cell.{Cell}
use Rattle.cells.specs.Cell.{bare_cell}
use Rattle.description.specs.declared.Instr.{Instr}
use Rattle.ops.specs.declared.Acts.{Acts}
use Rattle.ops.specs.declared.Acts.TheVariants.{Calls, Returns, Stores}
use Rattle.ops.specs.declared.Data.{Data}
use Rattle.ops.specs.declared.Data.TheVariants.{NoSlot, OneSlot, ManySlots}
use Rattle.ops.specs.declared.Rule.{Rule}
use Rattle.ops.specs.Ops.{rule_of}
use Rattle.words.specs.Layout.{cell_at}
use Rattle.words.specs.Rows.{cells_at}
use Rattle.words.proofs.RowLaws.{cells_at-get_d}
use Rattle.definition.specs.Module.{Module, module_of}
use Rattle.definition.specs.State.{Gift, nothing, arguments, returned, written}
use Rattle.definition.specs.Form.{callee}
use Rattle.definition.specs.Data.{slot_count, slots_from, data_fault}
use Rattle.definition.specs.Outputs.{Visit, no_cell, instr}
use Rattle.definition.specs.Wants.{is_entry}
use Rattle.definition.specs.Wants.{returned as value_below}
use Rattle.definition.specs.Leaves.{visit_of, hopeless, is_return, nothing_below, always, gives_by, gives, absorb, line_at}
use Rattle.form_laws.specs.Good.{chunk_no}
use Rattle.layout.specs.Layout.{input_at, place_at, stack_at}
use Rattle.layout.proofs.Apart.{by_order, area-apart, row_before, row-begins, rows-begin, rows-in-area, result-next, result-in, inputs-begin}
use Rattle.row_join.specs.places.Arrive.{PlacesApart}
use Rattle.visit.specs.declared.RowVisit.{RowVisit}
use Rattle.visit.specs.Held.{Looking, args_in, known_in, visit_in, live_in}
use Rattle.visit.proofs.operands.Parts.{code_is, ins-is, rule-is}
use Rattle.visit.proofs.Visits.{height-is, args_are, below-is, below-long, row-there}
use Rattle.run_state.specs.Course.{FactsOnly}
use Rattle.run_state.proofs.Stays.{inputs_end}
use Rattle.rule_laws.proofs.Told.{call-is, call-callee}
use Rattle.fact_join.proofs.Frames.{facts-refl}
use Rattle.fact_join.specs.Taken.{FactsAfter}
use Rattle.fact_join.proofs.Cells.{signed}
use Rattle.ops.specs.Numbers.{op_call}

-- ---- only `Call` gives arguments
-- ---- a visit that is never refused
no-fault : (a b c : Bool) (n : ℕ) → ◌≡◌ {A = ℕ} (cond (a || (b || c)) 13 n) 0 → (a ≡ false) × (c ≡ false) × (n ≡ 0)
no-fault true b c n h = absurd (omega arith)
no-fault false true c n h = absurd (omega arith)
no-fault false false true n h = absurd (omega arith)
no-fault false false false n h = (refl, refl, h)

within-slots : (a : Bool) (n : ℕ) → ◌≡◌ {A = ℕ} (cond a 13 n) 0 → a ≡ false
within-slots true n h = absurd (omega arith)
within-slots false n h = refl

-- the slots that it names are there
pub slot-there : (m : Module) (i : Instr) (d : Data) → data_fault m i d ≡ 0 → (k : ℕ) → i.a ≤ k → k < i.a + slot_count i d → k < m.slots
unfolding data_fault slot_count
slot-there m i NoSlot h k a b = absurd (omega arith)
slot-there m i OneSlot h k a b = omega (arith, ltb-false m.slots (i.a + 1) (within-slots (ltb m.slots (i.a + 1)) _ h))
slot-there m i ManySlots h k a b = omega (arith, ltb-false m.slots (i.a + i.b) (within-slots (ltb m.slots (i.a + i.b)) _ h))

never-refused : (u : Visit) → always u ≡ 0
    → (ltb u.height (instr u).taken ≡ false) × (nothing_below u ≡ false) × (data_fault u.code (instr u) u.rule.slots ≡ 0)
unfolding always
never-refused u h = no-fault (ltb u.height (instr u).taken) (hopeless u.rule.asks (instr u).a) (nothing_below u) _ h

module _ (s ws : List ℕ) (v : RowVisit) (x : Looking s ws v) where
  acts-are : (a : Acts) → v.rule.acts ≡ a → (visit_in s ws v).rule.acts ≡ a
  acts-are a e = ap (λ (r : Rule). r.acts) (sym (rule-is s ws v x)) ∙ e

  -- ---- what is there
  module _ (h : always (visit_in s ws v) ≡ 0) where
    pub taken-there : v.ins.taken ≤ v.height
    taken-there =
        omega (arith, ltb-false (visit_in s ws v).height (instr (visit_in s ws v)).taken (never-refused (visit_in s ws v) h).0, height-is s ws v, ap (λ (i : Instr). i.taken) (ins-is s ws v x))

    pub value_there : v.rule.acts ≡ Returns → 0 < v.start
    unfolding is_return
    value_there e =
        let p : eqb (length (visit_in s ws v).below) 0 ≡ false = rw (acts-are Returns e) at (never-refused (visit_in s ws v) h).1 in
        by_order 0 v.start (λ l. l) (λ q. absurd (eqb-false (length (visit_in s ws v).below) 0 p (below-long s ws v x ∙ sym q))) (λ l. absurd (omega arith))

    pub slots-there : data_fault (module_of s) v.ins v.rule.slots ≡ 0
    slots-there =
        (λ k. data_fault (sym (code_is s ws v) k) (ins-is s ws v x k) (rule-is s ws v x k).slots) ∙ (never-refused (visit_in s ws v) h).2

  module _ (e : v.rule.acts ≡ Calls) where
    calls : v.ins.op ≡ op_call
    calls = call-is v.ins.op (ap (λ (r : Rule). r.acts) (sym x.rule) ∙ e)

    line-calls : (line_at (chunk_no (module_of s) v.chunk) v.at).instr.op ≡ op_call
    line-calls = ap (λ (i : Instr). i.op) (sym x.ins) ∙ calls

    pub callee-there : v.ins.a < (module_of s).signatures
    callee-there =
        omega (arith, ((x.indexed.good.each_chunk v.chunk x.chunk).lines v.at x.at).callee (call-callee _ line-calls), ap (λ (i : Instr). i.a) x.ins)

    pub callee-takes : v.ins.taken ≤ length (chunk_no (module_of s) v.ins.a).params
    callee-takes =
        omega (arith, ((x.indexed.good.each_chunk v.chunk x.chunk).lines v.at x.at).call line-calls, ap (λ (i : Instr). i.taken) x.ins, ap (λ (i : Instr). length (chunk_no (module_of s) i.a).params) x.ins)

    -- the operands are read before the callee's inputs are written, or stand elsewhere
    pub inputs-places : v.ins.taken ≤ v.height → PlacesApart ws (place_at v.row v.start) (input_at (module_of s) v.ins.a 0) v.ins.taken
    inputs-places l =
        record {
          source = omega (arith, row-there s ws v x, x.low, x.start);
          target = omega (arith, inputs_end m a, callee-takes, result-in m a there, x.indexed.room);
          apart =
              by_order a v.chunk
              (λ o. inl (omega (arith, x.row, inputs_end m a, result-next m a, rows-in-area m a, area-apart m a v.chunk o (omega (arith, x.chunk)), row-begins m v.chunk v.at)))
              (λ o. inl (omega (arith, x.row, inputs_end m v.chunk, result-next m v.chunk, rows-begin m v.chunk v.at, ap (λ (k : ℕ). input_at m k 0) o)))
              (λ o. inr (omega (arith, x.row, x.low, x.start, row_before m v.chunk v.at a x.at o (omega (arith, there)), inputs-begin m a 0)));
        }
      where
        m : Module
        m = module_of s

        a : ℕ
        a = v.ins.a

        there : a < length m.chunks
        there = signed s ws x.indexed a callee-there

  -- ---- what is given
  pub args-taken : v.ins.taken ≤ v.height → cells_at ws (place_at v.row v.start) v.ins.taken ≡ args_in ws v
  unfolding args_in
  args-taken l = let n : v.ins.taken ≡ v.height - v.start = omega (arith, x.start) in ap (cells_at ws (place_at v.row v.start)) n

  gives-by : (a : Acts) → v.rule.acts ≡ a → gives (visit_in s ws v) ≡ gives_by (visit_in s ws v) a
  unfolding gives
  gives-by a e = ap (gives_by (visit_in s ws v)) (acts-are a e)

  pub gives-arguments : v.rule.acts ≡ Calls → gives (visit_in s ws v) ≡ arguments v.ins.a (map bare_cell (args_in ws v))
  unfolding gives_by
  gives-arguments e = gives-by Calls e ∙ ap₂ (λ (i : Instr) (l : List Cell). arguments i.a (map bare_cell l)) (sym (ins-is s ws v x)) (args_are s ws v x)

  pub gives-writes : v.rule.acts ≡ Stores → gives (visit_in s ws v) ≡ written (slots_from v.ins v.rule.slots) (get_or (args_in ws v) 0 no_cell)
  unfolding gives_by
  gives-writes e =
      gives-by Stores e ∙ (λ k. written (slots_from (sym (ins-is s ws v x) k) (sym (rule-is s ws v x) k).slots) (get_or (args_are s ws v x k) 0 no_cell))

  value-is : 0 < v.start → value_below (visit_in s ws v) ≡ cell_at ws (place_at v.row (v.start - 1))
  value-is l =
      ap₂ (λ (cs : List Cell) (n : ℕ). get_or cs (n - 1) no_cell) (below-is s ws v x) (below-long s ws v x)
      ∙ cells_at-get_d ws (stack_at v.row) v.start (v.start - 1) _ (omega arith)

  number_is : (visit_in s ws v).chunk.number ≡ v.chunk
  unfolding visit_in visit_of
  number_is = (x.indexed.good.each_chunk v.chunk x.chunk).number

  pub gives-result : v.rule.acts ≡ Returns → is_entry (visit_in s ws v) ≡ false → 0 < v.start
      → gives (visit_in s ws v) ≡ returned v.chunk (bare_cell (cell_at ws (place_at v.row (v.start - 1))))
  unfolding gives_by
  gives-result e q l = gives-by Returns e ∙ rw q (ap₂ (λ (n : ℕ) (c : Cell). returned n (bare_cell c)) number_is (value-is l))

  pub gives-still : (a : Acts) → v.rule.acts ≡ a → gives_by (visit_in s ws v) a ≡ nothing → gives (visit_in s ws v) ≡ nothing
  gives-still a e q = gives-by a e ∙ q

  pub gives_none : v.rule.acts ≡ Returns → is_entry (visit_in s ws v) ≡ true → gives (visit_in s ws v) ≡ nothing
  unfolding gives_by
  gives_none e q = gives-by Returns e ∙ rw q

-- ---- as the definition absorbs it
module _ (s ws : List ℕ) (changed : Bool) (h : Gift) where
  pub taken_in : (v : List ℕ) (r : Bool) (g : Gift) → h ≡ g → FactsAfter s ws v r (absorb (module_of s) (live_in s ws changed) g)
      → FactsOnly s ws v × (live_in s v r ≡ absorb (module_of s) (live_in s ws changed) h)
  taken_in v r g e x = (x.frame, rw e x.live)

  pub nothing-taken : h ≡ nothing → FactsOnly s ws ws × (live_in s ws changed ≡ absorb (module_of s) (live_in s ws changed) h)
  unfolding absorb
  nothing-taken e = (facts-refl s ws, rw e)
