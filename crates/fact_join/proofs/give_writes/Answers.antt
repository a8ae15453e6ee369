-- `fact_join::give_writes` meets its contract. The loop's invariant: the slots from k on, written into the facts so far, give the whole answer.
use Prim.Native.Nat.{ℕ}
use mathlib.Core.List.{List}
use mathlib.Core.Path.{refl, ap₂, ◌∙◌}
use native.Mathlib.Omega.{arith}
use Rattle.fact_join.proofs.Gifts.{slot-there}
use Rattle.fact_join.proofs.Slots.{writes-turn, writes_end, slots-listed}
use Rattle.fact_join.proofs.Frames.{facts-refl, facts-trans}
use Rattle.visit.proofs.Visits.{looking-standing}
use Rattle.visit.specs.Held.{live_in}
use Rattle.layout.proofs.Kept.{indexed-steady}
use Rattle.layout.proofs.Read.{slots-are}
use Rattle.definition.specs.Leaves.{absorb, write_slots}
use Rattle.definition.specs.Module.{module_of}
use Rattle.cells.specs.declared.Cell.{Cell}
use Rattle.fact_join.proofs.give_writes.Goals as goal

pub operand-value-requires : goal.operand-value-requires
operand-value-requires c =
    let a = c.args in
    record { standing = looking-standing a.s.now a.ws.now a.v c.requires.looking; k_bound = omega arith }

pub loop-k-init : goal.loop-k-init
loop-k-init c = (facts-refl c.args.s.now c.args.ws.now, refl)

pub write_slot-moved-requires : goal.write_slot-moved-requires
write_slot-moved-requires c =
    let a = c.args in
    let l = c.loop-k in
    let h = slot-there (module_of a.s.now) a.v.ins a.v.rule.slots c.requires.slots_value l.k (omega (arith, c.slots_of-r.ensures.0, l.auto.k)) (omega (arith, c.slots_of-r.ensures.1, c.loop-k-test.true)) in
    record { indexed = indexed-steady a.s.now a.ws.now l.ws l.invariant.0.steady c.requires.looking.indexed; t_value = c.requires.t_value; slot_lt_slots = omega (arith, slots-are a.s.now a.t c.requires.t_value) }

pub loop-k-preserved : goal.loop-k-preserved
loop-k-preserved c =
    let a = c.args in
    let l = c.loop-k in (
      facts-trans a.s.now a.ws.now l.ws _ l.invariant.0 c.write_slot-moved.ensures.frame,
      writes-turn a.s.now l.ws l.k _ _ l.moved _ l.invariant.1 _ _ c.loop-k-test.true c.write_slot-moved.ensures,
    )

pub returns : goal.returns
unfolding absorb
returns c =
    let a = c.args in
    let l = c.loop-k in
    record {
      frame = l.invariant.0;
      live =
          writes_end a.s.now l.ws l.k _ _ l.moved _ l.invariant.1 c.loop-k-test.false
          ∙ ap₂ (λ (ns : List ℕ) (x : Cell). write_slots (module_of a.s.now) (live_in a.s.now a.ws.now a.changed) ns x)
          (slots-listed a.v.ins a.v.rule.slots _ _ c.slots_of-r.ensures.0 c.slots_of-r.ensures.1)
          c.operand-value.ensures;
    }
