-- `lookup::part_of` meets its contract.
use Prim.Native.Nat.{◌-◌}
use mathlib.Core.Path.{refl, sym, ◌∙◌}
use native.Mathlib.Omega.{arith}
use Rattle.lookup.specs.Find.{at_end, entry_at}
use Rattle.lookup.proofs.Turns.{from_start, ends, overruns, finds, passes}
use Rattle.lookup.proofs.part_of.Goals as goal

pub loop-at-init : goal.loop-at-init
loop-at-init c = (refl, omega arith, from_start _ _ _)

pub returns-then-n-end : goal.returns-then-n-end
unfolding at_end
returns-then-n-end c =
    let l = c.loop-at in
    let e = c.end_at-end.ensures.0 in
    record {
      same = sym (sym l.invariant.2 ∙ overruns _ _ _ _ c.loop-at-test.true (rw e at c.if-n-end.true));
      fits = omega arith;
    }

pub returns-then-names : goal.returns-then-names
unfolding entry_at
returns-then-names c =
    let l = c.loop-at in
    let e = c.end_at-end.ensures.0 in
    record {
      same = rw e (sym (sym l.invariant.2 ∙ finds _ _ _ _ c.loop-at-test.true (rw e at c.if-n-end.false) (sym c.names.ensures ∙ c.if-names.true)));
      fits = omega arith;
    }

pub loop-at-preserved : goal.loop-at-preserved
loop-at-preserved c =
    let l = c.loop-at in
    let e = c.end_at-end.ensures.0 in
    (refl, omega arith, rw e (sym (passes _ _ _ _ c.loop-at-test.true (rw e at c.if-n-end.false) (sym c.names.ensures ∙ c.if-names.false)) ∙ l.invariant.2))

pub returns : goal.returns
unfolding at_end
returns c =
    record { same = sym (sym c.loop-at.invariant.2 ∙ ends _ _ _ _ c.loop-at-test.false); fits = omega arith }
