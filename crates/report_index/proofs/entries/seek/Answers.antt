-- `report_index::entries::seek` meets its contract. Invariant: the place that is sought stands between low and high.
use Prim.Native.Nat.{◌+◌, ◌-◌, ◌/◌}
use native.Mathlib.Omega.{arith}
use mathlib.Core.Path.{sym, ◌∙◌}
use Rattle.report_index.proofs.entries.Laws.{anywhere, raised, lowered, narrowed}
use Rattle.report_index.proofs.entries.seek.Goals as goal

pub loop-low-init : goal.loop-low-init
loop-low-init c =
    let a = c.args in
    anywhere a.index.now a.n a.chunk a.instruction

pub loop-low-preserved-then-is_before : goal.loop-low-preserved-then-is_before
loop-low-preserved-then-is_before c =
    let a = c.args in
    let l = c.loop-low in
    let m = l.low + (l.high - l.low) / 2 in
    raised a.index.now a.n c.requires.n_value l.invariant m (omega arith) (sym c.is_before.ensures ∙ c.if-is_before.true)

pub loop-low-preserved : goal.loop-low-preserved
loop-low-preserved c =
    let a = c.args in
    let l = c.loop-low in
    let m = l.low + (l.high - l.low) / 2 in
    lowered a.index.now a.n c.requires.n_value l.invariant m (omega arith) (omega arith) (sym c.is_before.ensures ∙ c.if-is_before.false)

pub returns : goal.returns
returns c = narrowed c.loop-low.invariant c.loop-low-test.false
