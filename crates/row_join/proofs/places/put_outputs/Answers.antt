-- `row_join::places::put_outputs` meets its contract. The loop's invariant: the first k outputs have arrived.
use Rattle.row_join.proofs.places.Laws.{arrived-none, row_more}
use Rattle.definition.specs.Module.{row}
use Rattle.definition.specs.Outputs.{output}
use Rattle.definition.specs.Ways.{output_list}
use mathlib.Core.Path.{◌≡◌, refl, ◌∙◌}
use native.Mathlib.Omega.{arith}
use Prim.Native.Nat.{◌-◌}
use Rattle.row_join.proofs.places.put_outputs.Goals as goal

pub loop-k-init : goal.loop-k-init
unfolding output_list row
loop-k-init c = arrived-none c.args.fresh c.args.to c.args.ws.now

pub loop-k-preserved : goal.loop-k-preserved
unfolding output_list
loop-k-preserved c =
    let a = c.args in
    let l = c.loop-k in
    row_more (output a.made) a.fresh a.to l.k a.ws.now l.ws _ l.changed _ l.invariant (rw c.output.ensures at c.join_one-changed.ensures)

pub returns : goal.returns
returns c =
    let e : c.loop-k.k ≡ c.args.n = omega arith in
    rw (← e) c.loop-k.invariant
