use native.Mathlib.Omega.{arith}
use mathlib.Core.Path.{refl}
use Prim.Native.Nat.{◌+◌, ◌-◌}
use lib.ListN.{length}
use Rattle.ring.specs.Ring.{pushed}
use Rattle.ring.proofs.Ring.{wrap-lt}
use Rattle.ring.proofs.push.Goals as goal

pub overflow_add-ws : goal.overflow_add-ws
overflow_add-ws c = omega (arith, wrap-lt (c.args.q.head + c.args.q.count) (length c.args.ws.now - c.args.base) (omega arith))

pub offset_bounds-ws-base : goal.offset_bounds-ws-base
offset_bounds-ws-base c = omega (arith, wrap-lt (c.args.q.head + c.args.q.count) (length c.args.ws.now - c.args.base) (omega arith))

pub bounds-ws-base : goal.bounds-ws-base
bounds-ws-base c = omega (arith, wrap-lt (c.args.q.head + c.args.q.count) (length c.args.ws.now - c.args.base) (omega arith))

pub returns : goal.returns
unfolding pushed
returns c = (rw c.wrap-at.ensures, refl)
