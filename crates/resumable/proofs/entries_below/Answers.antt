-- `resumable::entries_below` meets its contract. Invariant: the entries that are left are below the number exactly where all are.
use Prim.Native.Nat.{◌<◌}
use native.Mathlib.Omega.{arith}
use mathlib.Core.Path.{ap}
use Rattle.ring.specs.declared.Queue.{Queue}
use Rattle.ring.proofs.Ring.{ready-pop}
use Rattle.resumable.proofs.Decides.{yes, no}
use Rattle.resumable.proofs.Entries.{due_below, rest_below, all-below, none_below}
use Rattle.resumable.proofs.entries_below.Goals as goal

pub loop-rest-init : goal.loop-rest-init
loop-rest-init c = (c.requires, λ x. x, λ x. x)

pub peek-requires : goal.peek-requires
peek-requires c = c.loop-rest.invariant.0

pub returns-then-count-peek : goal.returns-then-count-peek
returns-then-count-peek c =
    let a = c.args in
    let i = c.loop-rest.invariant in
    no (λ all.
    omega (arith, c.if-count-peek.true, c.peek.ensures, due_below a.ws.now a.base c.loop-rest.rest i.0 (omega (arith, c.loop-rest-test.true)) a.count (i.2 all)))

pub popped-rest-requires : goal.popped-rest-requires
popped-rest-requires c = record { queue_ready = c.loop-rest.invariant.0; count_nonzero = omega (arith, c.loop-rest-test.true) }

pub loop-rest-smaller : goal.loop-rest-smaller
loop-rest-smaller c = omega (arith, ap (λ (q : Queue). q.count) c.popped-rest.ensures, c.loop-rest-test.true)

pub loop-rest-preserved : goal.loop-rest-preserved
loop-rest-preserved c =
    let a = c.args in
    let i = c.loop-rest.invariant in
    let q = c.loop-rest.rest in
    let h : 0 < q.count = omega (arith, c.loop-rest-test.true) in
    rw c.popped-rest.ensures (
      ready-pop a.ws.now a.base q i.0 h,
      λ all. i.1 (all-below a.ws.now a.base q i.0 h a.count (omega (arith, c.if-count-peek.false, c.peek.ensures)) all),
      λ all. rest_below a.ws.now a.base q i.0 h a.count (i.2 all),
    )

pub returns : goal.returns
returns c =
    let a = c.args in
    yes (c.loop-rest.invariant.1 (none_below a.ws.now a.base c.loop-rest.rest a.count (omega (arith, c.loop-rest-test.false))))
