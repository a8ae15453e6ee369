-- `run::run_to` meets its contract.
use Rattle.std.proofs.Common.{◌≡◌, Err, rules}
use Rattle.run.proofs.Ways.{on-first, ran-stop, ran_over, ran-due, ran-less, ran_out}
use mathlib.Core.Path.{refl}
use Prim.Native.Nat.{◌-◌}
use native.Mathlib.Omega.{arith}
use Rattle.run.proofs.run_to.Goals as goal

pub loop-r-init : goal.loop-r-init
loop-r-init c =
    on-first _ _ _ _ c.requires.between c.requires.count_nonzero c.requires.steps_le_limit

pub turn-requires : goal.turn-requires
turn-requires c =
    let i = c.loop-r.invariant in
    record { between = i.between; count_nonzero = i.some; t_value = c.requires.t_value; steps_bound = omega (arith, c.loop-r-test.true, c.ranges) }

pub shape_of-ws-in_err-turn : goal.shape_of-ws-in_err-turn
shape_of-ws-in_err-turn c =
    omega (arith, c.loop-r.invariant.long, c.turn.auto)

pub returns-in_err-turn : goal.returns-in_err-turn
returns-in_err-turn c =
    let e : c.from_residual.result ≡ Err c.in_err-turn.field-0.0 = search rules in
    rw e (ran-stop _ _ _ _ _ _ c.loop-r.invariant c.loop-r-test.true _ c.in_err-turn.field-0.0 (rw c.in_err-turn.was at c.turn.ensures))

pub overflow_add-result : goal.overflow_add-result
overflow_add-result c =
    omega (arith, c.loop-r-test.true, c.ranges)

pub shape_of-ws-in-None : goal.shape_of-ws-in-None
shape_of-ws-in-None c =
    omega (arith, c.loop-r.invariant.long, c.turn.auto)

pub returns-in-None : goal.returns-in-None
returns-in-None c =
    ran_over _ _ _ _ _ _ c.loop-r.invariant c.loop-r-test.true _ _ refl (rw c.in-None.is at (rw c.in_ok-turn.was at c.turn.ensures))

pub loop-r-smaller : goal.loop-r-smaller
loop-r-smaller c =
    ran-less _ _ _ _ _ _ c.loop-r.invariant c.loop-r-test.true _ c.in-Some.next (rw c.in-Some.is at (rw c.in_ok-turn.was at c.turn.ensures))

pub loop-r-preserved : goal.loop-r-preserved
loop-r-preserved c =
    ran-due _ _ _ _ _ _ c.loop-r.invariant c.loop-r-test.true _ c.in-Some.next (rw c.in-Some.is at (rw c.in_ok-turn.was at c.turn.ensures))

pub shape_of-ws : goal.shape_of-ws
shape_of-ws c =
    c.loop-r.invariant.long

pub returns : goal.returns
returns c =
    ran_out _ _ _ _ _ _ c.loop-r.invariant c.loop-r-test.false
