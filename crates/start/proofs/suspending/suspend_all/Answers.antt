-- `start::suspending::suspend_all` meets its contract.
use Rattle.start.proofs.suspending.Looks.{left-first, left_less, left-none, left-last, marked-indexed}
use Rattle.layout.proofs.Read.{chunks-are}
use Prim.Native.Nat.{◌+◌, ◌-◌}
use native.Mathlib.Numerals.{unary_clauses}
use native.Mathlib.Omega.{arith}
use Rattle.start.proofs.suspending.suspend_all.Goals as goal

pub loop-look-init : goal.loop-look-init
loop-look-init c = simp unary_clauses (left-first _ _ _ (chunks-are _ _ c.requires.t_value))

pub suspend_more-requires : goal.suspend_more-requires
suspend_more-requires c = record { indexed = marked-indexed _ _ _ c.loop-look.invariant.marked c.requires.indexed; t_value = c.requires.t_value }

pub returns-then-not-suspend_more : goal.returns-then-not-suspend_more
returns-then-not-suspend_more c = left-last _ _ _ _ (left-none _ _ _ _ _ c.loop-look.invariant _ c.suspend_more.ensures c.if-not-suspend_more.true) (omega arith)

pub loop-look-preserved : goal.loop-look-preserved
loop-look-preserved c =
    left_less _ _ _ _ _ c.loop-look.invariant _ c.suspend_more.ensures (c.args.t.chunks - (c.loop-look.look + 1)) (omega (arith, c.loop-look-test.true))

pub returns : goal.returns
returns c = left-last _ _ _ _ c.loop-look.invariant (omega (arith, c.loop-look-test.false))
