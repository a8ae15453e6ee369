-- `masks::Mask::scalar` meets its contract.
use Prim.Native.Nat.{◌^◌, ◌<◌}
use lib.Pow.{pow-lt}
use borrow.Author.Tests.{ne_eqb, lt-ltb, le-ltb}
use native.Mathlib.Omega.{arith}
use mathlib.Core.Path.{ap}
use Rattle.masks.specs.Mask.{scalar, of}
use Rattle.masks.proofs.Mask.scalar.Goals as goal

pub returns-then-kind-eq1 : goal.returns-then-kind-eq1
unfolding scalar
returns-then-kind-eq1 c = rw c.if-kind-eq1.true

pub returns-then-kind-lt8 : goal.returns-then-kind-lt8
unfolding scalar
returns-then-kind-lt8 c =
    let h : 2 ^ c.args.kind < 2 ^ 16 = pow-lt {j = 16} (omega arith) in
    rw (ne_eqb _ _ c.if-kind-eq1.false, lt-ltb _ _ c.if-kind-lt8.true) (ap of (omega arith))

pub returns : goal.returns
unfolding scalar
returns c = rw (ne_eqb _ _ c.if-kind-eq1.false, le-ltb _ _ c.if-kind-lt8.false)
