-- `masks::Mask::body` meets its contract.
use native.Mathlib.Omega.{arith}
use mathlib.Core.Path.{ap}
use Prim.Native.Nat.{◌^◌, ◌<◌}
use lib.Pow.{pow-lt}
use borrow.Author.Tests.{lt-ltb, le-ltb}
use Rattle.masks.specs.Mask.{body, of}
use Rattle.masks.proofs.Mask.body.Goals as goal

pub returns-then-kind-lt4 : goal.returns-then-kind-lt4
unfolding body
returns-then-kind-lt4 c =
    let h : 2 ^ c.args.kind < 2 ^ 4 = pow-lt {j = 4} (omega arith) in
    rw (lt-ltb _ _ c.if-kind-lt4.true) (ap of (omega arith))

pub returns : goal.returns
unfolding body
returns c = rw (le-ltb _ _ c.if-kind-lt4.false)
