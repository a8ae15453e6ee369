-- `listing::first` meets its contract.
use lib.ListN.{length-take}
use lib.Seq.{take_all}
use mathlib.Core.Path.{sym}
use native.Mathlib.Omega.{arith}
use Rattle.listing.proofs.first.Goals as goal

pub slice_bounds-result-end : goal.slice_bounds-result-end
slice_bounds-result-end c = omega (arith, length-take c.before.before.args.n c.before.before.args.s.now)

pub returns : goal.returns
returns c = sym (take_all c.args.n c.args.s.now c.if-n-s.false)
