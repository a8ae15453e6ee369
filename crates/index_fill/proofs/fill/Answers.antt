use native.Mathlib.Omega.{arith}
use Rattle.index_fill.proofs.Walking.{front_fits, filled}
use Rattle.index_fill.proofs.fill.Goals as goal

pub clear-requires : goal.clear-requires
clear-requires c = omega (arith, front_fits _ _ _ c.requires.good c.header_at-h.ensures, c.requires.queue_in_bounds)

pub returns : goal.returns
returns c =
    let x = filled _ _ _ _ _ _ c.requires.good c.header_at-h.ensures c.clear.ensures (omega (arith, c.requires.queue_in_bounds, c.clear.auto)) c.walk.ensures.1 in
    (c.walk.ensures.0, x.0, x.1, omega (arith, c.walk.auto, c.clear.auto))
