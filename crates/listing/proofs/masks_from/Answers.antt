-- `listing::masks_from` meets its contract.
use Rattle.listing.proofs.Laid.{rest_all, rest-on, rest-none}
use Rattle.listing.proofs.Turns.{masks-turn, masks-end}
use Prim.Native.Nat.{◌+◌, ◌*◌, ◌-◌}
use native.Mathlib.Numerals.{unary_clauses}
use native.Mathlib.Omega.{arith}
use Rattle.listing.proofs.masks_from.Goals as goal

pub loop-k-init : goal.loop-k-init
loop-k-init c = simp unary_clauses (rest_all _ _ _ c.requires.0)

pub loop-k-preserved : goal.loop-k-preserved
loop-k-preserved c = rest-on c.loop-k.invariant c.spaced-to.ensures (rw c.u16_at.ensures (masks-turn _ _ _ _ c.loop-k-test.true))

pub returns : goal.returns
returns c = rest-none (rw (masks-end _ (c.args.q + 49 * c.loop-k.k) (c.args.n - c.loop-k.k) (omega (arith, c.loop-k-test.false))) at c.loop-k.invariant)
