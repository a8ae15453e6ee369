-- `listing::number` meets its contract.
use Rattle.listing.proofs.Laid.{rest_all, rest-on, rest-last}
use Rattle.listing.specs.Decimal.{decimal}
use Rattle.listing.proofs.Turns.{digits-turn, digits-end, tenth, ten-up}
use Prim.Native.Nat.{ℕ, ◌-◌, ◌/◌}
use mathlib.Core.Path.{refl, ap, ◌∙◌}
use native.Mathlib.Omega.{arith}
use Rattle.listing.proofs.number.Goals as goal

pub loop-k-init : goal.loop-k-init
unfolding decimal
loop-k-init c = (refl, rest_all _ _ _ c.requires)

pub digit-to-requires : goal.digit-to-requires
digit-to-requires c = (omega arith, ten-up _ _ c.loop-k.invariant.0)

pub loop-k-preserved : goal.loop-k-preserved
loop-k-preserved c =
    let t = c.loop-k-test.true in
    (ap (λ (x : ℕ). x / 10) c.loop-k.invariant.0 ∙ tenth _ t, rest-on c.loop-k.invariant.1 c.digit-to.ensures (digits-turn _ _ _ t))

pub returns : goal.returns
returns c = rest-last (rw (digits-end (9 - c.loop-k.k) _ _ (omega (arith, c.loop-k-test.false))) at c.loop-k.invariant.1) c.push.ensures
