-- `pausing::resume_in` meets its contract.
use native.Mathlib.Omega.{arith}
use mathlib.Core.Path.{refl, sym, ◌∙◌}
use Rattle.pausing.proofs.Calls.{good-room, sites-suspend, resumed-unmarked, resumed-ran}
use Rattle.pausing.proofs.resume_in.Goals as goal

pub returns-then-not-is_marked : goal.returns-then-not-is_marked
returns-then-not-is_marked c = rw c.nowhere.ensures (resumed-unmarked _ _ _ _ _ _ _ c.requires (sym c.is_marked.ensures ∙ c.if-not-is_marked.true))

pub refill-t-requires : goal.refill-t-requires
refill-t-requires c =
    let g = good-room _ _ _ _ (sym c.requires) refl in
    record { good = g.0; queue_in_bounds = omega (arith, g.1) }

pub take_up-stage-requires : goal.take_up-stage-requires
take_up-stage-requires c =
    let g = good-room _ _ _ _ (sym c.requires) refl in
    let f = c.refill-t.ensures in
    record { indexed = f.1; sites_suspend = sites-suspend _ _ _ f.2; s_in_bounds = omega (arith, g.2, f.2.long); t_value = f.0 }

pub returns : goal.returns
returns c =
    resumed-ran _ _ _ _ _ _ _ _ _ _ _ _ _ _ c.requires (sym c.is_marked.ensures ∙ c.if-not-is_marked.false) c.refill-t.ensures.2 c.take_up-stage.ensures c.close.ensures
