-- `fact_join::add_write` meets its contract. The new writes stand below the mark, which stays.
use mathlib.Core.Path.{ap, ◌∙◌}
use Rattle.masks.specs.Mask.{union}
use Rattle.masks.specs.declared.Mask.{Mask}
use Rattle.fact_join.proofs.Slots.{written_low}
use Rattle.fact_join.proofs.add_write.Goals as goal

pub returns : goal.returns
returns c =
    let a = c.args in
    written_low a.ws.now _ a.at a.mask c.union-u.result c.requires
    (c.union-u.ensures ∙ ap (λ (m : Mask). union m a.mask) c.mask_at.ensures)
    c.put_low.ensures.1
    c.put_low.ensures.0
