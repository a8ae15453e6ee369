-- `fact_join::merging::merge_slot` meets its contract. The low halves of two words are put anew.
use mathlib.Core.Bool.{not}
use mathlib.Core.Path.{ap, ap₂, ◌∙◌}
use Rattle.masks.specs.Mask.{union, same}
use Rattle.masks.specs.declared.Mask.{Mask}
use Rattle.fact_join.proofs.merging.Merge.{merged-low}
use Rattle.fact_join.proofs.merging.merge_slot.Goals as goal

pub returns : goal.returns
returns c =
    let a = c.args in
    merged-low a.ws.now _ _ a.at c.union-new.result c.requires
    c.put_low.ensures.1
    c.put_low.ensures.0
    c.put_low-2.ensures.0
    _
    (c.union-new.ensures ∙ ap₂ (λ (m n : Mask). union m n) c.mask_at-old.ensures c.mask_at.ensures)
    (c.ne.ensures ∙ ap (λ (m : Mask). not (same m c.union-new.result)) c.mask_at-old.ensures)
