-- `packing::packed_one` meets its contract.
use Rattle.std.proofs.Common.{◌≡◌, ℕ, Bool, false, eqb, ◌||◌, not, refl, sym, ap, ◌∙◌}
use Rattle.masks.specs.declared.Mask.{Mask}
use Rattle.masks.specs.Mask.{kind, within as inside}
use Rattle.masks.specs.Names.{PACKED}
use Rattle.cells.specs.declared.Cell.{Cell}
use Rattle.packing.specs.declared.Packed.{Packed}
use Rattle.packing.specs.Packing.{packed_one, bodies_of, body_kinds, scalar_span}
use Rattle.packing.proofs.packed_one.Goals as goal

-- what the steps give, where the mask may be packed
of_steps : (c : Cell) (float handle : ℕ) (k : Mask) (s r : Packed) (w : Bool) → k ≡ kind c.mask → w ≡ inside k PACKED → (eqb k.bits 0 || not w) ≡ false
    → s ≡ scalar_span k float handle → r ≡ bodies_of k body_kinds c.flow.bodies s → r ≡ packed_one c float handle
unfolding packed_one
of_steps c float handle k s r w ek ew eb es er =
    let t : (eqb (kind c.mask).bits 0 || not (inside (kind c.mask) PACKED)) ≡ false = rw (← ek, ← ew) eb in
    let e : packed_one c float handle ≡ bodies_of (kind c.mask) body_kinds c.flow.bodies (scalar_span (kind c.mask) float handle) = rw t refl in
    er ∙ ap (λ (x : Packed). bodies_of k body_kinds c.flow.bodies x) es ∙ ap (λ (x : Mask). bodies_of x body_kinds c.flow.bodies (scalar_span x float handle)) ek ∙ sym e

pub returns-then-tag-within : goal.returns-then-tag-within
unfolding packed_one
returns-then-tag-within c = rw (← c.kind-tag.ensures, ← c.within.ensures, c.if-tag-within.true)

pub returns : goal.returns
returns c = of_steps _ _ _ _ _ _ _ c.kind-tag.ensures c.within.ensures c.if-tag-within.false c.scalar_span.ensures c.body_spans-s.ensures
