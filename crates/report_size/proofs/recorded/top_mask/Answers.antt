-- `report_size::recorded::top_mask` meets its contract: no stack, or the place at its end.
use native.Mathlib.Omega.{arith}
use Prim.Native.Nat.{ℕ}
use Rattle.words.specs.Layout.{cell_at}
use mathlib.Core.Path.{◌∙◌, ap}
use Rattle.cells.specs.declared.Cell.{Cell}
use Rattle.definition.specs.Start.{last}
use Rattle.visit.proofs.Args.{none-mask}
use Rattle.report_size.proofs.recorded.Told.{top-is, top-none}
use Rattle.report_size.proofs.recorded.top_mask.Goals as goal

pub returns-then-height-lt2 : goal.returns-then-height-lt2
unfolding last
returns-then-height-lt2 c =
    let a = c.args in
    none-mask ∙ ap (λ (x : Cell). x.mask) (top-none a.ws.now a.row c.row_height-height.result c.row_height-height.ensures c.if-height-lt2.true)

pub returns : goal.returns
returns c =
    let a = c.args in
    c.mask_at.ensures ∙ ap (λ (p : ℕ). (cell_at a.ws.now p).mask) c.place_at.ensures
    ∙ ap (λ (x : Cell). x.mask) (top-is a.ws.now a.row c.row_height-height.result c.row_height-height.ensures (omega (arith, c.if-height-lt2.false)))
