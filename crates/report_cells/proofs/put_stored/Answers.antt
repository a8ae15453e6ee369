-- `report_cells::put_stored` meets its contract: words without flow take the short way.
use mathlib.Core.Path.{sym, ap, ◌∙◌}
use Rattle.cells.specs.declared.Cell.{Cell}
use Rattle.words.proofs.Laws.{flow-none}
use borrow.Author.Rules.{rules}
use Rattle.report_cells.proofs.put_stored.Goals as goal

pub returns-then-has_flow : goal.returns-then-has_flow
returns-then-has_flow c = rw (← c.load.ensures) c.put_cell.ensures

pub put_flowless-requires : goal.put_flowless-requires
put_flowless-requires c =
    let a = c.args in
    record { at_in_bounds = search rules; flow_value = ap (λ (x : Cell). x.flow) c.load-2.ensures ∙ flow-none a.ws.now a.word (sym c.has_flow.ensures ∙ c.if-has_flow.false) }

pub returns : goal.returns
returns c = rw (← c.load-2.ensures) c.put_flowless.ensures
