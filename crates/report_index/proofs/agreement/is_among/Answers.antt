-- `report_index::agreement::is_among` meets its contract.
use mathlib.Core.Path.{sym, ◌∙◌}
use Rattle.report_index.proofs.agreement.Laws.{among-here, among-found, among-past}
use Rattle.report_index.proofs.agreement.is_among.Goals as goal

pub returns-then-is_entry : goal.returns-then-is_entry
returns-then-is_entry c =
    let a = c.args in
    sym (among-here a.index.now a.e a.n a.place c.if-place-n.true (sym c.is_entry.ensures ∙ c.if-is_entry.true))

pub returns-then-k-n : goal.returns-then-k-n
returns-then-k-n c =
    let a = c.args in
    let up = c.requires.n_value in
    c.is_entry-then-k-n.ensures ∙ among-found a.index.now a.e a.n up c.seek-k.result c.seek-k.ensures c.if-k-n.true

pub returns-else-k-n : goal.returns-else-k-n
returns-else-k-n c =
    let a = c.args in
    let up = c.requires.n_value in
    among-past a.index.now a.e a.n up c.seek-k.result c.seek-k.ensures c.if-k-n.false
