-- `form::scan_from` meets its contract.
use mathlib.Core.Path.{ap, ◌∙◌}
use Rattle.description.proofs.reader.Laws.{left-part, left_end}
use Rattle.definition.specs.Form.{form_of}
use Rattle.form.proofs.scan_from.Goals as goal

pub returns-then-at-n : goal.returns-then-at-n
returns-then-at-n c = c.read_all.ensures ∙ ap form_of (left-part _ _)

pub returns : goal.returns
returns c = c.read_all-2.ensures ∙ ap form_of (left-part _ _ ∙ left_end _ _ c.if-at-n.false)
