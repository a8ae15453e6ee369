-- `report_bound::within_after` meets its contract.
use mathlib.Core.Path.{sym, ◌∙◌}
use borrow.Author.Tests.{eq-eqb, ne_eqb}
use Rattle.report_bound.specs.Walk.{within_after}
use Rattle.report_bound.proofs.within_after.Goals as goal

pub returns-then-tag-eq2 : goal.returns-then-tag-eq2
unfolding within_after
returns-then-tag-eq2 c = rw (eq-eqb _ 2 (sym c.tag_at-tag.ensures ∙ c.if-tag-eq2.true)) c.chunk_within.ensures

pub returns-then-tag-eq3 : goal.returns-then-tag-eq3
unfolding within_after
returns-then-tag-eq3 c =
    let t = c.tag_at-tag.ensures in
    rw (ne_eqb _ 2 (λ e. c.if-tag-eq2.false (t ∙ e)), eq-eqb _ 3 (sym t ∙ c.if-tag-eq3.true), ← c.instr_at.ensures) c.instr_within.ensures

pub returns : goal.returns
unfolding within_after
returns c =
    let t = c.tag_at-tag.ensures in
    rw (ne_eqb _ 2 (λ e. c.if-tag-eq2.false (t ∙ e)), ne_eqb _ 3 (λ e. c.if-tag-eq3.false (t ∙ e)))
