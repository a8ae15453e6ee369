-- `form::field_steps::field_step` meets its contract.
use mathlib.Core.Path.{sym, ◌∙◌}
use Rattle.form.proofs.field_steps.Tags.{overrun, tag-header, tag-chunk, tag-instr, tag-site, tag-table, tag-none}
use Rattle.form.proofs.field_steps.field_step.Goals as goal

pub returns-then-s-next_at : goal.returns-then-s-next_at
returns-then-s-next_at c =
    rw c.nowhere.ensures (sym (overrun _ _ _ (rw c.next_at.ensures.0 at c.if-s-next_at.true)))

pub returns-then-tag-eq1 : goal.returns-then-tag-eq1
returns-then-tag-eq1 c =
    c.header_step.ensures ∙ sym (tag-header _ _ _ (rw c.next_at.ensures.0 at c.if-s-next_at.false) (sym c.tag_at-tag.ensures ∙ c.if-tag-eq1.true))

pub returns-then-tag-eq2 : goal.returns-then-tag-eq2
returns-then-tag-eq2 c =
    c.chunk_step.ensures ∙ sym (tag-chunk _ _ _ (rw c.next_at.ensures.0 at c.if-s-next_at.false) (sym c.tag_at-tag.ensures ∙ c.if-tag-eq2.true))

pub returns-then-tag-eq3 : goal.returns-then-tag-eq3
returns-then-tag-eq3 c =
    c.instr_step.ensures ∙ sym (tag-instr _ _ _ (rw c.next_at.ensures.0 at c.if-s-next_at.false) (sym c.tag_at-tag.ensures ∙ c.if-tag-eq3.true))

pub returns-then-tag-eq4 : goal.returns-then-tag-eq4
returns-then-tag-eq4 c =
    c.site_step.ensures ∙ sym (tag-site _ _ _ (rw c.next_at.ensures.0 at c.if-s-next_at.false) (sym c.tag_at-tag.ensures ∙ c.if-tag-eq4.true))

pub returns-then-tag : goal.returns-then-tag
returns-then-tag c =
    let tag = c.tag_at-tag.ensures in
    c.table_step.ensures ∙ rw tag (sym (tag-table _ _ _ (rw c.next_at.ensures.0 at c.if-s-next_at.false) (rw tag at c.if-tag.true)))

pub returns : goal.returns
returns c =
    let tag = c.tag_at-tag.ensures in
    rw c.nowhere-2.ensures
    (sym (tag-none _ _ _ (rw c.next_at.ensures.0 at c.if-s-next_at.false) (λ e. c.if-tag-eq1.false (tag ∙ e)) (λ e. c.if-tag-eq2.false (tag ∙ e)) (λ e. c.if-tag-eq3.false (tag ∙ e)) (λ e. c.if-tag-eq4.false (tag ∙ e)) (rw tag at c.if-tag.false)))
