-- `report_bound::field_most` meets its contract.
use native.Mathlib.Omega.{arith}
use mathlib.Core.Path.{refl, sym, ◌∙◌}
use Rattle.report_bound.proofs.Cases.{field-chunk, field-instr, field-other}
use Rattle.report_bound.proofs.field_most.Goals as goal

pub returns-then-tag-eq2 : goal.returns-then-tag-eq2
returns-then-tag-eq2 c =
    let a = c.args in
    (field-chunk a.s.now a.p a.h a.w _ c.params_in.result _ (sym c.tag_at-tag.ensures ∙ c.if-tag-eq2.true) refl c.params_in.ensures c.signature_most.ensures.0, c.signature_most.ensures.1)

pub returns-then-tag-w : goal.returns-then-tag-w
returns-then-tag-w c =
    let a = c.args in
    let t = c.tag_at-tag.ensures in
    (field-instr a.s.now a.p a.h a.w c.instr_at.result _ (rw t at c.if-tag-w.true) (λ e. c.if-tag-eq2.false (t ∙ e)) c.instr_at.ensures c.instr_most.ensures.0, c.instr_most.ensures.1)

pub returns : goal.returns
returns c =
    let a = c.args in
    let t = c.tag_at-tag.ensures in
    (field-other a.s.now a.p a.h a.w (rw t at c.if-tag-w.false) (λ e. c.if-tag-eq2.false (t ∙ e)), omega arith)
