-- `form::late_checks::late_look` meets its contract: from each field on the look gives the whole answer.
use mathlib.Core.Path.{sym, ap, ◌∙◌}
use native.Mathlib.Omega.{arith}
use Rattle.answers.specs.Answers.{in_field}
use Rattle.form.specs.late_checks.Counted.{passed}
use Rattle.form.proofs.late_checks.Looks.{look-table, chunk-room, look-chunk, instr-room, look-instr, look-fault, look-other, look-end}
use Rattle.form.proofs.late_checks.late_look.Goals as goal

pub loop-at-init : goal.loop-at-init
loop-at-init c = record { counts = c.requires.1; gives = rw c.parameters-params.ensures (look-table _ _ c.requires.2) }

pub overflow_add-chunk : goal.overflow_add-chunk
overflow_add-chunk c =
    omega (arith, chunk-room _ _ _ _ _ _ c.loop-at-test.true c.loop-at.invariant (sym c.tag_at-tag.ensures ∙ c.if-tag-eq2.true))

pub returns-then-faulty : goal.returns-then-faulty
unfolding in_field passed
returns-then-faulty c =
    rw (c.in_field.ensures, c.before-then-faulty.ensures)
    (ap passed (look-fault _ _ _ _ _ _ c.loop-at-test.true c.loop-at.invariant
    (sym c.tag_at-tag.ensures ∙ c.if-tag-eq3.true)
    (sym c.faulty.ensures ∙ c.if-faulty.true)))

pub overflow_add-instr : goal.overflow_add-instr
overflow_add-instr c =
    omega (
      arith,
      instr-room _ _ _ _ _ _ c.loop-at-test.true c.loop-at.invariant
          (sym c.tag_at-tag.ensures ∙ c.if-tag-eq3.true),
    )

pub loop-at-preserved-then-tag-eq2 : goal.loop-at-preserved-then-tag-eq2
loop-at-preserved-then-tag-eq2 c =
    rw c.next_at-next.ensures.0
    (look-chunk _ _ _ _ _ _ c.loop-at-test.true c.loop-at.invariant (sym c.tag_at-tag.ensures ∙ c.if-tag-eq2.true))

pub loop-at-preserved-else-faulty : goal.loop-at-preserved-else-faulty
loop-at-preserved-else-faulty c =
    rw c.next_at-next.ensures.0
    (look-instr _ _ _ _ _ _ c.loop-at-test.true c.loop-at.invariant
    (sym c.tag_at-tag.ensures ∙ c.if-tag-eq3.true)
    (sym c.faulty.ensures ∙ c.if-faulty.false))

pub loop-at-preserved : goal.loop-at-preserved
loop-at-preserved c =
    let tag = c.tag_at-tag.ensures in
    rw c.next_at-next.ensures.0
    (look-other _ _ _ _ _ _ c.loop-at-test.true c.loop-at.invariant (λ e. c.if-tag-eq2.false (tag ∙ e)) (λ e. c.if-tag-eq3.false (tag ∙ e)))

pub returns : goal.returns
unfolding passed
returns c = ap passed (look-end _ _ _ _ _ _ c.loop-at-test.false c.loop-at.invariant)
