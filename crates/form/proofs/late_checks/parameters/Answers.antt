-- `form::late_checks::parameters` meets its contract: what is stored and what is still to be stored make the table.
use mathlib.Core.Path.{refl}
use native.Mathlib.Omega.{arith}
use lib.ListN.{length-set}
use Rattle.form.proofs.late_checks.Looks.{fill_none, has_room, fill-put, fill-skip, fill_end}
use Rattle.form.proofs.late_checks.parameters.Goals as goal

pub loop-p-init : goal.loop-p-init
loop-p-init c = (refl, omega arith, refl, fill_none _ _)

pub bounds-params-chunk : goal.bounds-params-chunk
bounds-params-chunk c = omega (arith, has_room c.tag_at.result c.loop-p.chunk c.if-tag_at-chunk.true)

pub loop-p-preserved-then-tag_at-chunk : goal.loop-p-preserved-then-tag_at-chunk
loop-p-preserved-then-tag_at-chunk c =
    let test = c.if-tag_at-chunk.true in (
      simp length-set c.loop-p.invariant.0,
      omega (arith, has_room c.tag_at.result c.loop-p.chunk test),
      refl,
      rw c.next_at-next.ensures.0
          (fill-put _ c.loop-p.params _ _ _ c.params_in.result _ _ c.loop-p-test.true c.tag_at.ensures test
          c.params_in.ensures c.loop-p.invariant.3),
    )

pub loop-p-preserved : goal.loop-p-preserved
loop-p-preserved c = (
  c.loop-p.invariant.0,
  c.loop-p.invariant.1,
  refl,
  rw c.next_at-next.ensures.0
      (fill-skip _ c.loop-p.params _ _ _ _ _ c.loop-p-test.true c.tag_at.ensures c.if-tag_at-chunk.false c.loop-p.invariant.0 c.loop-p.invariant.3),
)

pub returns : goal.returns
returns c = fill_end _ c.loop-p.params _ _ _ _ c.loop-p-test.false c.loop-p.invariant.3
