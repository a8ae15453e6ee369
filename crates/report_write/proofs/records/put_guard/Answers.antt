-- `report_write::records::put_guard` meets its contract: a guard, or nothing.
use native.Mathlib.Omega.{arith}
use mathlib.Core.Path.{◌∙◌, ap, sym}
use mathlib.Core.List.{[]}
use lib.ListN.{length}
use Rattle.le.proofs.Laws.{and_then, same_length as same-long}
use Rattle.report_cells.proofs.Laws.{said}
use Rattle.definition.specs.declared.Check.{Check}
use Rattle.definition.specs.Wants.{guard_of}
use Rattle.definition.specs.Report.{guards_bytes}
use Rattle.report_write.proofs.records.Writes.{low16, exact, wrote_none}
use Rattle.report_write.proofs.records.Guards.{guard-bytes, guard-long, fine-bytes, unproven-bytes}
use Rattle.report_write.proofs.records.put_guard.Goals as goal

pub put16-at-requires : goal.put16-at-requires
put16-at-requires c =
    let a = c.args in
    omega (arith, c.requires.c_in_bounds, ap (λ (x : Check). length (guards_bytes (guard_of a.p x []))) c.in-Guard.is ∙ guard-long a.p _)

pub put16-requires : goal.put16-requires
put16-requires c =
    let a = c.args in
    omega (
      arith,
      c.requires.c_in_bounds,
      ap (λ (x : Check). length (guards_bytes (guard_of a.p x []))) c.in-Guard.is ∙ guard-long a.p _,
      c.put16-at.ensures.next,
      same-long c.put16-at.ensures,
    )

pub returns-in-Guard : goal.returns-in-Guard
returns-in-Guard c =
    let a = c.args in
    exact (said (and_then (said c.put16-at.ensures (low16 a.p c.requires.p_bound)) c.put16.ensures)
    (guard-bytes a.p _ ∙ ap (λ (x : Check). guards_bytes (guard_of a.p x [])) (sym c.in-Guard.is)))

pub returns-in-Fine : goal.returns-in-Fine
returns-in-Fine c =
    let a = c.args in
    exact (said (wrote_none _ a.at) (fine-bytes a.p ∙ ap (λ (x : Check). guards_bytes (guard_of a.p x [])) (sym c.in-Fine.is)))

pub returns-in-Unproven : goal.returns-in-Unproven
returns-in-Unproven c =
    let a = c.args in
    exact (said (wrote_none _ a.at) (unproven-bytes a.p ∙ ap (λ (x : Check). guards_bytes (guard_of a.p x [])) (sym c.in-Unproven.is)))
