-- `report_write::put_instr` meets its contract: a record, an inspection, a branch, or nothing.
use lib.ListN.{length}
use Rattle.masks.proofs.Both.{both}
use Rattle.le.specs.Le.{le16}
use Rattle.report_cells.proofs.Laws.{said}
use Rattle.definition.specs.Report.{field, inspection_bytes, branch_bytes}
use native.Mathlib.Omega.{arith}
use mathlib.Core.Path.{sym, ap, ◌∙◌}
use mathlib.Core.Bool.{Bool, ◌&&◌}
use lib.Dec.{eqb}
use Rattle.description.specs.declared.Instr.{Instr}
use Rattle.report_size.proofs.Here.{row_here, stands_here, some-here}
use Rattle.report_write.proofs.records.Writes.{exact, said-exact, wrote_none}
use Rattle.report_write.proofs.records.Values.{here-as, small-here}
use Rattle.report_write.proofs.Tagged.{as-record, as-inspection, as-branch, as-nothing}
use Rattle.report_write.proofs.put_instr.Goals as goal

pub row_at-row-requires : goal.row_at-row-requires
row_at-row-requires c =
    let a = c.args in
    let f = c.requires.finished in
    let h = here-as a.s.now a.ws.now a.c c.chunk_at-ch.result a.i c.requires.here c.chunk_at-ch.ensures in
    omega (arith, (row_here a.s.now a.ws.now a.t f a.c c.chunk_at-ch.result a.i h).at, (row_here a.s.now a.ws.now a.t f a.c c.chunk_at-ch.result a.i h).small)

pub instr_of-ins-requires : goal.instr_of-ins-requires
instr_of-ins-requires c =
    let a = c.args in
    let f = c.requires.finished in
    let h = here-as a.s.now a.ws.now a.c c.chunk_at-ch.result a.i c.requires.here c.chunk_at-ch.ensures in
    record { indexed = f.ended.prepared.indexed; c_in_bounds = h.chunk; ch_value = h.numbers; i_lt_count = h.at }

pub is_recorded-requires : goal.is_recorded-requires
is_recorded-requires c =
    let a = c.args in
    let f = c.requires.finished in
    let h = here-as a.s.now a.ws.now a.c c.chunk_at-ch.result a.i c.requires.here c.chunk_at-ch.ensures in
    omega (arith, c.row_at-row.ensures, (row_here a.s.now a.ws.now a.t f a.c c.chunk_at-ch.result a.i h).at, (row_here a.s.now a.ws.now a.t f a.c c.chunk_at-ch.result a.i h).room)

pub put_record-requires : goal.put_record-requires
put_record-requires c =
    let a = c.args in
    let f = c.requires.finished in
    let h = here-as a.s.now a.ws.now a.c c.chunk_at-ch.result a.i c.requires.here c.chunk_at-ch.ensures in
    let t = (ap (λ (x : Bool). eqb a.tag 19 && x) (sym c.is_recorded.ensures) ∙ c.if-tag-is_recorded.true) in record { finished = f; here = c.requires.here; nonzero = some-here a.s.now a.ws.now a.t f a.c c.chunk_at-ch.result a.i h c.row_at-row.result (c.row_at-row.ensures ∙ (row_here a.s.now a.ws.now a.t f a.c c.chunk_at-ch.result a.i h).at) (both (eqb a.tag 19) _ t).1; i_in_bounds = omega (arith, c.requires.i_in_bounds, ap length (as-record a.s.now a.ws.now a.c a.i (f.ended.prepared.indexed.good.each_chunk a.c h.chunk).number c.row_at-row.result (c.row_at-row.ensures ∙ (row_here a.s.now a.ws.now a.t f a.c c.chunk_at-ch.result a.i h).at) c.instr_of-ins.result.op (ap (λ (x : Instr). x.op) c.instr_of-ins.ensures) a.tag t)) }

pub returns-then-tag-is_recorded : goal.returns-then-tag-is_recorded
returns-then-tag-is_recorded c =
    let a = c.args in
    let f = c.requires.finished in
    let h = here-as a.s.now a.ws.now a.c c.chunk_at-ch.result a.i c.requires.here c.chunk_at-ch.ensures in
    said-exact c.put_record.ensures (as-record a.s.now a.ws.now a.c a.i (f.ended.prepared.indexed.good.each_chunk a.c h.chunk).number c.row_at-row.result (c.row_at-row.ensures ∙ (row_here a.s.now a.ws.now a.t f a.c c.chunk_at-ch.result a.i h).at) c.instr_of-ins.result.op (ap (λ (x : Instr). x.op) c.instr_of-ins.ensures) a.tag (ap (λ (x : Bool). eqb a.tag 19 && x) (sym c.is_recorded.ensures) ∙ c.if-tag-is_recorded.true))

pub false_inspection-requires : goal.false_inspection-requires
false_inspection-requires c =
    let a = c.args in
    let f = c.requires.finished in
    let h = here-as a.s.now a.ws.now a.c c.chunk_at-ch.result a.i c.requires.here c.chunk_at-ch.ensures in
    stands_here a.s.now a.ws.now a.t f a.c c.chunk_at-ch.result a.i h c.row_at-row.result (c.row_at-row.ensures ∙ (row_here a.s.now a.ws.now a.t f a.c c.chunk_at-ch.result a.i h).at)

pub put_inspection-requires : goal.put_inspection-requires
unfolding inspection_bytes field le16
put_inspection-requires c =
    let a = c.args in
    let f = c.requires.finished in
    let h = here-as a.s.now a.ws.now a.c c.chunk_at-ch.result a.i c.requires.here c.chunk_at-ch.ensures in
    record { c_bound = small-here a.s.now a.ws.now a.c c.chunk_at-ch.result a.i f.ended.prepared.indexed h; at_in_bounds = omega (arith, c.requires.i_in_bounds, ap length (as-inspection a.s.now a.ws.now a.c a.i (f.ended.prepared.indexed.good.each_chunk a.c h.chunk).number c.row_at-row.result (c.row_at-row.ensures ∙ (row_here a.s.now a.ws.now a.t f a.c c.chunk_at-ch.result a.i h).at) c.instr_of-ins.result.op (ap (λ (x : Instr). x.op) c.instr_of-ins.ensures) a.tag (ap (λ (x : Bool). eqb a.tag 20 && x) (sym c.false_inspection.ensures) ∙ c.if-tag-false_inspection.true))) }

pub returns-then-tag-false_inspection : goal.returns-then-tag-false_inspection
returns-then-tag-false_inspection c =
    let a = c.args in
    let f = c.requires.finished in
    let h = here-as a.s.now a.ws.now a.c c.chunk_at-ch.result a.i c.requires.here c.chunk_at-ch.ensures in
    exact (said c.put_inspection.ensures (as-inspection a.s.now a.ws.now a.c a.i (f.ended.prepared.indexed.good.each_chunk a.c h.chunk).number c.row_at-row.result (c.row_at-row.ensures ∙ (row_here a.s.now a.ws.now a.t f a.c c.chunk_at-ch.result a.i h).at) c.instr_of-ins.result.op (ap (λ (x : Instr). x.op) c.instr_of-ins.ensures) a.tag (ap (λ (x : Bool). eqb a.tag 20 && x) (sym c.false_inspection.ensures) ∙ c.if-tag-false_inspection.true)))

pub known_branch-requires : goal.known_branch-requires
known_branch-requires c =
    let a = c.args in
    let f = c.requires.finished in
    let h = here-as a.s.now a.ws.now a.c c.chunk_at-ch.result a.i c.requires.here c.chunk_at-ch.ensures in
    stands_here a.s.now a.ws.now a.t f a.c c.chunk_at-ch.result a.i h c.row_at-row.result (c.row_at-row.ensures ∙ (row_here a.s.now a.ws.now a.t f a.c c.chunk_at-ch.result a.i h).at)

pub put_branch-requires : goal.put_branch-requires
unfolding branch_bytes field le16
put_branch-requires c =
    let a = c.args in
    let f = c.requires.finished in
    let h = here-as a.s.now a.ws.now a.c c.chunk_at-ch.result a.i c.requires.here c.chunk_at-ch.ensures in
    record { row_inside = stands_here a.s.now a.ws.now a.t f a.c c.chunk_at-ch.result a.i h c.row_at-row.result (c.row_at-row.ensures ∙ (row_here a.s.now a.ws.now a.t f a.c c.chunk_at-ch.result a.i h).at); c_bound = small-here a.s.now a.ws.now a.c c.chunk_at-ch.result a.i f.ended.prepared.indexed h; at_in_bounds = omega (arith, c.requires.i_in_bounds, ap length (as-branch a.s.now a.ws.now a.c a.i (f.ended.prepared.indexed.good.each_chunk a.c h.chunk).number c.row_at-row.result (c.row_at-row.ensures ∙ (row_here a.s.now a.ws.now a.t f a.c c.chunk_at-ch.result a.i h).at) c.instr_of-ins.result.op (ap (λ (x : Instr). x.op) c.instr_of-ins.ensures) a.tag (ap (λ (x : Bool). eqb a.tag 21 && x) (sym c.known_branch.ensures) ∙ c.if-tag-known_branch.true))) }

pub returns-then-tag-known_branch : goal.returns-then-tag-known_branch
returns-then-tag-known_branch c =
    let a = c.args in
    let f = c.requires.finished in
    let h = here-as a.s.now a.ws.now a.c c.chunk_at-ch.result a.i c.requires.here c.chunk_at-ch.ensures in
    exact (said c.put_branch.ensures (as-branch a.s.now a.ws.now a.c a.i (f.ended.prepared.indexed.good.each_chunk a.c h.chunk).number c.row_at-row.result (c.row_at-row.ensures ∙ (row_here a.s.now a.ws.now a.t f a.c c.chunk_at-ch.result a.i h).at) c.instr_of-ins.result.op (ap (λ (x : Instr). x.op) c.instr_of-ins.ensures) a.tag (ap (λ (x : Bool). eqb a.tag 21 && x) (sym c.known_branch.ensures) ∙ c.if-tag-known_branch.true)))

pub returns : goal.returns
returns c =
    let a = c.args in
    let f = c.requires.finished in
    let h = here-as a.s.now a.ws.now a.c c.chunk_at-ch.result a.i c.requires.here c.chunk_at-ch.ensures in
    said-exact (wrote_none _ a.at)
    (as-nothing a.s.now a.ws.now a.c a.i (f.ended.prepared.indexed.good.each_chunk a.c h.chunk).number c.row_at-row.result (c.row_at-row.ensures ∙ (row_here a.s.now a.ws.now a.t f a.c c.chunk_at-ch.result a.i h).at) c.instr_of-ins.result.op (ap (λ (x : Instr). x.op) c.instr_of-ins.ensures) a.tag (ap (λ (x : Bool). eqb a.tag 19 && x) (sym c.is_recorded.ensures) ∙ c.if-tag-is_recorded.false)
    (ap (λ (x : Bool). eqb a.tag 20 && x) (sym c.false_inspection.ensures) ∙ c.if-tag-false_inspection.false) (ap (λ (x : Bool). eqb a.tag 21 && x) (sym c.known_branch.ensures) ∙ c.if-tag-known_branch.false))
