-- `report_size::instr_bytes` meets its contract: no state, or a record with an inspection and a branch where there is one.
use Prim.Native.Nat.{ℕ, ◌≤◌}
use native.Mathlib.Omega.{arith}
use mathlib.Core.Path.{◌≡◌, sym, ap, ◌∙◌}
use mathlib.Core.Bool.{Bool, cond}
use borrow.Author.Tests.{not-true, not-false}
use Rattle.report_size.proofs.Here.{row_here, low-here, stands_here, numbers-here, entry_here, asking-here, few-here, none_here, some-here}
use Rattle.report_size.proofs.Measured.{none-added, some-added}
use Rattle.report_size.proofs.instr_bytes.Goals as goal
use Rattle.report_size.proofs.instr_bytes.Goals.{then-false_inspection, else-false_inspection, then-known_branch, else-known_branch}

pub row_at-row-requires : goal.row_at-row-requires
row_at-row-requires c =
    let a = c.args in
    let f = c.requires.finished in
    let h = c.requires.here in
    omega (arith, (row_here a.s.now a.ws.now a.t f a.c a.ch a.i h).at, (row_here a.s.now a.ws.now a.t f a.c a.ch a.i h).small)

pub is_recorded-requires : goal.is_recorded-requires
is_recorded-requires c =
    let a = c.args in
    let f = c.requires.finished in
    let h = c.requires.here in
    omega (arith, c.row_at-row.ensures, (row_here a.s.now a.ws.now a.t f a.c a.ch a.i h).at, (row_here a.s.now a.ws.now a.t f a.c a.ch a.i h).room)

pub returns-then-not-is_recorded : goal.returns-then-not-is_recorded
returns-then-not-is_recorded c =
    let a = c.args in
    let f = c.requires.finished in
    let h = c.requires.here in (
      sym (none-added a.s.now a.ws.now a.c a.i (none_here a.s.now a.ws.now a.t f a.c a.ch a.i h c.row_at-row.result (c.row_at-row.ensures ∙ (row_here a.s.now a.ws.now a.t f a.c a.ch a.i h).at) (sym c.is_recorded.ensures ∙ c.if-not-is_recorded.true))),
      omega arith,
    )

pub visit_at-v-requires : goal.visit_at-v-requires
visit_at-v-requires c =
    let a = c.args in
    let f = c.requires.finished in
    let h = c.requires.here in record { indexed = f.ended.prepared.indexed; c_in_bounds = h.chunk; ch_value = h.numbers; at_lt_count = h.at; nonzero = some-here a.s.now a.ws.now a.t f a.c a.ch a.i h c.row_at-row.result (c.row_at-row.ensures ∙ (row_here a.s.now a.ws.now a.t f a.c a.ch a.i h).at) (sym c.is_recorded.ensures ∙ c.if-not-is_recorded.false); at_bound = low-here a.s.now a.ws.now a.t f a.c a.ch a.i h }

pub want_at-want-requires : goal.want_at-want-requires
want_at-want-requires c =
    let a = c.args in
    let f = c.requires.finished in
    let h = c.requires.here in
    record { looking = c.visit_at-v.ensures.0; ch_value = numbers-here a.s.now a.ws.now a.t f a.c a.ch a.i h c.visit_at-v.result c.visit_at-v.ensures; value = entry_here a.s.now a.ws.now a.t f a.c a.ch a.i h c.visit_at-v.result c.visit_at-v.ensures }

pub false_inspection-requires : goal.false_inspection-requires
false_inspection-requires c =
    let a = c.args in
    let f = c.requires.finished in
    let h = c.requires.here in
    stands_here a.s.now a.ws.now a.t f a.c a.ch a.i h c.row_at-row.result (c.row_at-row.ensures ∙ (row_here a.s.now a.ws.now a.t f a.c a.ch a.i h).at)

pub known_branch-requires : goal.known_branch-requires
known_branch-requires c =
    let a = c.args in
    let f = c.requires.finished in
    let h = c.requires.here in
    stands_here a.s.now a.ws.now a.t f a.c a.ch a.i h c.row_at-row.result (c.row_at-row.ensures ∙ (row_here a.s.now a.ws.now a.t f a.c a.ch a.i h).at)

pub count_guards-requires : goal.count_guards-requires
count_guards-requires c =
    let a = c.args in
    let f = c.requires.finished in
    let h = c.requires.here in
    record { asking = asking-here a.s.now a.ws.now a.t f a.c a.ch a.i h c.visit_at-v.result c.visit_at-v.ensures c.want_at-want.result c.want_at-want.ensures; t_value = f.tables }

pub record_len-requires : goal.record_len-requires
record_len-requires c =
    let a = c.args in
    let f = c.requires.finished in
    let h = c.requires.here in
    let z = few-here a.s.now a.ws.now a.t f a.c a.ch a.i h c.visit_at-v.result c.visit_at-v.ensures in (z.0, z.1, z.2, c.count_guards.ensures.1)

pub overflow_add-result : goal.overflow_add-result
overflow_add-result c =
    let a = c.args in
    let f = c.requires.finished in
    let h = c.requires.here in
    let p : c.if-false_inspection.inspection ≤ 7 = elim c.if-false_inspection.branch [ then-false_inspection w ↦ omega (arith, w.inspection-is) | else-false_inspection w ↦ omega (arith, w.inspection-is) ] in
    let q : c.if-known_branch.branch' ≤ 8 = elim c.if-known_branch.branch [ then-known_branch w ↦ omega (arith, w.branch'-is) | else-known_branch w ↦ omega (arith, w.branch'-is) ] in
    let z = few-here a.s.now a.ws.now a.t f a.c a.ch a.i h c.visit_at-v.result c.visit_at-v.ensures in
    omega (arith, c.count_guards.ensures.1, c.record_len.ensures)

pub overflow_add-result-2 : goal.overflow_add-result-2
overflow_add-result-2 c =
    let a = c.args in
    let f = c.requires.finished in
    let h = c.requires.here in
    let p : c.if-false_inspection.inspection ≤ 7 = elim c.if-false_inspection.branch [ then-false_inspection w ↦ omega (arith, w.inspection-is) | else-false_inspection w ↦ omega (arith, w.inspection-is) ] in
    let q : c.if-known_branch.branch' ≤ 8 = elim c.if-known_branch.branch [ then-known_branch w ↦ omega (arith, w.branch'-is) | else-known_branch w ↦ omega (arith, w.branch'-is) ] in
    let z = few-here a.s.now a.ws.now a.t f a.c a.ch a.i h c.visit_at-v.result c.visit_at-v.ensures in
    omega (arith, c.count_guards.ensures.1, c.record_len.ensures)

pub overflow_add-result-3 : goal.overflow_add-result-3
overflow_add-result-3 c =
    let a = c.args in
    let f = c.requires.finished in
    let h = c.requires.here in
    let p : c.if-false_inspection.inspection ≤ 7 = elim c.if-false_inspection.branch [ then-false_inspection w ↦ omega (arith, w.inspection-is) | else-false_inspection w ↦ omega (arith, w.inspection-is) ] in
    let q : c.if-known_branch.branch' ≤ 8 = elim c.if-known_branch.branch [ then-known_branch w ↦ omega (arith, w.branch'-is) | else-known_branch w ↦ omega (arith, w.branch'-is) ] in
    let z = few-here a.s.now a.ws.now a.t f a.c a.ch a.i h c.visit_at-v.result c.visit_at-v.ensures in
    omega (arith, c.count_guards.ensures.1, c.record_len.ensures)

pub returns : goal.returns
returns c =
    let a = c.args in
    let f = c.requires.finished in
    let h = c.requires.here in
    let p : c.if-false_inspection.inspection ≤ 7 = elim c.if-false_inspection.branch [ then-false_inspection w ↦ omega (arith, w.inspection-is) | else-false_inspection w ↦ omega (arith, w.inspection-is) ] in
    let q : c.if-known_branch.branch' ≤ 8 = elim c.if-known_branch.branch [ then-known_branch w ↦ omega (arith, w.branch'-is) | else-known_branch w ↦ omega (arith, w.branch'-is) ] in
    let z = few-here a.s.now a.ws.now a.t f a.c a.ch a.i h c.visit_at-v.result c.visit_at-v.ensures in
    let i0 : c.if-false_inspection.inspection ≡ cond {A = ℕ} c.false_inspection.result 7 0 =
    elim c.if-false_inspection.branch [
      | then-false_inspection w ↦ w.inspection-is ∙ ap (λ (t : Bool). cond {A = ℕ} t 7 0) (sym w.if-false_inspection.true)
      | else-false_inspection w ↦ w.inspection-is ∙ ap (λ (t : Bool). cond {A = ℕ} t 7 0) (sym w.if-false_inspection.false)
    ] in
    let i = i0 ∙ ap (λ (t : Bool). cond {A = ℕ} t 7 0) c.false_inspection.ensures in
    let j0 : c.if-known_branch.branch' ≡ cond {A = ℕ} c.known_branch.result 8 0 =
    elim c.if-known_branch.branch [
      | then-known_branch w ↦ w.branch'-is ∙ ap (λ (t : Bool). cond {A = ℕ} t 8 0) (sym w.if-known_branch.true)
      | else-known_branch w ↦ w.branch'-is ∙ ap (λ (t : Bool). cond {A = ℕ} t 8 0) (sym w.if-known_branch.false)
    ] in
    let j = j0 ∙ ap (λ (t : Bool). cond {A = ℕ} t 8 0) c.known_branch.ensures in
    let e = some-added a.s.now a.ws.now a.t f a.c a.ch a.i h c.row_at-row.result (c.row_at-row.ensures ∙ (row_here a.s.now a.ws.now a.t f a.c a.ch a.i h).at) c.visit_at-v.result c.visit_at-v.ensures in
    (omega (arith, e, i, j, c.record_len.ensures, c.count_guards.ensures.0), omega (arith, c.count_guards.ensures.1, c.record_len.ensures))
