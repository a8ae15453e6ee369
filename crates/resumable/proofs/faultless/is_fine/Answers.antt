-- `resumable::faultless::is_fine` meets its contract.
use native.Mathlib.Omega.{arith}
use mathlib.Core.Path.{sym, ◌∙◌}
use Rattle.resumable.proofs.Decides.{yes}
use Rattle.resumable.proofs.faultless.Fine.{row_here, low-here, unrecorded, has-state, fine-none, fine-decided}
use Rattle.resumable.proofs.faultless.is_fine.Goals as goal

pub row_at-requires : goal.row_at-requires
row_at-requires c =
    let a = c.args in
    let r = row_here a.s.now a.ws.now c.requires.ended a.c a.ch a.i c.requires.here in
    omega (arith, r.at, r.small)

pub is_recorded-requires : goal.is_recorded-requires
is_recorded-requires c =
    let a = c.args in
    let r = row_here a.s.now a.ws.now c.requires.ended a.c a.ch a.i c.requires.here in
    omega (arith, c.row_at.ensures, r.at, r.room)

pub returns-then-not-is_recorded : goal.returns-then-not-is_recorded
returns-then-not-is_recorded c =
    let a = c.args in
    let r = row_here a.s.now a.ws.now c.requires.ended a.c a.ch a.i c.requires.here in
    yes (fine-none a.s.now a.ws.now a.c a.i (unrecorded a.ws.now _ _ (c.row_at.ensures ∙ r.at) (sym c.is_recorded.ensures ∙ c.if-not-is_recorded.true)))

pub visit_at-requires : goal.visit_at-requires
visit_at-requires c =
    let a = c.args in
    let d = c.requires.ended in
    let h = c.requires.here in
    let r = row_here a.s.now a.ws.now d a.c a.ch a.i h in record { indexed = d.prepared.indexed; c_in_bounds = h.chunk; ch_value = h.numbers; at_lt_count = h.at; nonzero = has-state a.ws.now _ _ (c.row_at.ensures ∙ r.at) (sym c.is_recorded.ensures ∙ c.if-not-is_recorded.false); at_bound = low-here a.s.now a.ws.now d a.c a.ch a.i h }

pub returns : goal.returns
returns c =
    let a = c.args in
    let v = c.visit_at.ensures in
    fine-decided a.s.now a.ws.now a.c a.i c.visit_at.result v.0 v.1 v.2 c.always_fault.result c.always_fault.ensures
