-- `report_size::count_guards` meets its contract. Invariant: those counted and those from p on are all.
use native.Mathlib.Omega.{arith}
use mathlib.Core.Path.{sym, ap, ◌∙◌}
use lib.ListN.{length}
use Rattle.definition.specs.Wants.{guards_in}
use Rattle.checks.specs.declared.asked.Places.{Places}
use Rattle.checks.specs.asked.Proving.{asked_from, asked_in}
use Rattle.checks.proofs.asked.Fine.{below-some}
use Rattle.checks.proofs.asked.Checked.{guards-are}
use Rattle.visit.proofs.Visits.{looking-standing}
use Rattle.report_size.specs.recorded.Guard.{is_guard}
use Rattle.report_size.proofs.Guards.{few-guards, guards-turn, guards-end}
use Rattle.report_size.proofs.count_guards.Goals as goal
use Rattle.report_size.proofs.count_guards.Goals.{then-is_guard, else-is_guard}

pub places_asked-places-requires : goal.places_asked-places-requires
places_asked-places-requires c =
    let a = c.args in
    below-some a.s.now a.ws.now a.v a.want c.requires.asking

pub loop-p-init : goal.loop-p-init
unfolding asked_in
loop-p-init c =
    let a = c.args in
    let e = c.places_asked-places.ensures in (
      omega (arith, ap (λ (r : Places). length (guards_in (asked_from a.s.now a.ws.now a.v a.want r.from r.end))) e),
      few-guards a.s.now a.ws.now a.v a.want (looking-standing a.s.now a.ws.now a.v c.requires.asking.looking).low,
    )

pub check_place-requires : goal.check_place-requires
check_place-requires c =
    let e = c.places_asked-places.ensures in
    record {
      asking = c.requires.asking;
      t_value = c.requires.t_value;
      ask_bound = (omega (arith, c.loop-p.auto.p, ap (λ (r : Places). r.from) e), omega (arith, c.loop-p-test.true, ap (λ (r : Places). r.end) e));
    }

pub overflow_add-n : goal.overflow_add-n
overflow_add-n c =
    let a = c.args in
    let i = c.loop-p.invariant in
    let f = sym (c.is_guard.ensures ∙ ap is_guard c.check_place.ensures) ∙ c.if-is_guard.true in
    let g = guards-turn a.s.now a.ws.now a.v a.want c.loop-p.p c.places_asked-places.result.end c.loop-p-test.true _ f in
    omega (arith, i.0, i.1, g)

pub loop-p-preserved : goal.loop-p-preserved
loop-p-preserved c =
    let a = c.args in
    let i = c.loop-p.invariant in
    let e = sym (c.is_guard.ensures ∙ ap is_guard c.check_place.ensures) in
    let g = guards-turn a.s.now a.ws.now a.v a.want c.loop-p.p c.places_asked-places.result.end c.loop-p-test.true in (
      elim c.if-is_guard.branch [ then-is_guard w ↦ omega (arith, i.0, w.n-is, g _ (e ∙ w.if-is_guard.true)) | else-is_guard w ↦ omega (arith, i.0, w.n-is, g _ (e ∙ w.if-is_guard.false)) ],
      i.1,
    )

pub returns : goal.returns
returns c =
    let a = c.args in
    let i = c.loop-p.invariant in
    let g = ap length (guards-are a.s.now a.ws.now a.v a.want c.requires.asking) in
    let z = guards-end a.s.now a.ws.now a.v a.want c.loop-p.p c.places_asked-places.result.end (omega (arith, c.loop-p-test.false)) in
    omega (arith, i.0, i.1, g, z)
