-- `report_write::records::put_guards` meets its contract. Invariant: the guards of the first k places that are asked about are written.
use Prim.Native.Nat.{◌+◌, ◌-◌, ◌<◌}
use native.Mathlib.Omega.{arith}
use mathlib.Core.Path.{◌≡◌, ap, ◌∙◌}
use mathlib.Core.List.{[]}
use lib.ListN.{length}
use Rattle.definition.specs.declared.Check.{Check}
use Rattle.definition.specs.Wants.{guard_of}
use Rattle.definition.specs.Report.{guards_bytes}
use Rattle.visit.proofs.Visits.{looking-standing}
use Rattle.checks.specs.declared.asked.Places.{Places}
use Rattle.checks.specs.asked.Proving.{places_by}
use Rattle.checks.proofs.asked.Fine.{below-some}
use Rattle.report_size.specs.Span.{span}
use Rattle.report_write.proofs.records.Writes.{said-exact, span-start, span_fits, span-turn}
use Rattle.report_write.proofs.records.Guards.{guard_at, guards-span, places-low, span-stop}
use Rattle.report_write.proofs.records.put_guards.Goals as goal

pub places_asked-places-requires : goal.places_asked-places-requires
places_asked-places-requires c = let a = c.args in below-some a.s.now a.ws.now a.v a.want c.requires.asking

pub overflow_sub-n : goal.overflow_sub-n
overflow_sub-n c =
    let a = c.args in
    let d = looking-standing a.s.now a.ws.now a.v c.requires.asking.looking in
    rw c.places_asked-places.ensures (places-low a.v a.want.ask d.start).0

pub loop-k-init : goal.loop-k-init
loop-k-init c =
    let a = c.args in
    let f = guard_at a.s.now a.ws.now a.v a.want in
    let i = (places_by a.v a.want.ask).from in
    said-exact (span-start f i _ a.at) (ap (span f i) (omega arith))

pub place_in_turn-p-requires : goal.place_in_turn-p-requires
place_in_turn-p-requires c =
    let e = c.places_asked-places.ensures in
    omega (arith, c.loop-k-test.true, ap (λ (r : Places). r.from) e, ap (λ (r : Places). r.end) e)

pub check_place-requires : goal.check_place-requires
check_place-requires c =
    let q = c.place_in_turn-p.ensures in
    let f = ap (λ (r : Places). r.from) c.places_asked-places.ensures in
    let e = ap (λ (r : Places). r.end) c.places_asked-places.ensures in
    let t = c.loop-k-test.true in
    record { asking = c.requires.asking; t_value = c.requires.t_value; ask_bound = (omega (arith, q, f, e, t), omega (arith, q, f, e, t)) }

pub put_guard-to-requires : goal.put_guard-to-requires
unfolding guard_at
put_guard-to-requires c =
    let a = c.args in
    let i = c.loop-k.invariant in
    let k = c.loop-k.k in
    let g = guard_at a.s.now a.ws.now a.v a.want in
    let P = places_by a.v a.want.ask in
    let p = c.place_in_turn-p.result in
    let q : p ≡ P.from + k = c.place_in_turn-p.ensures ∙ ap (λ (r : Places). r.from + k) c.places_asked-places.ensures in
    let e : P.from + k < P.end = omega (arith, c.loop-k-test.true, ap (λ (r : Places). r.from) c.places_asked-places.ensures, ap (λ (r : Places). r.end) c.places_asked-places.ensures) in
    let d = looking-standing a.s.now a.ws.now a.v c.requires.asking.looking in
    let r = ap length (guards-span a.s.now a.ws.now a.v a.want c.requires.asking) in
    let f = span_fits g P.from _ a.at (P.from + k) (omega arith) _ _ i P.end e (omega (arith, c.requires.v_in_bounds, r)) in record { p_bound = omega (arith, q, e, d.low, (places-low a.v a.want.ask d.start).1); c_in_bounds = omega (arith, f, ap (λ (x : Check). length (guards_bytes (guard_of p x []))) c.check_place.ensures, ap (λ n. length (g n)) q) }

pub loop-k-preserved : goal.loop-k-preserved
unfolding guard_at
loop-k-preserved c =
    let a = c.args in
    let i = c.loop-k.invariant in
    let k = c.loop-k.k in
    let g = guard_at a.s.now a.ws.now a.v a.want in
    let P = places_by a.v a.want.ask in
    let p = c.place_in_turn-p.result in
    let q : p ≡ P.from + k = c.place_in_turn-p.ensures ∙ ap (λ (r : Places). r.from + k) c.places_asked-places.ensures in
    let w = said-exact c.put_guard-to.ensures (ap (λ (x : Check). guards_bytes (guard_of p x [])) c.check_place.ensures ∙ ap g q) in
    said-exact (span-turn g P.from _ a.at (P.from + k) (omega arith) _ _ i _ _ w) (ap (span g P.from) (omega arith))

pub returns : goal.returns
returns c =
    let a = c.args in
    let i = c.loop-k.invariant in
    let k = c.loop-k.k in
    let g = guard_at a.s.now a.ws.now a.v a.want in
    let P = places_by a.v a.want.ask in
    let z : (P.from + k) - P.from ≡ P.end - P.from = omega (arith, c.loop-k.auto.k-end, c.loop-k-test.false, ap (λ (r : Places). r.end - r.from) c.places_asked-places.ensures) in
    said-exact i (span-stop g _ (P.from + k) _ z ∙ guards-span a.s.now a.ws.now a.v a.want c.requires.asking)
