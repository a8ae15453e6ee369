-- `checks::validation::places_proven` meets its contract. Invariant: the places from p on are proven exactly where all are.
use Prim.Native.Nat.{◌+◌}
use native.Mathlib.Omega.{arith}
use mathlib.Core.Path.{sym, ap, ◌∙◌}
use mathlib.Core.Bool.{Bool, ◌&&◌}
use Rattle.definition.specs.Wants.{is_proven, all_proven}
use Rattle.checks.specs.declared.asked.Places.{Places}
use Rattle.checks.specs.asked.Proving.{asked_from, asked_in}
use Rattle.checks.proofs.asked.Fine.{below-some}
use Rattle.checks.proofs.asked.Checked.{proven-turn, proven-end}
use Rattle.checks.proofs.validation.places_proven.Goals as goal

pub places_asked-places-requires : goal.places_asked-places-requires
places_asked-places-requires c =
    let a = c.args in
    below-some a.s.now a.ws.now a.v a.want c.requires.asking

pub loop-p-init : goal.loop-p-init
unfolding asked_in
loop-p-init c =
    let a = c.args in
    ap (λ (r : Places). all_proven (asked_from a.s.now a.ws.now a.v a.want r.from r.end)) c.places_asked-places.ensures

pub check_place-requires : goal.check_place-requires
check_place-requires c =
    let e = c.places_asked-places.ensures in
    record {
      asking = c.requires.asking;
      t_value = c.requires.t_value;
      ask_bound = (omega (arith, c.loop-p.auto.p, ap (λ (r : Places). r.from) e), omega (arith, c.loop-p-test.true, ap (λ (r : Places). r.end) e));
    }

pub returns-then-not-is_proven : goal.returns-then-not-is_proven
returns-then-not-is_proven c =
    let a = c.args in
    let p = c.loop-p.p in
    let e = c.places_asked-places.result.end in
    let f = sym (c.is_proven.ensures ∙ ap is_proven c.check_place.ensures) ∙ c.if-not-is_proven.true in
    sym (ap (λ (b : Bool). b && all_proven (asked_from a.s.now a.ws.now a.v a.want (p + 1) e)) f)
    ∙ sym (proven-turn a.s.now a.ws.now a.v a.want p e c.loop-p-test.true) ∙ c.loop-p.invariant

pub loop-p-preserved : goal.loop-p-preserved
loop-p-preserved c =
    let a = c.args in
    let p = c.loop-p.p in
    let e = c.places_asked-places.result.end in
    let f = sym (c.is_proven.ensures ∙ ap is_proven c.check_place.ensures) ∙ c.if-not-is_proven.false in
    sym (ap (λ (b : Bool). b && all_proven (asked_from a.s.now a.ws.now a.v a.want (p + 1) e)) f)
    ∙ sym (proven-turn a.s.now a.ws.now a.v a.want p e c.loop-p-test.true) ∙ c.loop-p.invariant

pub returns : goal.returns
returns c =
    let a = c.args in
    sym (proven-end a.s.now a.ws.now a.v a.want c.loop-p.p c.places_asked-places.result.end (omega (arith, c.loop-p-test.false)))
    ∙ c.loop-p.invariant
