-- `checks::asked::check_place` meets its contract.
use native.Mathlib.Omega.{arith}
use mathlib.Core.Path.{refl, ap, ◌∙◌}
use Prim.Native.Nat.{ℕ}
use Rattle.words.specs.Layout.{cell_at}
use Rattle.layout.proofs.Read.{slots-are}
use Rattle.visit.proofs.Visits.{looking-standing}
use Rattle.checks.proofs.asked.Fine.{writes_one, writes-many}
use Rattle.checks.proofs.asked.Found.{place-fits, found_nothing, found_first, found-both, found-every, found_below, found-writes, found-indexed, found-never}
use Rattle.checks.proofs.asked.check_place.Goals as goal

pub place_at-requires : goal.place_at-requires
place_at-requires c =
    let a = c.args in
    let p = c.requires in
    omega (arith, place-fits a.s.now a.ws.now a.v p.asking.looking a.want.ask a.p p.ask_bound.1)

pub mask_at-m-requires : goal.mask_at-m-requires
mask_at-m-requires c =
    let a = c.args in
    let p = c.requires in
    omega (arith, c.place_at.ensures, place-fits a.s.now a.ws.now a.v p.asking.looking a.want.ask a.p p.ask_bound.1)

pub overflow_add-v : goal.overflow_add-v
overflow_add-v c =
    let a = c.args in
    let z = looking-standing a.s.now a.ws.now a.v c.requires.asking.looking in
    omega arith

pub value_check-requires : goal.value_check-requires
value_check-requires c =
    let a = c.args in
    let p = c.requires in
    let r = writes_one a.s.now a.ws.now a.v a.want p.asking c.in-Writes.is in
    record { indexed = p.asking.looking.indexed; t_value = p.t_value; slots_bound = omega (arith, r, slots-are a.s.now a.t p.t_value) }

pub value_check-requires-in-WritesIndexed : goal.value_check-requires-in-WritesIndexed
value_check-requires-in-WritesIndexed c =
    let a = c.args in
    let p = c.requires in
    let r = writes-many a.s.now a.ws.now a.v a.want p.asking c.in-WritesIndexed.is in
    record { indexed = p.asking.looking.indexed; t_value = p.t_value; slots_bound = omega (arith, r, slots-are a.s.now a.t p.t_value) }

pub overflow_add-v-in-WritesIndexed : goal.overflow_add-v-in-WritesIndexed
overflow_add-v-in-WritesIndexed c =
    let a = c.args in
    let z = looking-standing a.s.now a.ws.now a.v c.requires.asking.looking in
    omega arith

pub returns-in-Nothing : goal.returns-in-Nothing
returns-in-Nothing c =
    let a = c.args in
    let p = c.requires in
    let q = c.mask_at-m.ensures ∙ ap (λ (n : ℕ). (cell_at a.ws.now n).mask) c.place_at.ensures in
    found_nothing a.s.now a.ws.now a.v p.asking.looking a.want a.p p.ask_bound.0 c.mask_at-m.result q c.in-Nothing.is

pub returns-in-First : goal.returns-in-First
returns-in-First c =
    let a = c.args in
    let p = c.requires in
    let q = c.mask_at-m.ensures ∙ ap (λ (n : ℕ). (cell_at a.ws.now n).mask) c.place_at.ensures in
    c.at_index.ensures ∙ found_first a.s.now a.ws.now a.v p.asking.looking a.want a.p p.ask_bound.0 c.mask_at-m.result q c.in-First.is

pub returns-in-Both : goal.returns-in-Both
returns-in-Both c =
    let a = c.args in
    let p = c.requires in
    let q = c.mask_at-m.ensures ∙ ap (λ (n : ℕ). (cell_at a.ws.now n).mask) c.place_at.ensures in
    c.meet.ensures ∙ rw (c.at_index-in-Both.ensures, c.at_index-in-Both-2.ensures) refl ∙ found-both a.s.now a.ws.now a.v p.asking.looking a.want a.p p.ask_bound.0 c.mask_at-m.result q c.in-Both.is

pub returns-in-Every : goal.returns-in-Every
returns-in-Every c =
    let a = c.args in
    let p = c.requires in
    let q = c.mask_at-m.ensures ∙ ap (λ (n : ℕ). (cell_at a.ws.now n).mask) c.place_at.ensures in
    c.require.ensures ∙ rw c.kind.ensures refl ∙ found-every a.s.now a.ws.now a.v p.asking.looking a.want a.p p.ask_bound.0 c.mask_at-m.result q c.in-Every.is

pub returns-in-Below : goal.returns-in-Below
returns-in-Below c =
    let a = c.args in
    let p = c.requires in
    let q = c.mask_at-m.ensures ∙ ap (λ (n : ℕ). (cell_at a.ws.now n).mask) c.place_at.ensures in
    c.require-in-Below.ensures ∙ found_below a.s.now a.ws.now a.v p.asking.looking a.want a.p p.ask_bound.0 c.mask_at-m.result q c.in-Below.is

pub returns-in-Writes : goal.returns-in-Writes
returns-in-Writes c =
    let a = c.args in
    let p = c.requires in
    let q = c.mask_at-m.ensures ∙ ap (λ (n : ℕ). (cell_at a.ws.now n).mask) c.place_at.ensures in
    c.value_check.ensures ∙ found-writes a.s.now a.ws.now a.v p.asking.looking a.want a.p p.ask_bound.0 c.mask_at-m.result q c.in-Writes.is

pub returns-in-WritesIndexed : goal.returns-in-WritesIndexed
returns-in-WritesIndexed c =
    let a = c.args in
    let p = c.requires in
    let q = c.mask_at-m.ensures ∙ ap (λ (n : ℕ). (cell_at a.ws.now n).mask) c.place_at.ensures in
    c.meet-in-WritesIndexed.ensures ∙ rw (c.value_check-in-WritesIndexed.ensures, c.at_index-in-WritesIndexed.ensures) refl ∙ found-indexed a.s.now a.ws.now a.v p.asking.looking a.want a.p p.ask_bound.0 c.mask_at-m.result q c.in-WritesIndexed.is

pub returns-in-Never : goal.returns-in-Never
returns-in-Never c =
    let a = c.args in
    let p = c.requires in
    let q = c.mask_at-m.ensures ∙ ap (λ (n : ℕ). (cell_at a.ws.now n).mask) c.place_at.ensures in
    found-never a.s.now a.ws.now a.v p.asking.looking a.want a.p p.ask_bound.0 c.mask_at-m.result q c.in-Never.is
