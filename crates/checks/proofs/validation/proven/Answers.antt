-- `checks::validation::proven` meets its contract.
use mathlib.Core.Path.{sym, ◌∙◌}
use mathlib.Core.Bool.{true, false}
use Rattle.checks.specs.asked.Proving.{Asking}
use Rattle.checks.proofs.asked.Checked.{unfit-never, unfit-unproven, unfit-packed}
use Rattle.checks.proofs.validation.proven.Goals as goal

pub returns-then-is_never : goal.returns-then-is_never
returns-then-is_never c =
    let a = c.args in
    let p = c.requires in
    let k : Asking a.s.now a.ws.now a.v c.want_at-want.result = record { looking = p.looking; fine = p.v_value; want = c.want_at-want.ensures } in
    unfit-never a.s.now a.ws.now a.v c.want_at-want.result k (sym c.is_never.ensures ∙ c.if-is_never.true)

pub places_proven-requires : goal.places_proven-requires
places_proven-requires c =
    let a = c.args in
    let p = c.requires in
    let k : Asking a.s.now a.ws.now a.v c.want_at-want.result = record { looking = p.looking; fine = p.v_value; want = c.want_at-want.ensures } in
    record { asking = k; t_value = p.t_value }

pub returns-then-not-places_proven : goal.returns-then-not-places_proven
returns-then-not-places_proven c =
    let a = c.args in
    let p = c.requires in
    let k : Asking a.s.now a.ws.now a.v c.want_at-want.result = record { looking = p.looking; fine = p.v_value; want = c.want_at-want.ensures } in
    unfit-unproven a.s.now a.ws.now a.v c.want_at-want.result k (sym c.is_never.ensures ∙ c.if-is_never.false)
    (sym c.places_proven.ensures ∙ c.if-not-places_proven.true)

pub returns-then-unpacked : goal.returns-then-unpacked
returns-then-unpacked c =
    let a = c.args in
    let p = c.requires in
    let k : Asking a.s.now a.ws.now a.v c.want_at-want.result = record { looking = p.looking; fine = p.v_value; want = c.want_at-want.ensures } in
    unfit-packed a.s.now a.ws.now a.v c.want_at-want.result k (sym c.is_never.ensures ∙ c.if-is_never.false)
    (sym c.places_proven.ensures ∙ c.if-not-places_proven.false) true (sym c.unpacked.ensures ∙ c.if-unpacked.true)

pub returns : goal.returns
returns c =
    let a = c.args in
    let p = c.requires in
    let k : Asking a.s.now a.ws.now a.v c.want_at-want.result = record { looking = p.looking; fine = p.v_value; want = c.want_at-want.ensures } in
    unfit-packed a.s.now a.ws.now a.v c.want_at-want.result k (sym c.is_never.ensures ∙ c.if-is_never.false)
    (sym c.places_proven.ensures ∙ c.if-not-places_proven.false) false (sym c.unpacked.ensures ∙ c.if-unpacked.false)
