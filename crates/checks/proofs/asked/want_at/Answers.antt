-- `checks::asked::want_at` meets its contract.
use native.Mathlib.Omega.{arith}
use mathlib.Core.Path.{◌∙◌}
use Rattle.visit.proofs.Visits.{looking-standing}
use Rattle.checks.proofs.asked.Wanted.{field_room, place-room, want_is}
use Rattle.checks.proofs.asked.want_at.Goals as goal

pub common_kinds-requires : goal.common_kinds-requires
common_kinds-requires c =
    let a = c.args in
    looking-standing a.s.now a.ws.now a.v c.requires.looking

pub pair_kinds-requires : goal.pair_kinds-requires
pair_kinds-requires c =
    let a = c.args in
    looking-standing a.s.now a.ws.now a.v c.requires.looking

pub declared_mask-requires : goal.declared_mask-requires
declared_mask-requires c =
    let a = c.args in
    let x = c.requires.looking in
    (omega (arith, field_room a.s.now a.ws.now a.v x), omega (arith, place-room a.s.now a.ws.now a.v x a.ch c.requires.ch_value))

pub returns : goal.returns
returns c =
    let a = c.args in
    c.want_of.ensures
    ∙ want_is a.s.now a.ws.now a.v c.requires.looking a.ch c.requires.ch_value
    c.common_kinds.result c.pair_kinds.result c.declared_mask.result a.entry
    c.common_kinds.ensures c.pair_kinds.ensures c.declared_mask.ensures c.requires.value
