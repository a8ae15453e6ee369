-- `index::entries::shared_kind` meets its contract.
use native.Mathlib.Omega.{arith}
use mathlib.Core.Path.{sym, ◌∙◌}
use Rattle.layout.proofs.Read.{shared-small, shared-is}
use Rattle.index.proofs.entries.shared_kind.Goals as goal

pub overflow_mul-slot : goal.overflow_mul-slot
overflow_mul-slot c =
    let a = c.args in
    let p = c.requires in
    omega (arith, p.good.long, shared-small a.s.now a.t p.t_value _ p.good a.slot p.slot_lt_shared)

pub overflow_add-t : goal.overflow_add-t
overflow_add-t c =
    let a = c.args in
    let p = c.requires in
    omega (arith, p.good.long, shared-small a.s.now a.t p.t_value _ p.good a.slot p.slot_lt_shared)

pub overflow_add-t-2 : goal.overflow_add-t-2
overflow_add-t-2 c =
    let a = c.args in
    let p = c.requires in
    omega (arith, p.good.long, shared-small a.s.now a.t p.t_value _ p.good a.slot p.slot_lt_shared)

pub u8_at-requires : goal.u8_at-requires
u8_at-requires c = tt

pub returns : goal.returns
returns c =
    let a = c.args in
    let p = c.requires in
    c.u8_at.ensures ∙ sym (shared-is a.s.now a.t p.t_value _ p.good a.slot p.slot_lt_shared)
