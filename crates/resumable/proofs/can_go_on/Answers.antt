-- `resumable::can_go_on` meets its contract.
use native.Mathlib.Omega.{arith}
use Rattle.layout.proofs.Read.{chunks-are}
use Rattle.resumable.proofs.Decides.{no}
use Rattle.resumable.proofs.GoOn.{base-is, not_there, go-decided}
use Rattle.resumable.proofs.can_go_on.Goals as goal

pub returns-then-t-c : goal.returns-then-t-c
returns-then-t-c c =
    let a = c.args in
    let l = chunks-are a.s.now a.t c.requires.t_value in
    no (not_there a.s.now a.ws.now a.r (omega (arith, c.if-t-c.true)))

pub chunk_at-ch-requires : goal.chunk_at-ch-requires
chunk_at-ch-requires c =
    let l = chunks-are c.args.s.now c.args.t c.requires.t_value in
    record { indexed = c.requires.prepared.indexed; c_in_bounds = omega (arith, c.if-t-c.false) }

pub is_due-requires : goal.is_due-requires
is_due-requires c = omega (arith, base-is c.args.s.now c.args.t c.requires.t_value, c.requires.prepared.room)

pub rows_low-requires : goal.rows_low-requires
rows_low-requires c =
    let l = chunks-are c.args.s.now c.args.t c.requires.t_value in
    record { indexed = c.requires.prepared.indexed; c_in_bounds = omega (arith, c.if-t-c.false) }

pub low_before-requires : goal.low_before-requires
low_before-requires c =
    let l = chunks-are c.args.s.now c.args.t c.requires.t_value in
    record { indexed = c.requires.prepared.indexed; n_in_bounds = omega (arith, c.if-t-c.false) }

pub returns : goal.returns
returns c =
    let a = c.args in
    let l = chunks-are a.s.now a.t c.requires.t_value in
    go-decided a.s.now a.ws.now a.t c.requires.prepared c.requires.t_value a.r (omega (arith, c.if-t-c.false)) c.chunk_at-ch.result c.chunk_at-ch.ensures
    c.is_due.result c.rows_low.result c.low_before.result c.is_due.ensures c.rows_low.ensures c.low_before.ensures
