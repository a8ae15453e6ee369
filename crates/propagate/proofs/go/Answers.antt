-- `propagate::go` meets its contract: a way that is cut or leads past the end passes nothing; any other is passed.
use native.Mathlib.Omega.{arith}
use Rattle.visit.proofs.Visits.{looking-standing}
use Rattle.propagate.proofs.Turns.{row_fits, none_pass, open-on, one-pass}
use Rattle.propagate.proofs.go.Goals as goal

pub operand-requires : goal.operand-requires
operand-requires c =
    let a = c.args in
    record { standing = looking-standing a.s.now a.ws.now a.v c.requires.pass_ready.looking; k_bound = omega arith }

pub cut-requires : goal.cut-requires
cut-requires c =
    let a = c.args in
    let x = c.requires.pass_ready in
    row_fits a.s.now a.ws.now a.t a.ch a.v a.l a.q x

pub returns-then-cut-ch : goal.returns-then-cut-ch
returns-then-cut-ch c =
    let a = c.args in
    let x = c.requires.pass_ready in
    let r = none_pass a.s.now a.ws.now a.t a.ch a.v a.l a.q x a.to c.narrowing-narrow.result c.operand.result c.operand.ensures a.exit c.requires.value c.narrowing-narrow.ensures c.cut.result c.cut.ensures c.if-cut-ch.true in
    record { passed = r.0; beside = r.1 }

pub pass-requires : goal.pass-requires
pass-requires c =
    let a = c.args in
    let x = c.requires.pass_ready in
    open-on a.s.now a.ws.now a.t a.ch a.v a.l a.q x a.to c.narrowing-narrow.result c.operand.result c.operand.ensures a.exit c.requires.value c.narrowing-narrow.ensures c.cut.result c.cut.ensures c.if-cut-ch.false c.narrowed_local.result c.narrowed_local.ensures

pub returns : goal.returns
returns c =
    let a = c.args in
    let x = c.requires.pass_ready in
    let r = one-pass a.s.now a.ws.now a.t a.ch a.v a.l a.q x a.to c.narrowing-narrow.result c.operand.result c.operand.ensures a.exit c.requires.value c.narrowing-narrow.ensures c.cut.result c.cut.ensures c.if-cut-ch.false c.narrowed_local.result c.narrowed_local.ensures c.pass.new.ws c.pass.result c.pass.ensures in
    record { passed = r.0; beside = r.1 }
