-- `propagate::go_all` meets its contract: no way, one, or two, of which the first leaves the row of the visit as it was. What the first came to
-- is searched for, whatever the form in which a refusal is passed on; so an edit that passes on another is refused for what it says.
use native.Mathlib.Omega.{arith}
use Rattle.std.proofs.Common.{◌≡◌, Ok, Err, rules}
use Rattle.visit.proofs.Visits.{looking-standing}
use Rattle.propagate.proofs.Twice.{no-ways, one_way, two-stop, stands_after, two_ways}
use Rattle.propagate.proofs.go_all.Goals as goal

pub operand-condition-requires : goal.operand-condition-requires
operand-condition-requires c =
    let a = c.args in
    record { standing = looking-standing a.s.now a.ws.now a.v c.requires.looking; k_bound = omega arith }

pub exit_of-exit-requires : goal.exit_of-exit-requires
exit_of-exit-requires c =
    let a = c.args in
    let k = c.requires.looking in
    omega (arith, k.at, (k.indexed.good.each_chunk a.v.chunk k.chunk).code)

pub ways_of-requires : goal.ways_of-requires
ways_of-requires c =
    let a = c.args in
    let k = c.requires.looking in
    omega (arith, k.at, (k.indexed.good.each_chunk a.v.chunk k.chunk).code)

pub go-requires-in-Two-2 : goal.go-requires-in-Two-2
go-requires-in-Two-2 c =
    let a = c.args in
    let on : c.go-in-Two.result ≡ Ok c.in_ok-q-in-Two.q = search rules in
    record { pass_ready = stands_after a.s.now a.ws.now a.t a.ch a.v a.l a.q c.requires c.operand-condition.result c.operand-condition.ensures c.exit_of-exit.result c.exit_of-exit.ensures c.ways_of.result c.ways_of.ensures c.in-Two.next c.in-Two.target c.in-Two.is c.go-in-Two.new.ws c.in_ok-q-in-Two.q (rw on at c.go-in-Two.ensures.passed) c.go-in-Two.ensures.beside; value = c.exit_of-exit.ensures }

pub returns-in-Zero : goal.returns-in-Zero
returns-in-Zero c =
    let a = c.args in
    no-ways a.s.now a.ws.now a.t a.ch a.v a.l a.q c.requires c.operand-condition.result c.operand-condition.ensures c.exit_of-exit.result c.exit_of-exit.ensures c.ways_of.result c.ways_of.ensures c.in-Zero.is

pub returns-in-One : goal.returns-in-One
returns-in-One c =
    let a = c.args in
    one_way a.s.now a.ws.now a.t a.ch a.v a.l a.q c.requires c.operand-condition.result c.operand-condition.ensures c.exit_of-exit.result c.exit_of-exit.ensures c.ways_of.result c.ways_of.ensures c.in-One.to c.in-One.is c.go.new.ws c.go.result c.go.ensures.passed

pub returns-in_err-q-in-Two : goal.returns-in_err-q-in-Two
returns-in_err-q-in-Two c =
    let a = c.args in
    let e : c.from_residual.result ≡ Err c.in_err-q-in-Two.field-0.0 = search rules in
    let stop : c.go-in-Two.result ≡ Err c.in_err-q-in-Two.field-0.0 = search rules in
    rw e (two-stop a.s.now a.ws.now a.t a.ch a.v a.l a.q c.requires c.operand-condition.result c.operand-condition.ensures c.exit_of-exit.result c.exit_of-exit.ensures c.ways_of.result c.ways_of.ensures c.in-Two.next c.in-Two.target c.in-Two.is c.go-in-Two.new.ws c.in_err-q-in-Two.field-0.0 (rw stop at c.go-in-Two.ensures.passed))

pub returns-in_ok-q-in-Two : goal.returns-in_ok-q-in-Two
returns-in_ok-q-in-Two c =
    let a = c.args in
    let on : c.go-in-Two.result ≡ Ok c.in_ok-q-in-Two.q = search rules in
    two_ways a.s.now a.ws.now a.t a.ch a.v a.l a.q c.requires c.operand-condition.result c.operand-condition.ensures c.exit_of-exit.result c.exit_of-exit.ensures c.ways_of.result c.ways_of.ensures c.in-Two.next c.in-Two.target c.in-Two.is c.go-in-Two.new.ws c.in_ok-q-in-Two.q (rw on at c.go-in-Two.ensures.passed) c.go-in-Two.ensures.beside c.go-in-Two-2.new.ws c.go-in-Two-2.result c.go-in-Two-2.ensures.passed
