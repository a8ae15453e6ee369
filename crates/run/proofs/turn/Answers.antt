use Rattle.run.proofs.Ways.{turned-stop, turned_on, took-between}
use Rattle.std.proofs.Common.{◌≡◌, Err, rules}
use native.Mathlib.Omega.{arith}
use Rattle.run.proofs.turn.Goals as goal

pub settled-requires : goal.settled-requires
settled-requires c =
    record { between = took-between _ _ _ _ _ _ _ (rw c.in_ok-next.was at c.take.ensures); t_value = c.requires.t_value }

pub returns-in_err-next : goal.returns-in_err-next
returns-in_err-next c =
    let e : c.from_residual.result ≡ Err c.in_err-next.field-0.0 = search rules in
    rw e (turned-stop _ _ _ c.requires.between c.requires.count_nonzero _ c.in_err-next.field-0.0 (rw c.in_err-next.was at c.take.ensures) (omega (arith, c.take.auto)))

pub returns : goal.returns
returns c =
    turned_on _ _ _ c.requires.between c.requires.count_nonzero _ _ c.in_ok-next.next _ (rw c.in_ok-next.was at c.take.ensures) c.settled.ensures
