-- `run::run_first` meets its contract.
use Rattle.std.proofs.Common.{◌≡◌, Err, rules}
use Rattle.run.proofs.Ways.{first-stop, first-over, first-due, due-ready}
use Rattle.run.proofs.run_first.Goals as goal

pub run_to-requires : goal.run_to-requires
run_to-requires c =
    let z = due-ready _ _ _ c.args.limit c.requires.false_value c.in-Some.r (rw c.in-Some.is at (rw c.in_ok-open_round.was at c.open_round.ensures)) in record { between = z.0; count_nonzero = z.1.0; t_value = c.requires.t_value; steps_le_limit = z.1.1 }

pub returns-in_err-open_round : goal.returns-in_err-open_round
returns-in_err-open_round c =
    let e : c.from_residual.result ≡ Err c.in_err-open_round.field-0.0 = search rules in
    rw e (first-stop _ _ _ _ c.requires.false_value c.in_err-open_round.field-0.0 (rw c.in_err-open_round.was at c.open_round.ensures))

pub returns-in-None : goal.returns-in-None
returns-in-None c =
    first-over _ _ _ _ c.requires.false_value (rw c.in-None.is at (rw c.in_ok-open_round.was at c.open_round.ensures))

pub returns-in-Some : goal.returns-in-Some
returns-in-Some c =
    first-due _ _ _ _ c.requires.false_value c.in-Some.r (rw c.in-Some.is at (rw c.in_ok-open_round.was at c.open_round.ensures)) _ _ c.run_to.ensures
