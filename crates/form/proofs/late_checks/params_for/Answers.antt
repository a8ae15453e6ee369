-- `form::late_checks::params_for` meets its contract.
use mathlib.Core.Path.{sym}
use lib.ListN.{get_or-eq_default}
use native.Mathlib.Omega.{arith}
use Rattle.form.proofs.late_checks.params_for.Goals as goal

pub returns : goal.returns
returns c = sym (get_or-eq_default c.args.params 0 {n = c.args.callee} (omega arith))
