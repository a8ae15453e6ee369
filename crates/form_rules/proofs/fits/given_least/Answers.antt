-- `form_rules::fits::given_least` meets its contract.
use Prim.Native.Nat.{ℕ, ◌/◌, ◌%◌}
use native.Mathlib.Omega.{arith}
use Rattle.definition.specs.Form.{Fit, fits, fit_of}
use Rattle.form_rules.proofs.fits.Table.{read, entries}
use Rattle.form_rules.proofs.fits.given_least.Goals as goal

pub returns : goal.returns
unfolding fit_of fits
returns c = read (λ (x : ℕ). x / 1000 % 10) (λ (f : Fit). f.given_least) entries tt c.args.op (omega arith)
