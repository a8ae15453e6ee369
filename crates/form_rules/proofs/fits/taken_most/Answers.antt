-- `form_rules::fits::taken_most` meets its contract.
use Prim.Native.Nat.{ℕ, ◌/◌, ◌%◌}
use native.Mathlib.Omega.{arith}
use Rattle.definition.specs.Form.{Fit, fits, fit_of}
use Rattle.form_rules.proofs.fits.Table.{read, entries}
use Rattle.form_rules.proofs.fits.taken_most.Goals as goal

pub returns : goal.returns
unfolding fit_of fits
returns c = read (λ (x : ℕ). x / 10000 % 100) (λ (f : Fit). f.taken_most) entries tt c.args.op (omega arith)
