-- `form_rules::fits::meaning` meets its contract.
use Prim.Native.Nat.{ℕ, ◌%◌}
use native.Mathlib.Omega.{arith}
use Rattle.definition.specs.Form.{Fit, fits, fit_of}
use Rattle.form_rules.proofs.fits.Table.{read, entries}
use Rattle.form_rules.proofs.fits.meaning.Goals as goal

pub returns : goal.returns
unfolding fit_of fits
returns c = read (λ (x : ℕ). x % 100) (λ (f : Fit). f.meaning) entries tt c.args.op (omega arith)
