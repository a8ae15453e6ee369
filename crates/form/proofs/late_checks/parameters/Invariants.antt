use mathlib.Core.Path.{◌≡◌}
use Prim.Native.Nat.{◌-◌, ◌≤◌}
use lib.ListN.{length}
use lib.Seq.{sets}
use Rattle.form.specs.late_checks.Counted.{param_table}
use Rattle.form.proofs.late_checks.Looks.{rest}
use Rattle.form.proofs.late_checks.parameters.Given as goal

abbrev pub invariant-loop-p : goal.invariant-loop-p
invariant-loop-p l =
    (length l.params ≡ 64) × (l.chunk ≤ 64) × (l.left ≡ l.signatures) × (sets l.params l.chunk (rest l.s l.signatures l.p l.chunk) ≡ param_table l.s l.signatures)

abbrev pub decreases-loop-p : goal.decreases-loop-p
decreases-loop-p l = length l.s - l.p
