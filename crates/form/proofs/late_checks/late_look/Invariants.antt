use Prim.Native.Nat.{◌-◌}
use lib.ListN.{length}
use Rattle.description.specs.Fields.{fields_from}
use Rattle.definition.specs.Form.{late_look}
use Rattle.form.specs.late_checks.Counted.{param_list}
use Rattle.form.proofs.late_checks.Looks.{Looking}
use Rattle.form.proofs.late_checks.late_look.Given as goal

abbrev pub invariant-loop-at : goal.invariant-loop-at
invariant-loop-at l =
    Looking l.s l.params l.at l.chunk l.instr (late_look l.s (param_list l.s l.signatures) 0 0 (fields_from l.s 0))

abbrev pub decreases-loop-at : goal.decreases-loop-at
decreases-loop-at l = length l.s - l.at
