use Prim.Native.Nat.{◌+◌, ◌*◌, ◌-◌}
use mathlib.Core.Path.{◌≡◌}
use mathlib.Core.Bool.{◌&&◌}
use Rattle.definition.specs.Form.{shapes_fine}
use Rattle.form_rules.proofs.contents.shapes_fine.Given as goal

abbrev pub invariant-loop-k : goal.invariant-loop-k
invariant-loop-k l = (l.fine && shapes_fine l.s (l.from + 7 * l.k) (l.count - l.k)) ≡ shapes_fine l.s l.from l.count
