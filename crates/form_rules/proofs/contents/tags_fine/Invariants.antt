use Prim.Native.Nat.{◌+◌, ◌-◌}
use mathlib.Core.Path.{◌≡◌}
use mathlib.Core.Bool.{◌&&◌}
use Rattle.definition.specs.Form.{tags_fine}
use Rattle.form_rules.proofs.contents.tags_fine.Given as goal

abbrev pub invariant-loop-k : goal.invariant-loop-k
invariant-loop-k l = (l.fine && tags_fine l.s (l.from + l.k) (l.count - l.k)) ≡ tags_fine l.s l.from l.count
