-- What no mode accepts is the definition's of any visit.
use Prim.Native.Nat.{ℕ}
use mathlib.Core.Path.{◌≡◌}
use mathlib.Core.Bool.{cond}
use mathlib.Core.List.{List}
use Rattle.definition.specs.Module.{module_of}
use Rattle.definition.specs.Data.{data_fault}
use Rattle.definition.specs.Leaves.{always}
use Rattle.visit.specs.declared.RowVisit.{RowVisit}
use Rattle.visit.specs.Held.{Looking, visit_in}
use Rattle.visit.proofs.Visits.{height-is, below-long}
use Rattle.visit.proofs.operands.Parts.{code_is, ins-is, rule-is}
use Rattle.checks.specs.refusals.Never.{never_proven}

-- the refusal that a visit meets whatever the mode
pub always-by : (s ws : List ℕ) (v : RowVisit) → Looking s ws v
    → always (visit_in s ws v) ≡ cond (never_proven v) 13 (data_fault (module_of s) v.ins v.rule.slots)
unfolding always never_proven
always-by s ws v x =
    rw (height-is s ws v, below-long s ws v x, ← ins-is s ws v x, ← rule-is s ws v x, code_is s ws v)
