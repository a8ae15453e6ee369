-- `report_size::recorded::branch_value` meets its contract.
use Prim.Native.Nat.{ℕ}
use mathlib.Core.Path.{◌≡◌, ◌∙◌, refl, ap}
use mathlib.Core.Bool.{Bool, true, false, cond}
use mir.Val.{bool_byte}
use Rattle.masks.specs.declared.Mask.{Mask}
use Rattle.masks.specs.Mask.{same}
use Rattle.masks.specs.Names.{TRUE}
use Rattle.report_size.specs.recorded.Told.{way_in}
use Rattle.report_size.proofs.recorded.branch_value.Goals as goal

bit-is : (b : Bool) → bool_byte b ≡ cond {A = ℕ} b 1 0
bit-is true = refl
bit-is false = refl

pub returns : goal.returns
unfolding way_in
returns c = rw (c.from.ensures, c.eq.ensures) (bit-is _ ∙ ap (λ (m : Mask). cond {A = ℕ} (same m TRUE) 1 0) c.top_mask-m.ensures)
