-- `report_size::counting::row_records` meets its contract.
use Prim.Native.Nat.{ℕ, ◌≤◌}
use native.Mathlib.Omega.{arith}
use mathlib.Core.Path.{◌≡◌, refl}
use mathlib.Core.Bool.{Bool, true, false, cond}
use mir.Val.{bool_byte}
use Rattle.report_size.proofs.counting.row_records.Goals as goal

bit-is : (b : Bool) → (bool_byte b ≡ cond {A = ℕ} b 1 0) × (bool_byte b ≤ 1)
bit-is true = (refl, omega arith)
bit-is false = (refl, omega arith)

pub returns : goal.returns
returns c = rw (c.from.ensures, c.is_recorded.ensures) (bit-is _)
