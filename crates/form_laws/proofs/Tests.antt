-- Tests that fail together, and the lowest of four faults.
use native.Mathlib.Omega.{arith}
use mathlib.Core.Path.{◌≡◌, refl}
use mathlib.Core.Bool.{Bool, true, false, ◌&&◌}
use Rattle.definition.specs.Form.{lowest}
use Rattle.masks.proofs.Both.{never}
use Prim.Native.Nat.{ℕ, zero, suc, ◌<◌}

-- the first of two tests holds, so the second doesn't
pub and-off : (a b : Bool) → (a && b) ≡ false → a ≡ true → b ≡ false
and-off true b e f = e
and-off false b e f = never f

-- no fault: every test failed
pub none_of : (a b c d : Bool) → lowest a b c d ≡ 0 → (a ≡ false) × (b ≡ false) × (c ≡ false) × (d ≡ false)
none_of true b c d e = absurd (omega arith)
none_of false true c d e = absurd (omega arith)
none_of false false true d e = absurd (omega arith)
none_of false false false true e = absurd (omega arith)
none_of false false false false e = (refl, refl, refl, refl)

pub ne-pos : (n : ℕ) → (n ≡ 0 → ⊥) → 0 < n
ne-pos zero d = absurd (d refl)
ne-pos (suc n) d = omega arith
