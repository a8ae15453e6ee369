-- The bytes of four extents; a write, its bytes said otherwise; how long a cell is.
use mathlib.Core.Path.{◌≡◌}
use mathlib.Core.List.{List, [], ◌∷◌, ◌++◌, append-nil}
use Prim.Native.Nat.{ℕ}
use native.Mathlib.Omega.{arith}
use lib.ListN.{length, get_or}
use Rattle.extents.specs.declared.Extent.{Extent}
use Rattle.le.specs.Wrote.{WroteN}
use Rattle.definition.specs.Report.{body_bytes, bodies_bytes}

-- the same write, its bytes said otherwise
pub said : {l l' : List ℕ} {at r n : ℕ} {a b : List ℕ} → WroteN l at n a l' r → a ≡ b → WroteN l at n b l' r
said w e = record { bytes = rw (← e) w.bytes; size = rw (← e) w.size; next = w.next }

-- the four extents of an array
pub four : (b : List Extent) (d : Extent) → length b ≡ 4
    → body_bytes (get_or b 0 d).body ++ (body_bytes (get_or b 1 d).body ++ (body_bytes (get_or b 2 d).body ++ body_bytes (get_or b 3 d).body)) ≡ bodies_bytes b
unfolding bodies_bytes
four (e0 ∷ e1 ∷ e2 ∷ e3 ∷ []) d h = simp append-nil
four [] d h = absurd (omega arith)
four (e0 ∷ []) d h = absurd (omega arith)
four (e0 ∷ e1 ∷ []) d h = absurd (omega arith)
four (e0 ∷ e1 ∷ e2 ∷ []) d h = absurd (omega arith)
four (e0 ∷ e1 ∷ e2 ∷ e3 ∷ e4 ∷ es) d h = absurd (omega arith)
