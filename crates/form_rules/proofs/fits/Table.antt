-- A table has the numbers of the definition's lines: one test that antt computes, one entry after the other.
use mathlib.Core.Path.{◌≡◌, ◌∙◌, subst, sym}
use mathlib.Core.Bool.{Bool, true, false}
use mathlib.Core.List.{List, [], ◌∷◌}
use Prim.Native.Nat.{ℕ, zero, suc, ◌+◌, ◌<◌}
use native.Mathlib.Nat.{add-zero, zero-add, add-suc, suc-add, le_of_suc-le-suc, not-suc-le-zero}
use lib.Dec.{T, eqb, eqb→eq}
use lib.ListN.{length, get_or}
use Rattle.definition.specs.Form.{Fit, fit_of}

abbrev pub both : Bool → Bool → Bool
both true b = b
both false b = false

both_left : (a b : Bool) → T (both a b) → T a
both_left true b t = tt
both_left false b t = t

both_right : (a b : Bool) → T (both a b) → T b
both_right true b t = t
both_right false b t = absurd t

-- the test f passes at each entry of the list and its place, counted from i
abbrev pub every : (ℕ → ℕ → Bool) → ℕ → List ℕ → Bool
every f i [] = true
every f i (x ∷ xs) = both (f i x) (every f (suc i) xs)

from : (f : ℕ → ℕ → Bool) (xs : List ℕ) (i : ℕ) → T (every f i xs) → (k : ℕ) → k < length xs → T (f (i + k) (get_or xs k 0))
from f [] i t k h = absurd (not-suc-le-zero h)
from f (x ∷ xs) i t zero h = subst (λ (m : ℕ). T (f m x)) (sym (add-zero i)) (both_left (f i x) (every f (suc i) xs) t)
from f (x ∷ xs) i t (suc k) h =
    subst (λ (m : ℕ). T (f m (get_or xs k 0))) (suc-add i k ∙ sym (add-suc i k))
    (from f xs (suc i) (both_right (f i x) (every f (suc i) xs) t) k (le_of_suc-le-suc h))

-- the digits that g takes of x are the number f of line k
abbrev pub right : (ℕ → ℕ) → (Fit → ℕ) → ℕ → ℕ → Bool
right g f k x = eqb (g x) (f (fit_of k))

pub read : (g : ℕ → ℕ) (f : Fit → ℕ) (xs : List ℕ) → T (every (right g f) 0 xs) → (k : ℕ) → k < length xs → g (get_or xs k 0) ≡ f (fit_of k)
read g f xs t k h =
    eqb→eq (g (get_or xs k 0)) (f (fit_of k)) (subst (λ (m : ℕ). T (right g f m (get_or xs k 0))) (zero-add k) (from (right g f) xs 0 t k h))

-- the table of the code
abbrev pub entries : List ℕ
entries =
    0_64_1_4_01  -- Const
    ∷ 0_64_1_4_02  -- GetLocal
    ∷ 1_64_0_4_02  -- SetLocal
    ∷ 0_64_1_4_03  -- GetData
    ∷ 1_64_0_4_03  -- SetData
    ∷ 1_64_1_4_04  -- GetDataIndexed
    ∷ 1_64_0_4_04  -- SetDataIndexed
    ∷ 1_64_0_4_00  -- BoundsCheck
    ∷ 0_64_1_4_00  -- Add
    ∷ 0_64_1_4_00  -- Sub
    ∷ 0_64_1_4_00  -- Mul
    ∷ 0_64_3_3_00  -- Div
    ∷ 0_64_3_3_00  -- Mod
    ∷ 0_64_1_4_00  -- Neg
    ∷ 2_64_1_4_00  -- CmpEq
    ∷ 2_64_1_4_00  -- CmpNe
    ∷ 2_64_1_4_00  -- CmpLt
    ∷ 2_64_1_4_00  -- CmpGt
    ∷ 2_64_1_4_00  -- CmpLe
    ∷ 2_64_1_4_00  -- CmpGe
    ∷ 1_64_1_4_00  -- Not
    ∷ 1_01_0_4_05  -- If
    ∷ 0_64_0_4_05  -- Else
    ∷ 0_64_0_4_00  -- EndIf
    ∷ 0_64_0_4_05  -- Loop
    ∷ 0_64_0_4_05  -- EndLoop
    ∷ 0_64_0_4_05  -- Break
    ∷ 1_01_0_4_05  -- BreakIf
    ∷ 0_64_0_4_00  -- Stream
    ∷ 0_64_0_4_00  -- Reset
    ∷ 0_64_1_4_06  -- Call
    ∷ 0_64_0_4_00  -- Return
    ∷ 1_64_1_4_00  -- Yield
    ∷ 1_64_0_4_00  -- Dup
    ∷ 0_64_1_4_07  -- NewComposite
    ∷ 1_64_1_4_08  -- GetField
    ∷ 2_64_1_4_08  -- GetIndex
    ∷ 1_64_1_4_08  -- GetTupleField
    ∷ 1_64_1_4_08  -- GetEnumField
    ∷ 0_64_0_4_00  -- Len
    ∷ 1_01_2_2_00  -- IsEnum
    ∷ 1_01_2_2_00  -- IsStruct
    ∷ 1_64_1_4_00  -- IntToFloat
    ∷ 1_64_1_4_00  -- FloatToInt
    ∷ 1_64_1_4_00  -- WordToByte
    ∷ 1_64_1_4_00  -- ByteToWord
    ∷ 1_64_1_4_00  -- WordToFixed
    ∷ 1_64_1_4_00  -- FixedToWord
    ∷ 1_64_1_4_00  -- FixedMul
    ∷ 1_64_3_3_00  -- FixedDiv
    ∷ 0_64_0_4_00  -- Trap
    ∷ 0_64_3_3_00  -- CheckedAdd
    ∷ 0_64_3_3_00  -- CheckedSub
    ∷ 0_64_3_3_00  -- CheckedMul
    ∷ 0_64_3_3_00  -- CheckedNeg
    ∷ 0_64_3_3_00  -- CheckedDiv
    ∷ 0_64_3_3_00  -- CheckedMod
    ∷ 0_64_1_4_09  -- PushImmediate
    ∷ 0_64_0_4_00  -- PopN
    ∷ 1_64_1_4_00  -- BitAnd
    ∷ 1_64_1_4_00  -- BitOr
    ∷ 1_64_1_4_00  -- BitXor
    ∷ 2_64_1_4_00  -- Shl
    ∷ 2_64_1_4_00  -- Shr
    ∷ 0_64_1_4_10  -- CallVerifiedNative
    ∷ 0_64_1_4_10  -- CallExternalNative
    ∷ []
