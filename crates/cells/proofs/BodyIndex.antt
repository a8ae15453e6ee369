-- The trailing zeros of a mask of one kind say which kind it is; if it is a body's, they are 8 to 11.
use Prim.Native.Nat.{ℕ, ◌+◌, ◌-◌, ◌^◌, ◌≤◌, ◌<◌}
use mathlib.Core.Path.{◌≡◌, refl, sym, ap, ◌∙◌}
use mathlib.Core.Bool.{Bool, true, false, ◌&&◌}
use native.Mathlib.Omega.{arith}
use lib.Bits.{bit_and, and_shifted, and_comm}
use lib.Count.{ones, count_trailing_zeros}
use lib.Dec.{eqb, ltb}
use lib.Pow.{pow-lt, pow-add}
use borrow.Author.Tests.{ltb-true, ltb-false, eqb-true, eqb-false, not-true}
use Rattle.masks.proofs.Both.{both}
use Rattle.masks.proofs.Single.{one_set}
use Rattle.masks.specs.declared.Mask.{Mask}
use Rattle.masks.specs.Mask.{of, kind, one_kind, has}

-- a power of two that has a bit of 3840 is one of bits 8 to 11
pub body-bit : (t : ℕ) → (bit_and (2 ^ t) 3840 ≡ 0 → ⊥) → (8 ≤ t) × (t < 12)
body-bit t some = (low (ltb t 8) refl, high (ltb t 12) refl)
  where
    low : (b : Bool) → ltb t 8 ≡ b → 8 ≤ t
    low true e = absurd (some (and_comm (2 ^ t) 3840 ∙ and_shifted 15 8 (2 ^ t) (pow-lt (ltb-true t 8 e))))
    low false e = ltb-false t 8 e

    high : (b : Bool) → ltb t 12 ≡ b → t < 12
    high true e = ltb-true t 12 e
    high false e = let k : t - 12 + 12 ≡ t = omega (arith, ltb-false t 12 e) in absurd (some (rw (← k, pow-add 2 (t - 12) 12) (and_shifted (2 ^ (t - 12)) 12 3840 (omega arith))))

-- the body kind of a mask m of one kind, folded to k
pub body-index : (m k : Mask) (one some : Bool) → k.bits < 65536 → k ≡ kind m → one ≡ one_kind m → some ≡ has k (of 3840) → one && some ≡ true
    → (8 ≤ count_trailing_zeros 16 k.bits) × (count_trailing_zeros 16 k.bits < 12)
unfolding one_kind
body-index m k one some h p q r e =
    let (a, b) = both one some e in
    let s : ones k.bits ≡ 1 = eqb-true _ _ (ap (λ (x : Mask). eqb (ones x.bits) 1) p ∙ sym q ∙ a) in
    body-bit (count_trailing_zeros 16 k.bits)
    (λ z. eqb-false (bit_and k.bits 3840) 0 (not-true _ (sym r ∙ b)) (rw (one_set 16 k.bits h s) z))
