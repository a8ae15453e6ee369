-- Document 02, Five: the list of cases answers as the bit count of types.rs does, for every u16 mask. A folded mask of one set bit is 2 to a number
-- below 16, and not 4096; any other is none of the bits that are named.
use Prim.Native.Nat.{ℕ, ◌/◌, ◌%◌, ◌^◌, ◌<◌}
use mathlib.Core.Path.{◌≡◌, refl, sym, ap, ◌∙◌}
use mathlib.Core.Bool.{Bool, true, false, cond, true≢false}
use native.Mathlib.Nat.{lt_of_not-le, not-le_of_lt, div-eq_of_lt}
use native.Mathlib.Omega.{arith}
use lib.Bits.{bit_or, bit_and, and_le_r, or_lt, or_shr, and_shr, and_mod, and_zero_r, or_zero_r}
use lib.Count.{ones, count_trailing_zeros}
use lib.Dec.{eqb, lit<}
use lib.Pow.{pow_mono}
use borrow.Author.Count.{below_none, below_more}
use borrow.Author.Tests.{eqb-true, ne_eqb}
use Rattle.masks.specs.declared.Mask.{Mask}
use Rattle.masks.specs.declared.OperandKind.{OperandKind}
use Rattle.masks.specs.declared.OperandKind.TheVariants.{Int, Fixed, Float, Unknown}
use Rattle.masks.specs.Mask.{of, kind, one_kind, operand_cases, operand_kind, operand_counted}
use Rattle.masks.proofs.Single.{one_set, set-once}

-- what the fold adds to the bits that stay is small
false-small : (none : Bool) → cond none 0 2 < 4096
false-small true = lit< tt
false-small false = lit< tt

-- the bits that stay, and a small number more: below 2 ^ 16, and without the bit of TRUE
stay-below : (n x : ℕ) → x < 4096 → bit_or (bit_and n 61439) x < 65536
stay-below n x small = or_lt 16 (bit_and n 61439) x (omega (arith, and_le_r n 61439)) (omega (arith, small))

stay-without : (n x : ℕ) → x < 4096 → bit_or (bit_and n 61439) x / 4096 % 2 ≡ 0
stay-without n x small =
    ap (λ (y : ℕ). y % 2) (or_shr (bit_and n 61439) x 12 ∙ ap (bit_or (bit_and n 61439 / 4096)) (div-eq_of_lt small) ∙ or_zero_r _ ∙ and_shr n 61439 12)
    ∙ and_mod (n / 4096) 14 1 ∙ and_zero_r (n / 4096 % 2)

folded-below : (m : Mask) → (kind m).bits < 65536
unfolding kind
folded-below m = stay-below m.bits _ (false-small (eqb (bit_and m.bits 4096) 0))

true-gone : (m : Mask) → (kind m).bits ≡ 4096 → ⊥
unfolding kind
true-gone m p = omega (arith, stay-without m.bits _ (false-small (eqb (bit_and m.bits 4096) 0)), p)

-- what the count says of the folded mask n, which is of one kind or isn't
abbrev by_count : Bool → ℕ → OperandKind
by_count one n = cond (eqb n 32) Float (cond (eqb n 16) Fixed (cond one Int Unknown))

abbrev Single : ℕ → Type 0
Single j = (j ≡ 12 → ⊥) → operand_cases (of (2 ^ j)) ≡ by_count true (2 ^ j)

single : (j : ℕ) → j < 16 → Single j
unfolding operand_cases
single =
    below_more Single 15
    (below_more Single 14
    (below_more Single 13
    (below_more Single 12
    (below_more Single 11
    (below_more Single 10
    (below_more Single 9
    (below_more Single 8
    (below_more Single 7
    (below_more Single 6
    (below_more Single 5
    (below_more Single 4
    (below_more Single 3
    (below_more Single 2
    (below_more Single 1
    (below_more Single 0
    (below_none Single)
    (λ no. refl))  -- UNIT
    (λ no. refl))  -- FALSE
    (λ no. refl))  -- BYTE
    (λ no. refl))  -- WORD
    (λ no. refl))  -- FIXED
    (λ no. refl))  -- FLOAT
    (λ no. refl))  -- TEXT
    (λ no. refl))  -- OPAQUE
    (λ no. refl))  -- TUPLE
    (λ no. refl))  -- ARRAY
    (λ no. refl))  -- STRUCT
    (λ no. refl))  -- ENUM
    (λ no. absurd (no refl)))  -- TRUE
    (λ no. refl))  -- 8192
    (λ no. refl))  -- 16384
    (λ no. refl)  -- 32768

-- "It answers as the bit count did for every u16 mask"
pub operand-counted : (m : Mask) → operand_kind m ≡ operand_counted m
unfolding operand_kind operand_cases operand_counted one_kind
operand-counted m = go (one_kind m) refl
  where
    n : ℕ
    n = (kind m).bits

    j : ℕ
    j = count_trailing_zeros 16 n

    go : (one : Bool) → one_kind m ≡ one → operand_kind m ≡ operand_counted m
    go true e =
        let p : n ≡ 2 ^ j = one_set 16 n (folded-below m) (eqb-true (ones n) 1 e) in
        let below : j < 16 = lt_of_not-le (λ g. not-le_of_lt (folded-below m) (rw p (pow_mono g))) in
        let other : j ≡ 12 → ⊥ = λ t. true-gone m (p ∙ ap (λ (x : ℕ). 2 ^ x) t) in
        ap (λ (x : ℕ). operand_cases (of x)) p ∙ single j below other ∙ ap (by_count true) (sym p) ∙ ap (λ (b : Bool). by_count b n) (sym e)
    go false e = rw (apart 0, apart 1, apart 2, apart 3, apart 4, apart 5, apart 6, apart 7, apart 8, apart 9, apart 10, apart 11, apart 13, apart 14, apart 15, e)
      where
        apart : (k : ℕ) → eqb n (2 ^ k) ≡ false
        apart k = ne_eqb n (2 ^ k) (λ p. true≢false (sym (ap (λ (x : ℕ). eqb x 1) (ap ones p ∙ set-once k)) ∙ e))
