-- How long the lines of a listing can be: a number has at most ten digits.
use Prim.Native.Nat.{ℕ, zero, suc, ◌+◌, ◌*◌, ◌/◌, ◌%◌, ◌≤◌}
use native.Mathlib.Omega.{arith}
use mathlib.Core.Path.{◌≡◌}
use mathlib.Core.Bool.{Bool, true, false, cond}
use mathlib.Core.List.{List, [], ◌∷◌, ◌++◌}
use lib.Dec.{eqb, ltb}
use lib.ListN.{length, length-append}
use Rattle.le.specs.Le.{at8, at16, at32}
use Rattle.answers.specs.declared.Refusal.{Refusal}
use Rattle.description.specs.Fields.{tag_at}
use Rattle.listing.specs.Decimal.{digit_of, digits_from, decimal}
use Rattle.listing.specs.Listing.{refused_word, accepted_word, reply_word, stack_word, locals_word, none_word, inspection_word, branch_word, spaced, pair_of, last_of, refused_line, accepted_line, masks_from, masks_of, named_of, cells_of, record_line, inspection_line, branch_line, field_line}

-- ---- numbers
digit-long : (p n : ℕ) → length (digit_of p n) ≤ 1
unfolding digit_of
digit-long p n = go (ltb n p)
  where
    go : (b : Bool) → length (cond b [] ((48 + n / p % 10) ∷ [])) ≤ 1
    go true = omega arith
    go false = omega arith

digits_long : (k p n : ℕ) → length (digits_from k p n) ≤ k + 1
unfolding digits_from
digits_long zero p n = omega arith
digits_long (suc k) p n = omega (arith, length-append (digit_of p n) (digits_from k (p / 10) n), digit-long p n, digits_long k (p / 10) n)

number-long : (n : ℕ) → length (decimal n) ≤ 10
unfolding decimal
number-long n = omega (arith, digits_long 9 1000000000 n)

spaced-long : (n : ℕ) → length (spaced n) ≤ 11
unfolding spaced
spaced-long n = omega (arith, number-long n)

pair-long : (a b : ℕ) → length (pair_of a b) ≤ 22
unfolding pair_of
pair-long a b = omega (arith, length-append (spaced a) (spaced b), spaced-long a, spaced-long b)

last-long : (n : ℕ) → length (last_of n) ≤ 12
unfolding last_of
last-long n = omega (arith, length-append (spaced n) (10 ∷ []), spaced-long n)

-- ---- masks: the word `-`, or eleven bytes for each cell
masks-from-long : (s : List ℕ) (q n : ℕ) → length (masks_from s q n) ≤ 11 * n
unfolding masks_from
masks-from-long s q zero = omega arith
masks-from-long s q (suc n) = omega (arith, length-append (spaced (at16 s q)) (masks_from s (q + 49) n), spaced-long (at16 s q), masks-from-long s (q + 49) n)

masks-long : (s : List ℕ) (q n : ℕ) → length (masks_of s q n) ≤ 2 + 11 * n
unfolding masks_of
masks-long s q n = go (eqb n 0)
  where
    go : (b : Bool) → length (cond b none_word (masks_from s q n)) ≤ 2 + 11 * n
    go true = omega arith
    go false = omega (arith, masks-from-long s q n)

cells-long : (s : List ℕ) (p : ℕ) → length (cells_of s p) ≤ 18 + 11 * (at16 s (p + 7) + at16 s (p + 9))
unfolding cells_of named_of
cells-long s p =
    let n = at16 s (p + 7) in
    let k = at16 s (p + 9) in
    let a = masks_of s (p + 15) n in
    let b = masks_of s (p + 15 + 49 * n) k in
    omega (
      arith,
      length-append (stack_word ++ a) ((locals_word ++ b) ++ (10 ∷ [])),
      length-append stack_word a,
      length-append (locals_word ++ b) (10 ∷ []),
      length-append locals_word b,
      masks-long s (p + 15) n,
      masks-long s (p + 15 + 49 * n) k,
    )

-- ---- lines
pub refused-long : (r : Refusal) → length (refused_line r) ≤ 52
unfolding refused_line
refused-long r =
    let c = pair_of r.chunk r.instruction in
    let e = last_of r.steps in
    omega (
      arith,
      length-append refused_word (spaced r.number ++ (c ++ e)),
      length-append (spaced r.number) (c ++ e),
      length-append c e,
      spaced-long r.number,
      pair-long r.chunk r.instruction,
      last-long r.steps,
    )

-- the line of a field, by its tag
module _ (steps : ℕ) (s : List ℕ) (p : ℕ) where
  pub accepted-long : tag_at s p ≡ 16 → length (field_line steps s p) ≤ 37
  unfolding field_line accepted_line
  accepted-long e = rw e (go (at32 s (p + 3)))
    where
      go : (reply : ℕ) → length (accepted_word ++ (spaced steps ++ (reply_word ++ last_of reply))) ≤ 37
      go reply =
          omega (
            arith,
            length-append accepted_word (spaced steps ++ (reply_word ++ last_of reply)),
            length-append (spaced steps) (reply_word ++ last_of reply),
            length-append reply_word (last_of reply),
            spaced-long steps,
            last-long reply,
          )

  pub signature-long : tag_at s p ≡ 17 → length (field_line steps s p) ≤ 0
  unfolding field_line
  signature-long e = rw e (omega arith)

  pub slot-long : tag_at s p ≡ 18 → length (field_line steps s p) ≤ 0
  unfolding field_line
  slot-long e = rw e (omega arith)

  pub record-long : tag_at s p ≡ 19 → length (field_line steps s p) ≤ 39 + 11 * (at16 s (p + 7) + at16 s (p + 9))
  unfolding field_line record_line
  record-long e =
      let a = at16 s (p + 3) in
      let b = at16 s (p + 5) in
      rw e
      (omega (
        arith,
        length-append (decimal a) (spaced b ++ cells_of s p),
        length-append (spaced b) (cells_of s p),
        number-long a,
        spaced-long b,
        cells-long s p,
      ))

  pub inspection-long : tag_at s p ≡ 20 → length (field_line steps s p) ≤ 33
  unfolding field_line inspection_line
  inspection-long e =
      let a = at16 s (p + 3) in
      let b = at16 s (p + 5) in
      rw e
      (omega (
        arith,
        length-append inspection_word (spaced a ++ last_of b),
        length-append (spaced a) (last_of b),
        spaced-long a,
        last-long b,
      ))

  pub branch-long : tag_at s p ≡ 21 → length (field_line steps s p) ≤ 40
  unfolding field_line branch_line
  branch-long e =
      let a = at16 s (p + 3) in
      let b = at16 s (p + 5) in
      let c = at8 s (p + 7) in
      rw e
      (omega (
        arith,
        length-append branch_word (pair_of a b ++ last_of c),
        length-append (pair_of a b) (last_of c),
        pair-long a b,
        last-long c,
      ))
