-- Laws of the masks: those of `bit_or` that lib.Bits lacks, union as a join, and "within" as "taken in".
use Prim.Native.Nat.{ℕ, ◌/◌, ◌%◌, ◌≤◌, min, max}
use mathlib.Core.Path.{◌≡◌, refl, ap}
use mathlib.Core.Bool.{true}
use native.Mathlib.Omega.{arith}
use lib.Arith.{bin_ind}
use lib.Bits.{bit_and, bit_or, or_step, and_step, or_zero_l, and_zero_l, or_add_and, and_le_l, and_le_r, or_comm, and_comm, or_self}
use borrow.Author.Tests.{eq-eqb, eqb-true}
use Rattle.masks.specs.declared.Mask.{Mask}
use Rattle.masks.specs.Mask.{of, union, within, same}
use Rattle.join_laws.specs.Join.{Joins, Equals, Takes}

-- the half and the last bit of a union and of a common part
or-half : (a b : ℕ) → bit_or a b / 2 ≡ bit_or (a / 2) (b / 2)
or-half a b = omega (arith, or_step a b)

or-odd : (a b : ℕ) → bit_or a b % 2 ≡ max (a % 2) (b % 2)
or-odd a b = omega (arith, or_step a b)

and-half : (a b : ℕ) → bit_and a b / 2 ≡ bit_and (a / 2) (b / 2)
and-half a b = omega (arith, and_step a b)

and-odd : (a b : ℕ) → bit_and a b % 2 ≡ min (a % 2) (b % 2)
and-odd a b = omega (arith, and_step a b)

abbrev OrAssoc : ℕ → Type 0
OrAssoc a = (b c : ℕ) → bit_or (bit_or a b) c ≡ bit_or a (bit_or b c)

pub or_assoc : (a b c : ℕ) → bit_or (bit_or a b) c ≡ bit_or a (bit_or b c)
or_assoc =
    bin_ind OrAssoc (λ b c. simp or_zero_l)
    (λ n ih b c.
    let l : bit_or (bit_or n b / 2) (c / 2) ≡ bit_or (n / 2) (bit_or b c / 2) = rw (or-half n b, or-half b c) (ih (b / 2) (c / 2)) in
    omega (arith, or_step (bit_or n b) c, or_step n (bit_or b c), or-odd n b, or-odd b c, l))

abbrev AndOr : ℕ → Type 0
AndOr m = (a b : ℕ) → bit_and m (bit_or a b) ≡ bit_or (bit_and m a) (bit_and m b)

-- a mask's part of a union is the union of the parts
pub and-or : (m a b : ℕ) → bit_and m (bit_or a b) ≡ bit_or (bit_and m a) (bit_and m b)
and-or =
    bin_ind AndOr (λ a b. simp and_zero_l)
    (λ n ih a b.
    let l : bit_and (n / 2) (bit_or a b / 2) ≡ bit_or (bit_and n a / 2) (bit_and n b / 2) = rw (or-half a b, and-half n a, and-half n b) (ih (a / 2) (b / 2)) in
    omega (arith, and_step n (bit_or a b), or_step (bit_and n a) (bit_and n b), or-odd a b, and-odd n a, and-odd n b, l))

pub or-le-l : (a b : ℕ) → a ≤ bit_or a b
or-le-l a b = omega (arith, or_add_and a b, and_le_r a b)

pub or-le-r : (a b : ℕ) → b ≤ bit_or a b
or-le-r a b = omega (arith, or_add_and a b, and_le_l a b)

-- a test `(m & K) == 0` that holds of a union holds of both
pub none-of-or : (m a b : ℕ) → bit_and m (bit_or a b) ≡ 0 → (bit_and m a ≡ 0) × (bit_and m b ≡ 0)
none-of-or m a b h =
    omega (arith, and-or m a b, or-le-l (bit_and m a) (bit_and m b), or-le-r (bit_and m a) (bit_and m b))

pub union-joins : Joins union
union-joins =
    record {
      idem = λ m. ap of (or_self m.bits);
      comm = λ m n. ap of (or_comm m.bits n.bits);
      assoc = λ m n k. ap of (or_assoc m.bits n.bits k.bits);
    }

pub mask-equals : Equals same
mask-equals =
    record {
      sound = λ m n h. ap of (eqb-true m.bits n.bits h);
      whole = λ m. eq-eqb m.bits m.bits refl;
    }

-- "taken in" at masks means within
pub takes-within : (m n : Mask) → Takes union n m → within m n ≡ true
takes-within m n p =
    let e : bit_or n.bits m.bits ≡ n.bits = ap (λ (k : Mask). k.bits) p in
    let g : bit_and m.bits n.bits ≡ m.bits = omega (arith, or_add_and n.bits m.bits, and_comm n.bits m.bits) in
    eq-eqb _ _ g
