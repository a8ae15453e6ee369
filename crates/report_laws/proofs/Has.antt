-- Bytes that stand at a place of a list, and the numbers read there.
use Prim.Native.Nat.{ℕ, suc, ◌+◌, ◌/◌, ◌%◌, ◌<◌}
use native.Mathlib.Omega.{arith}
use mathlib.Core.Path.{◌≡◌, refl, ◌∙◌}
use mathlib.Core.List.{List, [], ◌∷◌, ◌++◌}
use lib.ListN.{length, get_or, length-append, get_or-append}
use lib.Seq.{get_or-append-add}
use Rattle.le.specs.Le.{at8, at16, at32, le16, le32}

-- bs stand in s from p on
pub record Has (s : List ℕ) (p : ℕ) (bs : List ℕ) : Type 0 where
  pub here : (k : ℕ) → k < length bs → at8 s (p + k) ≡ get_or bs k 0

pub has_left : {s : List ℕ} {p : ℕ} (xs ys : List ℕ) → Has s p (xs ++ ys) → Has s p xs
has_left xs ys h = record { here = λ k l. h.here k (omega (arith, length-append xs ys)) ∙ get_or-append xs ys 0 k l }

pub has_right : {s : List ℕ} {p : ℕ} (n : ℕ) (xs ys : List ℕ) → length xs ≡ n → Has s p (xs ++ ys) → Has s (p + n) ys
has_right {s} {p} n xs ys e h = record { here = go }
  where
    go : (k : ℕ) → k < length ys → at8 s (p + n + k) ≡ get_or ys k 0
    go k l =
        let q : p + n + k ≡ p + (length xs + k) = omega arith in
        rw q (h.here (length xs + k) (omega (arith, length-append xs ys)) ∙ get_or-append-add xs ys k 0)

pub has-head : {s : List ℕ} {p x : ℕ} {xs : List ℕ} → Has s p (x ∷ xs) → at8 s p ≡ x
has-head {s} {p} h =
    let q : p + 0 ≡ p = omega arith in
    rw q at (h.here 0 (omega arith))

pub has-tail : {s : List ℕ} {p x : ℕ} {xs : List ℕ} → Has s p (x ∷ xs) → Has s (p + 1) xs
has-tail {s} {p} {x} {xs} h = record { here = go }
  where
    go : (k : ℕ) → k < length xs → at8 s (p + 1 + k) ≡ get_or xs k 0
    go k l =
        let q : p + 1 + k ≡ p + suc k = omega arith in
        rw q (h.here (suc k) (omega arith))

-- the place may be written another way
pub has-at : {s : List ℕ} {p : ℕ} (q : ℕ) {bs : List ℕ} → p ≡ q → Has s p bs → Has s q bs
has-at q e h = rw (← e) h

-- and the bytes
pub has_same : {s : List ℕ} {p : ℕ} {bs cs : List ℕ} → bs ≡ cs → Has s p bs → Has s p cs
has_same e h = rw (← e) h

pub has_all : (s : List ℕ) → Has s 0 s
unfolding at8
has_all s = record { here = λ k l. let q : 0 + k ≡ k = omega arith in rw q }

pub read16 : {s : List ℕ} {p : ℕ} (n : ℕ) → Has s p (le16 n) → at16 s p ≡ n
unfolding at16 le16
read16 n h = omega (arith, has-head h, has-head (has-tail h))

pub read32 : {s : List ℕ} {p : ℕ} (n : ℕ) → Has s p (le32 n) → at32 s p ≡ n
unfolding at32 le32
read32 {s} {p} n h =
    let two : Has s (p + 2) (n / 65536 % 256 ∷ n / 16777216 ∷ []) = has-at (p + 2) (omega arith) (has-tail (has-tail h)) in
    let three : Has s (p + 3) (n / 16777216 ∷ []) = has-at (p + 3) (omega arith) (has-tail two) in
    omega (arith, has-head h, has-head (has-tail h), has-head two, has-head three)

pub long16 : (n : ℕ) → length (le16 n) ≡ 2
unfolding le16
long16 n = refl

pub long32 : (n : ℕ) → length (le32 n) ≡ 4
unfolding le32
long32 n = refl
