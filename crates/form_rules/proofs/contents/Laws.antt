-- One more turn of each rule that counts.
use native.Mathlib.Omega.{arith}
use mathlib.Core.Path.{◌≡◌, ap}
use mathlib.Core.Bool.{Bool, true, false, ◌&&◌, and_assoc}
use mathlib.Core.List.{List}
use Prim.Native.Nat.{ℕ, zero, suc, ◌+◌, ◌*◌, ◌-◌, ◌<◌, ◌≤◌}
use native.Mathlib.Nat.{not-suc-le-zero}
use lib.Dec.{ltb}
use Rattle.le.specs.Le.{at8}
use Rattle.description.specs.Fields.{shape_of}
use Rattle.definition.specs.Form.{shape_fine, tags_fine, shapes_fine}

-- what is still to do, in front of it what was found so far
pub tags-again : (s : List ℕ) (q n k r : ℕ) (fine t : Bool) → k < n → r ≡ at8 s (q + k) → (fine && tags_fine s (q + k) (n - k)) ≡ t
    → (fine && ltb r 8 && tags_fine s (q + (k + 1)) (n - (k + 1))) ≡ t
unfolding tags_fine
tags-again s q n k r fine t h e inv =
    let m : n - k ≡ suc (n - (k + 1)) = omega arith in
    let p : q + k + 1 ≡ q + (k + 1) = omega arith in
    cc (ap (tags_fine s (q + k)) m, ap (λ (j : ℕ). tags_fine s j (n - (k + 1))) p, and_assoc fine (ltb r 8) (tags_fine s (q + (k + 1)) (n - (k + 1))))

pub tags-done : (s : List ℕ) (q n : ℕ) (fine t : Bool) → n ≤ 0 → (fine && tags_fine s q n) ≡ t → fine ≡ t
unfolding tags_fine
tags-done s q zero true t h inv = inv
tags-done s q zero false t h inv = inv
tags-done s q (suc n) fine t h inv = absurd (not-suc-le-zero h)

pub shapes-again : (s : List ℕ) (q n k : ℕ) (r fine t : Bool) → k < n → r ≡ shape_fine (shape_of s (q + 7 * k))
    → (fine && shapes_fine s (q + 7 * k) (n - k)) ≡ t → (fine && r && shapes_fine s (q + 7 * (k + 1)) (n - (k + 1))) ≡ t
unfolding shapes_fine
shapes-again s q n k r fine t h e inv =
    let m : n - k ≡ suc (n - (k + 1)) = omega arith in
    let p : q + 7 * k + 7 ≡ q + 7 * (k + 1) = omega arith in
    cc (ap (shapes_fine s (q + 7 * k)) m, ap (λ (j : ℕ). shapes_fine s j (n - (k + 1))) p, and_assoc fine r (shapes_fine s (q + 7 * (k + 1)) (n - (k + 1))))

pub shapes-done : (s : List ℕ) (q n : ℕ) (fine t : Bool) → n ≤ 0 → (fine && shapes_fine s q n) ≡ t → fine ≡ t
unfolding shapes_fine
shapes-done s q zero true t h inv = inv
shapes-done s q zero false t h inv = inv
shapes-done s q (suc n) fine t h inv = absurd (not-suc-le-zero h)
