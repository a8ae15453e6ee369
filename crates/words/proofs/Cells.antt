-- Cells to words and back, word by word, and which cells fit.
use Rattle.std.specs.Prelude.{Bool, Option}
use Prim.Native.Nat.{ℕ, zero, suc, ◌+◌, ◌/◌, ◌%◌, ◌<◌}
use native.Mathlib.Omega.{arith}
use mathlib.Core.List.{List, [], ◌∷◌}
use mathlib.Core.Path.{◌≡◌, refl, ap₂}
use lib.ListN.{get_or, set, length}
use Rattle.masks.specs.Mask.{of}
use Rattle.widths.specs.declared.Width.{Width}
use Rattle.extents.specs.declared.BodyExtent.{BodyExtent}
use Rattle.extents.specs.declared.Extent.{Extent}
use Rattle.flows.specs.declared.Predicate.{Predicate}
use Rattle.cells.specs.declared.Cell.{Cell}
use Rattle.words.specs.declared.cell.Two.{Two}
use Rattle.words.specs.declared.cell.Four.{Four}
use Rattle.words.specs.Layout.{Storable, copy_n, decode, encode, extent_of, four_of, off, origin_of, origin_words, owned_bits, owned_of, predicate_of, predicate_words, put_n, two_of, width_of, words_of}

-- ---- what the proofs of the code cite
pub encoded : (c : Cell) (t : Two) (x : Four) (o p : Two) (n : ℕ) → t ≡ two_of c.width → x ≡ four_of c.flow.bodies → o ≡ origin_words c.flow.origin → p ≡ predicate_words c.flow.predicate → n ≡ owned_bits c.flow.owned → words_of c.mask t x o p n ≡ encode c
unfolding encode
encoded c t x o p n qt qx qo qp qn = λ i. words_of c.mask (qt i) (qx i) (qo i) (qp i) (qn i)

pub decoded : (g : ℕ → ℕ) (w : Width) (e0 e1 e2 e3 : Extent) (n : Bool) (o : Option ℕ) (p : Predicate) → w ≡ width_of (g 0 / 65536 % 4) (g 1) → e0 ≡ extent_of (g 2) (g 3) (g 4) → e1 ≡ extent_of (g 5) (g 6) (g 7) → e2 ≡ extent_of (g 8) (g 9) (g 10) → e3 ≡ extent_of (g 11) (g 12) (g 13) → n ≡ owned_of (g 0 / 65536 / 4 % 4) → o ≡ origin_of (g 0 / 65536 / 64 % 2) (g 14 % 65536) → p ≡ predicate_of (g 0 / 65536 / 16 % 4) (g 14 / 65536) → ◌≡◌ {A = Cell} (record { mask = of (g 0 % 65536); width = w; flow = record { bodies = e0 ∷ e1 ∷ e2 ∷ e3 ∷ []; owned = n; origin = o; predicate = p } }) (decode g)
unfolding decode
decoded g w e0 e1 e2 e3 n o p qw q0 q1 q2 q3 qn qo qp =
    λ i. record { mask = of (g 0 % 65536); width = qw i; flow = record { bodies = q0 i ∷ q1 i ∷ q2 i ∷ q3 i ∷ []; owned = qn i; origin = qo i; predicate = qp i } }

pub extent-eq : (e : Extent) (b : BodyExtent) → e.body ≡ b → e ≡ record { body = b }
extent-eq e b q = λ i. record { body = q i }

pub off-is : (at k : ℕ) → off at k ≡ at + k
off-is at zero = omega arith
off-is at (suc k) = refl

-- a cell is its first fifteen words
pub decode-eq : (g h : ℕ → ℕ) → ((k : ℕ) → k < 15 → g k ≡ h k) → decode g ≡ decode h
unfolding decode
decode-eq g h e =
    let e0 = e 0 (omega arith) in
    let e1 = e 1 (omega arith) in
    let e14 = e 14 (omega arith) in
    let t2 = three 2 (omega arith) in
    let t5 = three 5 (omega arith) in
    let t8 = three 8 (omega arith) in
    let t11 = three 11 (omega arith) in
    λ i. record {
      mask = of (e0 i % 65536);
      width = width_of (e0 i / 65536 % 4) (e1 i);
      flow =
          record {
            bodies = t2 i ∷ t5 i ∷ t8 i ∷ t11 i ∷ [];
            owned = owned_of (e0 i / 65536 / 4 % 4);
            origin = origin_of (e0 i / 65536 / 64 % 2) (e14 i % 65536);
            predicate = predicate_of (e0 i / 65536 / 16 % 4) (e14 i / 65536);
          };
    }
  where
    three : (k : ℕ) → suc (suc k) < 15 → extent_of (g k) (g (suc k)) (g (suc (suc k))) ≡ extent_of (h k) (h (suc k)) (h (suc (suc k)))
    three k l = λ i. extent_of (e k (omega arith) i) (e (suc k) (omega arith) i) (e (suc (suc k)) l i)

pub put_copy : (w vs : List ℕ) (a b n : ℕ) → ((k : ℕ) → k < n → get_or vs k 0 ≡ get_or w (a + k) 0) → put_n w b vs n ≡ copy_n w a b n
unfolding put_n copy_n
put_copy w vs a b zero e = refl
put_copy w vs a b (suc n) e = ap₂ (λ (l : List ℕ) (x : ℕ). set l (b + n) x) (put_copy w vs a b n (λ k l. e k (omega arith))) (e n (omega arith))

pub fits : (c : Cell) (o p : Two) → c.mask.bits < 65536 → length c.flow.bodies ≡ 4 → o ≡ origin_words c.flow.origin → o.1 < 65536 → p ≡ predicate_words c.flow.predicate → p.1 < 65536 → Storable c
fits c o p m f eo lo ep lp = record { mask = m; four = f; origin = rw (← eo) lo; receiver = rw (← ep) lp }
