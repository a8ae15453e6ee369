-- Laws of cells in words: what is stored is read back, other words stay, equal words are equal cells, and equal cells that words hold are equal words.
use Rattle.std.specs.Prelude.{Option, None, Some}
use Prim.Native.Nat.{ℕ, zero, suc, ◌+◌, ◌*◌, ◌/◌, ◌%◌, ◌≤◌, ◌<◌}
use mathlib.Core.Path.{◌≡◌, refl, sym, ap, ap₂, ◌∙◌}
use mathlib.Core.Bool.{Bool, true, false, cond, not, ◌&&◌}
use mathlib.Core.List.{List, [], ◌∷◌}
use mathlib.Core.Logic.{◌⊎◌, inl, inr}
use native.Mathlib.Omega.{arith}
use lib.Dec.{eqb, ltb}
use lib.ListN.{length, get_or, set, length-set}
use lib.Seq.{get_or-set_same, get_or-set_other}
use borrow.Author.Count.{below_more}
use borrow.Author.Tests.{eqb-true, eq-eqb, ltb-true, ltb-false}
use Rattle.masks.proofs.Both.{both, neither}
use Rattle.masks.specs.Mask.{of}
use Rattle.widths.specs.declared.Width.{Width}
use Rattle.widths.specs.declared.Width.TheVariants.{Unknown as Wide, Scalar, Body}
use Rattle.extents.proofs.Four.{four}
use Rattle.extents.specs.declared.BodyExtent.{BodyExtent}
use Rattle.extents.specs.declared.BodyExtent.TheVariants.{Absent, Range, Unknown}
use Rattle.extents.specs.declared.Extent.{Extent}
use Rattle.flows.specs.declared.Predicate.{Predicate}
use Rattle.flows.specs.declared.Predicate.TheVariants.{Nothing as Untested, Tests}
use Rattle.flows.specs.Flow.{absent, no_flow}
use Rattle.cells.specs.declared.Cell.{Cell}
use Rattle.words.specs.Layout.{width_of, extent_of, owned_of, origin_of, predicate_of, two_of, three_of_body, owned_bits, origin_words, predicate_words, encode, decode, cell_at, put_n, put_cell, copy_n, same_n, flow_at, plain_at, Storable}
use Rattle.words.proofs.Cells.{off-is, decode-eq}

origin-fit : (tag n : ℕ) → (origin_words (origin_of tag n)).1 < 65536
origin-fit tag n = go (eqb tag 0)
  where
    go : (t : Bool) → (origin_words (cond t None (Some (n % 65536)))).1 < 65536
    go true = omega arith
    go false = omega arith

predicate-fit : (tag n : ℕ) → (predicate_words (predicate_of tag n)).1 < 65536
predicate-fit tag n = go (eqb tag 0) (eqb tag 2)
  where
    go : (s t : Bool) → (predicate_words (cond s Untested (Tests (n % 65536) t))).1 < 65536
    go true t = omega arith
    go false true = omega arith
    go false false = omega arith

pub decode-fit : (g : ℕ → ℕ) → Storable (decode g)
unfolding decode
decode-fit g = record { mask = omega arith; four = refl; origin = origin-fit (g 0 / 65536 / 64 % 2) (g 14 % 65536); receiver = predicate-fit (g 0 / 65536 / 16 % 4) (g 14 / 65536) }

-- what is read from words fits words
pub cell_at-fit : (w : List ℕ) (at : ℕ) → Storable (cell_at w at)
unfolding cell_at
cell_at-fit w at = decode-fit _

-- ---- each part is read back
width_small : (w : Width) → (two_of w).0 < 3
width_small Wide = omega arith
width_small (Scalar n) = omega arith
width_small (Body n) = omega arith

owned-small : (o : Bool) → owned_bits o < 2
owned-small false = omega arith
owned-small true = omega arith

origin-small : (o : Option ℕ) → (origin_words o).0 < 2
origin-small None = omega arith
origin-small (Some i) = omega arith

predicate-small : (p : Predicate) → (predicate_words p).0 < 3
predicate-small Untested = omega arith
predicate-small (Tests n true) = omega arith
predicate-small (Tests n false) = omega arith

width_back : (w : Width) → width_of (two_of w).0 (two_of w).1 ≡ w
width_back Wide = refl
width_back (Scalar n) = refl
width_back (Body n) = refl

body_back : (b : BodyExtent) → extent_of (three_of_body b).0 (three_of_body b).1 (three_of_body b).2 ≡ record { body = b }
body_back Absent = refl
body_back (Range a b) = refl
body_back Unknown = refl

owned-back : (o : Bool) → owned_of (owned_bits o) ≡ o
owned-back false = refl
owned-back true = refl

origin-back : (o : Option ℕ) → (origin_words o).1 < 65536 → origin_of (origin_words o).0 (origin_words o).1 ≡ o
origin-back None h = refl
origin-back (Some i) h = ap Some (omega arith)

predicate-back : (p : Predicate) → (predicate_words p).1 < 65536 → predicate_of (predicate_words p).0 (predicate_words p).1 ≡ p
predicate-back Untested h = refl
predicate-back (Tests n true) h = ap (λ (m : ℕ). Tests m true) (omega arith)
predicate-back (Tests n false) h = ap (λ (m : ℕ). Tests m false) (omega arith)

-- mask and flags of the first word
record Flags (x m t n p o : ℕ) : Type 0 where
  pub mask : x % 65536 ≡ m
  pub width : x / 65536 % 4 ≡ t
  pub owned : x / 65536 / 4 % 4 ≡ n
  pub predicate : x / 65536 / 16 % 4 ≡ p
  pub origin : x / 65536 / 64 % 2 ≡ o

flags-back : (m t n p o : ℕ) → m < 65536 → t < 3 → n < 2 → p < 3 → o < 2 → Flags (m + 65536 * (t + 4 * n + 16 * p + 64 * o)) m t n p o
flags-back m t n p o a b c d e = go (m + 65536 * (t + 4 * n + 16 * p + 64 * o)) refl
  where
    go : (x : ℕ) → x ≡ m + 65536 * (t + 4 * n + 16 * p + 64 * o) → Flags x m t n p o
    go x q =
        let f : x / 65536 ≡ t + 4 * n + 16 * p + 64 * o = omega arith in
        record { mask = omega arith; width = omega arith; owned = omega arith; predicate = omega arith; origin = omega arith }

cell-eq : (x y : Cell) → x.mask ≡ y.mask → x.width ≡ y.width → x.flow.bodies ≡ y.flow.bodies → x.flow.owned ≡ y.flow.owned → x.flow.origin ≡ y.flow.origin → x.flow.predicate ≡ y.flow.predicate → x ≡ y
cell-eq x y m w b n o p =
    λ i. record { mask = m i; width = w i; flow = record { bodies = b i; owned = n i; origin = o i; predicate = p i } }

pub decode-encode : (c : Cell) → Storable c → decode (λ (k : ℕ). get_or (encode c) k 0) ≡ c
unfolding decode encode
decode-encode c f =
    let w = two_of c.width in
    let o = origin_words c.flow.origin in
    let p = predicate_words c.flow.predicate in
    let n = owned_bits c.flow.owned in
    let g = flags-back c.mask.bits w.0 n p.0 o.0 f.mask (width_small c.width) (owned-small c.flow.owned) (predicate-small c.flow.predicate) (origin-small c.flow.origin) in
    let fo = f.origin in
    let l : (o.1 + 65536 * p.1) % 65536 ≡ o.1 = omega arith in
    let h : (o.1 + 65536 * p.1) / 65536 ≡ p.1 = omega arith in
    cell-eq _ _ (ap of g.mask)
    (ap (λ (t : ℕ). width_of t w.1) g.width ∙ width_back c.width)
    ((λ i. body_back (at4 0).body i ∷ body_back (at4 1).body i ∷ body_back (at4 2).body i ∷ body_back (at4 3).body i ∷ []) ∙ four absent c.flow.bodies f.four)
    (ap owned_of g.owned ∙ owned-back c.flow.owned)
    (ap₂ origin_of g.origin l ∙ origin-back c.flow.origin f.origin)
    (ap₂ predicate_of g.predicate h ∙ predicate-back c.flow.predicate f.receiver)
  where
    at4 : ℕ → Extent
    at4 k = get_or c.flow.bodies k absent

-- ---- words that a loop stores
pub length-put_n : (w : List ℕ) (at : ℕ) (vs : List ℕ) (n : ℕ) → length (put_n w at vs n) ≡ length w
unfolding put_n
length-put_n w at vs zero = refl
length-put_n w at vs (suc k) = length-set (put_n w at vs k) (at + k) (get_or vs k 0) ∙ length-put_n w at vs k

pub put_n-out : (w : List ℕ) (at : ℕ) (vs : List ℕ) (n j : ℕ) → (j < at) ⊎ (at + n ≤ j) → get_or (put_n w at vs n) j 0 ≡ get_or w j 0
unfolding put_n
put_n-out w at vs zero j h = refl
put_n-out w at vs (suc k) j (inl h) = get_or-set_other (put_n w at vs k) (at + k) j (get_or vs k 0) 0 (λ e. omega arith) ∙ put_n-out w at vs k j (inl h)
put_n-out w at vs (suc k) j (inr h) = get_or-set_other (put_n w at vs k) (at + k) j (get_or vs k 0) 0 (λ e. omega arith) ∙ put_n-out w at vs k j (inr (omega arith))

pub put_n-in : (w : List ℕ) (at : ℕ) (vs : List ℕ) (n : ℕ) → at + n ≤ length w → (i : ℕ) → i < n → get_or (put_n w at vs n) (at + i) 0 ≡ get_or vs i 0
unfolding put_n
put_n-in w at vs zero h i l = absurd (omega arith)
put_n-in w at vs (suc k) h i l =
    below_more (λ (i : ℕ). get_or (set (put_n w at vs k) (at + k) (get_or vs k 0)) (at + i) 0 ≡ get_or vs i 0) k
    (λ i b. get_or-set_other (put_n w at vs k) (at + k) (at + i) (get_or vs k 0) 0 (λ e. omega arith) ∙ put_n-in w at vs k (omega arith) i b)
    (get_or-set_same (put_n w at vs k) (at + k) (get_or vs k 0) 0 (omega (arith, length-put_n w at vs k)))
    i
    (omega arith)

-- ---- a cell is its fifteen words
pub cell_at-same : (w v : List ℕ) (a b : ℕ) → ((k : ℕ) → k < 15 → get_or w (a + k) 0 ≡ get_or v (b + k) 0) → cell_at w a ≡ cell_at v b
unfolding cell_at
cell_at-same w v a b e =
    decode-eq _ _ (λ k l. ap (λ (n : ℕ). get_or w n 0) (off-is a k) ∙ e k l ∙ sym (ap (λ (n : ℕ). get_or v n 0) (off-is b k)))

-- the words from at are those of the cell
pub record Holds (w : List ℕ) (at : ℕ) (c : Cell) : Type 0 where
  pub word : (k : ℕ) → k < 15 → get_or w (at + k) 0 ≡ get_or (encode c) k 0

pub holds-cell : (w : List ℕ) (at : ℕ) (c : Cell) → Storable c → Holds w at c → cell_at w at ≡ c
unfolding cell_at
holds-cell w at c f h =
    decode-eq _ _ (λ k l. ap (λ (n : ℕ). get_or w n 0) (off-is at k) ∙ h.word k l) ∙ decode-encode c f

-- ---- after a store
pub length-put_cell : (w : List ℕ) (at : ℕ) (c : Cell) → length (put_cell w at c) ≡ length w
unfolding put_cell
length-put_cell w at c = length-put_n w at (encode c) 15

-- the other words stay, and so does the last of the sixteen
pub put_cell-out : (w : List ℕ) (at : ℕ) (c : Cell) (j : ℕ) → (j < at) ⊎ (at + 15 ≤ j) → get_or (put_cell w at c) j 0 ≡ get_or w j 0
unfolding put_cell
put_cell-out w at c j h = put_n-out w at (encode c) 15 j h

pub put_cell-holds : (w : List ℕ) (at : ℕ) (c : Cell) → at + 15 ≤ length w → Holds (put_cell w at c) at c
unfolding put_cell
put_cell-holds w at c h = record { word = λ k l. put_n-in w at (encode c) 15 h k l }

pub cell_at-put : (w : List ℕ) (at : ℕ) (c : Cell) → at + 15 ≤ length w → Storable c → cell_at (put_cell w at c) at ≡ c
cell_at-put w at c h f = holds-cell (put_cell w at c) at c f (put_cell-holds w at c h)

-- ---- the comparison is true exactly where the words agree
pub sames-true : (w : List ℕ) (a b n : ℕ) → same_n w a b n ≡ true → (k : ℕ) → k < n → get_or w (a + k) 0 ≡ get_or w (b + k) 0
unfolding same_n
sames-true w a b zero e k l = absurd (omega arith)
sames-true w a b (suc n) e k l =
    let (r, q) = both (same_n w a b n) (eqb (get_or w (a + n) 0) (get_or w (b + n) 0)) e in
    below_more (λ (j : ℕ). get_or w (a + j) 0 ≡ get_or w (b + j) 0) n (λ j m. sames-true w a b n r j m) (eqb-true _ _ q) k (omega arith)

pub sames-whole : (w : List ℕ) (a b n : ℕ) → ((k : ℕ) → k < n → get_or w (a + k) 0 ≡ get_or w (b + k) 0) → same_n w a b n ≡ true
unfolding same_n
sames-whole w a b zero h = refl
sames-whole w a b (suc n) h =
    ap₂ ◌&&◌ (sames-whole w a b n (λ k l. h k (omega arith))) (eq-eqb (get_or w (a + n) 0) (get_or w (b + n) 0) (h n (omega arith)))

pub same-cells : (w : List ℕ) (a b : ℕ) → same_n w a b 15 ≡ true → cell_at w a ≡ cell_at w b
same-cells w a b e = cell_at-same w w a b (sames-true w a b 15 e)

-- ---- a copy
pub length-copy_n : (w : List ℕ) (a b n : ℕ) → length (copy_n w a b n) ≡ length w
unfolding copy_n
length-copy_n w a b zero = refl
length-copy_n w a b (suc k) = length-set (copy_n w a b k) (b + k) (get_or w (a + k) 0) ∙ length-copy_n w a b k

pub copy_n-out : (w : List ℕ) (a b n j : ℕ) → (j < b) ⊎ (b + n ≤ j) → get_or (copy_n w a b n) j 0 ≡ get_or w j 0
unfolding copy_n
copy_n-out w a b zero j h = refl
copy_n-out w a b (suc k) j (inl h) = get_or-set_other (copy_n w a b k) (b + k) j (get_or w (a + k) 0) 0 (λ e. omega arith) ∙ copy_n-out w a b k j (inl h)
copy_n-out w a b (suc k) j (inr h) = get_or-set_other (copy_n w a b k) (b + k) j (get_or w (a + k) 0) 0 (λ e. omega arith) ∙ copy_n-out w a b k j (inr (omega arith))

pub copy_n-in : (w : List ℕ) (a b n : ℕ) → b + n ≤ length w → (i : ℕ) → i < n → get_or (copy_n w a b n) (b + i) 0 ≡ get_or w (a + i) 0
unfolding copy_n
copy_n-in w a b zero h i l = absurd (omega arith)
copy_n-in w a b (suc k) h i l =
    below_more (λ (i : ℕ). get_or (set (copy_n w a b k) (b + k) (get_or w (a + k) 0)) (b + i) 0 ≡ get_or w (a + i) 0) k
    (λ i m. get_or-set_other (copy_n w a b k) (b + k) (b + i) (get_or w (a + k) 0) 0 (λ e. omega arith) ∙ copy_n-in w a b k (omega arith) i m)
    (get_or-set_same (copy_n w a b k) (b + k) (get_or w (a + k) 0) 0 (omega (arith, length-copy_n w a b k)))
    i
    (omega arith)

pub cell_at-copy : (w : List ℕ) (a b : ℕ) → b + 15 ≤ length w → cell_at (copy_n w a b 15) b ≡ cell_at w a
cell_at-copy w a b h = cell_at-same (copy_n w a b 15) w b a (copy_n-in w a b 15 h)

-- ---- plain cells
pub plain-says : (w : List ℕ) (at : ℕ) → plain_at w at ≡ true → ((cell_at w at).flow.origin ≡ None) × ((cell_at w at).flow.predicate ≡ Untested)
unfolding cell_at decode
plain-says w at e =
    let h = ltb-true (get_or w at 0) 1048576 e in
    let o : get_or w at 0 / 65536 / 64 % 2 ≡ 0 = omega arith in
    let p : get_or w at 0 / 65536 / 16 % 4 ≡ 0 = omega arith in
    (ap (λ (n : ℕ). origin_of n (get_or w (at + 14) 0 % 65536)) o, ap (λ (n : ℕ). predicate_of n (get_or w (at + 14) 0 / 65536)) p)

-- ---- cells without flow
zero_word : (n : ℕ) → not (eqb n 0) ≡ false → n ≡ 0
zero_word n e = eqb-true n 0 (go (eqb n 0) e)
  where
    go : (t : Bool) → not t ≡ false → t ≡ true
    go true e = refl
    go false e = sym e

-- neither owned nor an origin nor a predicate
no-flags : (n : ℕ) → ltb 262143 n ≡ false → (n / 65536 / 4 % 4 ≡ 0) × (n / 65536 / 64 % 2 ≡ 0) × (n / 65536 / 16 % 4 ≡ 0)
no-flags n e = let h = ltb-false 262143 n e in (omega arith, omega arith, omega arith)

pub flow-none : (w : List ℕ) (at : ℕ) → flow_at w at ≡ false → (cell_at w at).flow ≡ no_flow
unfolding cell_at decode no_flow
flow-none w at e =
    let word : ℕ → ℕ = λ k. get_or w (at + k) 0 in
    let t1 = neither _ _ e in
    let t2 = neither _ _ t1.1 in
    let t3 = neither _ _ t2.1 in
    let t4 = neither _ _ t3.1 in
    let f = no-flags (get_or w at 0) t1.0 in
    let b0 = zero_word (word 2) t2.0 in
    let b1 = zero_word (word 5) t3.0 in
    let b2 = zero_word (word 8) t4.0 in
    let b3 = zero_word (word 11) t4.1 in
    λ i. record {
      bodies =
          extent_of (b0 i) (word 3) (word 4)
          ∷ extent_of (b1 i) (word 6) (word 7)
          ∷ extent_of (b2 i) (word 9) (word 10)
          ∷ extent_of (b3 i) (word 12) (word 13)
          ∷ [];
      owned = owned_of (f.0 i);
      origin = origin_of (f.1 i) (word 14 % 65536);
      predicate = predicate_of (f.2 i) (word 14 / 65536);
    }
