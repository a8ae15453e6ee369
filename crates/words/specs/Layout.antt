-- A cell as sixteen words: how it is written and read, and the models of the loops that copy and compare words. The last word is not the cell's.
use Rattle.std.specs.Prelude.{ℕ, zero, suc, ◌+◌, ◌*◌, ◌/◌, ◌%◌, ◌<◌, Bool, true, false, cond, not, ◌&&◌, ◌||◌, List, [], ◌∷◌, ◌≡◌, eqb, ltb, get_or, set, length, Option, None, Some}
use Rattle.masks.specs.declared.Mask.{Mask}
use Rattle.masks.specs.Mask.{of}
use Rattle.widths.specs.declared.Width.{Width}
use Rattle.widths.specs.declared.Width.TheVariants.{Unknown as Wide, Scalar, Body}
use Rattle.extents.specs.declared.BodyExtent.{BodyExtent}
use Rattle.extents.specs.declared.BodyExtent.TheVariants.{Absent, Range, Unknown}
use Rattle.extents.specs.declared.Extent.{Extent}
use Rattle.flows.specs.declared.Predicate.{Predicate}
use Rattle.flows.specs.declared.Predicate.TheVariants.{Nothing as Untested, Tests}
use Rattle.flows.specs.Flow.{absent}
use Rattle.cells.specs.declared.Cell.{Cell}
use Rattle.words.specs.declared.cell.Two.{Two}
use Rattle.words.specs.declared.cell.Three.{Three}
use Rattle.words.specs.declared.cell.Four.{Four}

-- ---- from words
abbrev pub width_of : ℕ → ℕ → Width
width_of tag n = cond (eqb tag 0) Wide (cond (eqb tag 1) (Scalar n) (Body n))

abbrev pub extent_of : ℕ → ℕ → ℕ → Extent
extent_of tag low high = cond (eqb tag 0) absent (cond (eqb tag 1) (record { body = Range low high }) (record { body = Unknown }))

abbrev pub owned_of : ℕ → Bool
owned_of bits = not (eqb bits 0)

abbrev pub origin_of : ℕ → ℕ → Option ℕ
origin_of tag n = cond (eqb tag 0) None (Some (n % 65536))

abbrev pub predicate_of : ℕ → ℕ → Predicate
predicate_of tag n = cond (eqb tag 0) Untested (Tests (n % 65536) (eqb tag 2))

-- the offset of word k, as the code writes it
abbrev pub off : ℕ → ℕ → ℕ
off at zero = at
off at (suc k) = at + suc k

-- a cell of its words: any words are those of some cell
unfoldable pub decode : (ℕ → ℕ) → Cell
decode g =
    record {
      mask = of (g 0 % 65536);
      width = width_of (g 0 / 65536 % 4) (g 1);
      flow =
          record {
            bodies = extent_of (g 2) (g 3) (g 4) ∷ extent_of (g 5) (g 6) (g 7) ∷ extent_of (g 8) (g 9) (g 10) ∷ extent_of (g 11) (g 12) (g 13) ∷ [];
            owned = owned_of (g 0 / 65536 / 4 % 4);
            origin = origin_of (g 0 / 65536 / 64 % 2) (g 14 % 65536);
            predicate = predicate_of (g 0 / 65536 / 16 % 4) (g 14 / 65536);
          };
    }

unfoldable pub cell_at : List ℕ → ℕ → Cell
cell_at w at = decode (λ (k : ℕ). get_or w (off at k) 0)

-- ---- to words
abbrev pub two_of : Width → Two
two_of Wide = record { 0 = 0; 1 = 0 }
two_of (Scalar n) = record { 0 = 1; 1 = n }
two_of (Body n) = record { 0 = 2; 1 = n }

abbrev pub three_of_body : BodyExtent → Three
three_of_body Absent = record { 0 = 0; 1 = 0; 2 = 0 }
three_of_body (Range a b) = record { 0 = 1; 1 = a; 2 = b }
three_of_body Unknown = record { 0 = 2; 1 = 0; 2 = 0 }

abbrev pub three_of : Extent → Three
three_of e = three_of_body e.body

abbrev pub owned_bits : Bool → ℕ
owned_bits false = 0
owned_bits true = 1

abbrev pub origin_words : Option ℕ → Two
origin_words None = record { 0 = 0; 1 = 0 }
origin_words (Some i) = record { 0 = 1; 1 = i }

abbrev pub tests_words : ℕ → Bool → Two
tests_words n true = record { 0 = 2; 1 = n }
tests_words n false = record { 0 = 1; 1 = n }

abbrev pub predicate_words : Predicate → Two
predicate_words Untested = record { 0 = 0; 1 = 0 }
predicate_words (Tests n t) = tests_words n t

abbrev pub four_of : List Extent → Four
four_of b =
    record { 0 = three_of (get_or b 0 absent); 1 = three_of (get_or b 1 absent); 2 = three_of (get_or b 2 absent); 3 = three_of (get_or b 3 absent) }

-- the sixteen words of a cell, of its parts as words
abbrev pub words_of : Mask → Two → Four → Two → Two → ℕ → List ℕ
words_of m t x o p n =
    (m.bits + 65536 * (t.0 + 4 * n + 16 * p.0 + 64 * o.0))
    ∷ t.1
    ∷ x.0.0
    ∷ x.0.1
    ∷ x.0.2
    ∷ x.1.0
    ∷ x.1.1
    ∷ x.1.2
    ∷ x.2.0
    ∷ x.2.1
    ∷ x.2.2
    ∷ x.3.0
    ∷ x.3.1
    ∷ x.3.2
    ∷ (o.1 + 65536 * p.1)
    ∷ 0
    ∷ []

unfoldable pub encode : Cell → List ℕ
encode c =
    words_of c.mask (two_of c.width) (four_of c.flow.bodies)
    (origin_words c.flow.origin)
    (predicate_words c.flow.predicate)
    (owned_bits c.flow.owned)

-- a cell that its words hold; every cell that code has is one
pub record Storable (c : Cell) : Type 0 where
  pub mask : c.mask.bits < 65536
  pub four : length c.flow.bodies ≡ 4
  pub origin : (origin_words c.flow.origin).1 < 65536
  pub receiver : (predicate_words c.flow.predicate).1 < 65536

-- ---- the loops
-- the first k of the words vs stored from at
unfoldable pub put_n : List ℕ → ℕ → List ℕ → ℕ → List ℕ
put_n w at vs zero = w
put_n w at vs (suc k) = set (put_n w at vs k) (at + k) (get_or vs k 0)

unfoldable pub put_cell : List ℕ → ℕ → Cell → List ℕ
put_cell w at c = put_n w at (encode c) 15

-- the k words from a, as they are before, copied to b
unfoldable pub copy_n : List ℕ → ℕ → ℕ → ℕ → List ℕ
copy_n w a b zero = w
copy_n w a b (suc k) = set (copy_n w a b k) (b + k) (get_or w (a + k) 0)

-- the k words at a are those at b
unfoldable pub same_n : List ℕ → ℕ → ℕ → ℕ → Bool
same_n w a b zero = true
same_n w a b (suc k) = same_n w a b k && eqb (get_or w (a + k) 0) (get_or w (b + k) 0)

-- a body, owned, an origin or a predicate
abbrev pub flow_at : List ℕ → ℕ → Bool
flow_at w at =
    ltb 262143 (get_or w at 0)
    || (not (eqb (get_or w (at + 2) 0) 0)
    || (not (eqb (get_or w (at + 5) 0) 0)
    || (not (eqb (get_or w (at + 8) 0) 0)
    || not (eqb (get_or w (at + 11) 0) 0))))

-- neither origin nor predicate
abbrev pub plain_at : List ℕ → ℕ → Bool
plain_at w at = ltb (get_or w at 0) 1048576
