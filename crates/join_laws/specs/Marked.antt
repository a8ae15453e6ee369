-- The marked cases of document 01, whatever the sizes of a float and of a handle: one list, evaluated.
use Rattle.std.specs.Prelude.{ℕ, ◌≡◌, refl, Bool, true, false, ◌&&◌, List, [], ◌∷◌, eqb}
use Rattle.masks.specs.declared.Mask.{Mask}
use Rattle.masks.specs.Mask.{of, scalar, body, kind, immediate}
use Rattle.extents.specs.declared.BodyExtent.{BodyExtent}
use Rattle.extents.specs.declared.BodyExtent.TheVariants.{Absent, Range, Unknown}
use Rattle.extents.specs.Extent.{join_body, same_body}
use Rattle.flows.specs.Flow.{new_flow}
use Rattle.cells.specs.declared.Cell.{Cell}
use Rattle.cells.specs.Cell.{made}
use Rattle.packing.specs.declared.Packed.{Packed}
use Rattle.packing.specs.declared.Packed.TheVariants.{Nothing, Bytes}
use Rattle.packing.specs.Packing.{packed_extent, packed_one, scalar_span}

data Case : Type 0 where
  -- the mask has these bits
  bits : Mask → ℕ → Case
  -- the first two extents join to the third
  join : BodyExtent → BodyExtent → BodyExtent → Case
  -- operands of these masks pack so
  pack : List ℕ → Packed → Case

same_packed : Packed → Packed → Bool
same_packed Nothing Nothing = true
same_packed Nothing (Bytes c d) = false
same_packed (Bytes a b) Nothing = false
same_packed (Bytes a b) (Bytes c d) = eqb a c && eqb b d

module _ (float handle : ℕ) where
  operands : List ℕ → List Cell
  operands [] = []
  operands (m ∷ ms) = made (of m) float ∷ operands ms

  good : Case → Bool
  good (bits m n) = eqb m.bits n
  good (join x y z) = same_body (join_body x y) z
  good (pack ms p) = same_packed (packed_extent (operands ms) float handle) p

  all : List Case → Bool
  all [] = true
  all (c ∷ cs) = good c && all cs

cases : List Case
cases =
    bits (scalar 1) 4098
    ∷ bits (scalar 7) 128
    ∷ bits (scalar 8) 8191
    ∷ bits (body 4) 3840
    ∷ bits (kind (of 4096)) 2
    ∷ join Absent (Range 4 8) (Range 4 8)
    ∷ join (Range 1 4) (Range 8 12) (Range 1 12)
    ∷ join Unknown Absent Unknown
    ∷ pack [] (Bytes 0 0)
    ∷ pack (12 ∷ []) (Bytes 1 8)
    ∷ pack (64 ∷ []) Nothing
    ∷ pack (0 ∷ []) Nothing
    ∷ bits (immediate 3) 8191
    ∷ bits (immediate 4) 8
    ∷ bits (immediate 19) 8
    ∷ bits (immediate 20) 8191
    ∷ []

marked : (float handle : ℕ) → all float handle cases ≡ true
unfolding cases all good operands same_packed scalar body kind immediate new_flow made packed_extent packed_one scalar_span
marked float handle = refl
