-- Where the fields of a description stand: each chunk's, and those of its instructions.
use Rattle.std.specs.Prelude.{ℕ, suc, cond, List, [], ◌∷◌, map, eqb, ltb}
use Rattle.description.specs.Fields.{tag_at, fields_from}
use Rattle.definition.specs.Module.{Chunk, line_of, chunk_from}

pub record Placed : Type 0 where
  pub at : ℕ
  pub code : List ℕ

-- the fields of the instructions that follow a chunk's field, up to the next chunk
unfoldable pub code_places : List ℕ → List ℕ → List ℕ
code_places s [] = []
code_places s (p ∷ ps) = cond (eqb (tag_at s p) 2) [] (cond (eqb (tag_at s p) 3) (p ∷ code_places s ps) (code_places s ps))

unfoldable pub places_from : List ℕ → List ℕ → List Placed
places_from s [] = []
places_from s (p ∷ ps) = cond (eqb (tag_at s p) 2) (record { at = p; code = code_places s ps } ∷ places_from s ps) (places_from s ps)

-- the chunks of a description, by place
unfoldable pub places : List ℕ → List Placed
places s = places_from s (fields_from s 0)

-- the chunks that stand at these places, numbered from n on
unfoldable pub chunks_at : List ℕ → ℕ → ℕ → List Placed → List Chunk
chunks_at s signatures n [] = []
chunks_at s signatures n (x ∷ xs) = chunk_from s n x.at (ltb n signatures) (map (line_of s) x.code) ∷ chunks_at s signatures (suc n) xs

abbrev pub no_place : Placed
no_place = record { at = 0; code = [] }
