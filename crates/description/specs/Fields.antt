-- The tagged fields of a description: one-byte tag, two-byte length, contents; each read at the place of its tag.
use Rattle.std.specs.Prelude.{ℕ, zero, suc, ◌+◌, ◌*◌, ◌-◌, Bool, cond, List, [], ◌∷◌, eqb, ltb, length}
use Rattle.le.specs.Le.{at8, at16, at32}
use Rattle.widths.specs.declared.Shape.{Shape}
use Rattle.description.specs.declared.Header.{Header}
use Rattle.description.specs.declared.ChunkHead.{ChunkHead}
use Rattle.description.specs.declared.Instr.{Instr}

unfoldable pub tag_at : List ℕ → ℕ → ℕ
tag_at s p = at8 s p

unfoldable pub len_at : List ℕ → ℕ → ℕ
len_at s p = at16 s (p + 1)

unfoldable pub next_at : List ℕ → ℕ → ℕ
next_at s p = p + 3 + len_at s p

-- the places of the fields from p on; one that overruns stands in it too
unfoldable pub fields_f : ℕ → List ℕ → ℕ → List ℕ
fields_f zero s p = []
fields_f (suc f) s p = cond (ltb p (length s)) (p ∷ fields_f f s (next_at s p)) []

unfoldable pub fields_from : List ℕ → ℕ → List ℕ
fields_from s p = fields_f (length s - p) s p

-- the fields of one tag
unfoldable pub of_tag : ℕ → List ℕ → List ℕ → List ℕ
of_tag t s [] = []
of_tag t s (p ∷ ps) = cond (eqb (tag_at s p) t) (p ∷ of_tag t s ps) (of_tag t s ps)

unfoldable pub shape_of : List ℕ → ℕ → Shape
shape_of s q = record { tag = at8 s q; kind = at8 s (q + 1); width = at8 s (q + 2); size = at32 s (q + 3) }

-- field 1; `persistent_composite_bytes`, which no rule reads, stands before the size of a handle
unfoldable pub header_of : List ℕ → ℕ → Header
header_of s p =
    record {
      float = at8 s (p + 3);
      entry = at16 s (p + 4);
      chunks = at16 s (p + 6);
      signatures = at16 s (p + 8);
      layout = at8 s (p + 10);
      slots = at16 s (p + 11);
      owns = at8 s (p + 13);
      handle = at8 s (p + 18);
    }

-- field 2: the fixed part, the type tags, the parameter shapes, the return shape
unfoldable pub chunk_of : List ℕ → ℕ → ChunkHead
chunk_of s p =
    record {
      reachable = at8 s (p + 3);
      block = at8 s (p + 4);
      locals = at16 s (p + 5);
      stack = at16 s (p + 7);
      arity = at8 s (p + 9);
      tags = at8 s (p + 10);
    }

unfoldable pub tags_at : ℕ → ℕ
tags_at p = p + 11

unfoldable pub params_at : List ℕ → ℕ → ℕ
params_at s p = p + 11 + at8 s (p + 10)

unfoldable pub params_of : List ℕ → ℕ → ℕ
params_of s p = at8 s (params_at s p)

unfoldable pub param_of : List ℕ → ℕ → ℕ → Shape
param_of s p i = shape_of s (params_at s p + 1 + 7 * i)

unfoldable pub result_of : List ℕ → ℕ → Shape
result_of s p = param_of s p (params_of s p)

-- field 3
unfoldable pub instr_of : List ℕ → ℕ → Instr
instr_of s p =
    record {
      op = at8 s (p + 3);
      taken = at8 s (p + 4);
      given = at8 s (p + 5);
      a = at32 s (p + 6);
      b = at32 s (p + 10);
      c = at32 s (p + 14);
    }

-- field 4 stands after its instruction
unfoldable pub has_site : List ℕ → ℕ → Bool
has_site s p = eqb (tag_at s (next_at s p)) 4

unfoldable pub yielded_of : List ℕ → ℕ → Shape
yielded_of s p = shape_of s (next_at s p + 3)

unfoldable pub reply_of : List ℕ → ℕ → Shape
reply_of s p = shape_of s (next_at s p + 10)
