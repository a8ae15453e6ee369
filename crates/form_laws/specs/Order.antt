-- The order of the fields: the header, the chunks with their instructions and sites, then natives, shared slots, placements, initializers.
use Rattle.std.specs.Prelude.{ℕ, Bool, true, cond, ◌&&◌, List, [], ◌∷◌, eqb, ltb, leb}
use Rattle.description.specs.Fields.{tag_at}

-- a field of this tag may stand after one of the tag last, which is 0 at the beginning
unfoldable pub follows : ℕ → ℕ → Bool
follows last tag =
    cond (eqb tag 1) (eqb last 0)
    (cond (eqb tag 2) (ltb 0 last && ltb last 5)
    (cond (eqb tag 3) (ltb 1 last && ltb last 5)
    (cond (eqb tag 4) (eqb last 3)
    (ltb 0 last && leb last tag && ltb tag 9))))

unfoldable pub ordered : List ℕ → ℕ → List ℕ → Bool
ordered s last [] = true
ordered s last (p ∷ ps) = follows last (tag_at s p) && ordered s (tag_at s p) ps
