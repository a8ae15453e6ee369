-- The chunks of a description and their instructions, read at their places.
use Prim.Native.Nat.{ℕ, zero, suc, ◌+◌, ◌-◌, ◌<◌, ◌≤◌}
use native.Mathlib.Omega.{arith}
use native.Mathlib.Nat.{add-zero, zero-add}
use mathlib.Core.Path.{◌≡◌, refl, ap, ◌∙◌}
use mathlib.Core.Bool.{Bool, true, false, cond}
use mathlib.Core.List.{List, [], ◌∷◌, map}
use lib.Dec.{eqb, ltb}
use lib.ListN.{length, get_or, length-map, get_or-eq_default}
use borrow.Author.Tests.{eqb-true, ltb-true, ltb-false}
use Rattle.description.specs.Fields.{tag_at, next_at, fields_f, fields_from, of_tag, header_of}
use Rattle.definition.specs.Module.{Chunk, Line, line_of, code_after, chunk_from, chunks_from, module_from, module_of}
use Rattle.definition.specs.Leaves.{no_line, line_at}
use Rattle.form_laws.specs.Places.{Placed, code_places, places_from, places, chunks_at, no_place}
use Rattle.form_laws.specs.Good.{no_chunk, chunk_no}
use Rattle.form_laws.proofs.Each.{suc-out, All, all-at, map_at}

pub code-placed : (s ps : List ℕ) → code_after s ps ≡ map (line_of s) (code_places s ps)
unfolding code_after code_places
code-placed s [] = refl
code-placed s (p ∷ ps) = go (eqb (tag_at s p) 2) (eqb (tag_at s p) 3) (code-placed s ps)
  where
    go : (a b : Bool) → code_after s ps ≡ map (line_of s) (code_places s ps)
        → cond a [] (cond b (line_of s p ∷ code_after s ps) (code_after s ps)) ≡ map (line_of s) (cond a [] (cond b (p ∷ code_places s ps) (code_places s ps)))
    go true b e = refl
    go false true e = ap (λ (l : List Line). line_of s p ∷ l) e
    go false false e = e

-- the chunks from n on are those at their places
pub chunks-placed : (s ps : List ℕ) (signatures n : ℕ) → chunks_from s signatures n ps ≡ chunks_at s signatures n (places_from s ps)
unfolding chunks_from places_from chunks_at
chunks-placed s [] signatures n = refl
chunks-placed s (p ∷ ps) signatures n = go (eqb (tag_at s p) 2) (code-placed s ps) (chunks-placed s ps signatures (suc n)) (chunks-placed s ps signatures n)
  where
    go : (a : Bool) → code_after s ps ≡ map (line_of s) (code_places s ps) → chunks_from s signatures (suc n) ps ≡ chunks_at s signatures (suc n) (places_from s ps)
        → chunks_from s signatures n ps ≡ chunks_at s signatures n (places_from s ps)
        → cond a (chunk_from s n p (ltb n signatures) (code_after s ps) ∷ chunks_from s signatures (suc n) ps) (chunks_from s signatures n ps)
        ≡ chunks_at s signatures n (cond a (record { at = p; code = code_places s ps } ∷ places_from s ps) (places_from s ps))
    go true e f g = rw (e, f)
    go false e f g = g

at_length : (s : List ℕ) (signatures n : ℕ) (xs : List Placed) → length (chunks_at s signatures n xs) ≡ length xs
unfolding chunks_at
at_length s signatures n [] = refl
at_length s signatures n (x ∷ xs) = ap suc (at_length s signatures (suc n) xs)

at-chunk : (s : List ℕ) (signatures n : ℕ) (xs : List Placed) (i : ℕ) (d : Chunk) → i < length xs
    → get_or (chunks_at s signatures n xs) i d ≡ chunk_from s (n + i) (get_or xs i no_place).at (ltb (n + i) signatures) (map (line_of s) (get_or xs i no_place).code)
unfolding chunks_at
at-chunk s signatures n [] i d h = absurd (omega arith)
at-chunk s signatures n (x ∷ xs) zero d h = rw (add-zero n)
at-chunk s signatures n (x ∷ xs) (suc i) d h = rw (suc-out n i) (at-chunk s signatures (suc n) xs i d (omega arith))

-- ---- the chunks of the module
module-chunks : (s : List ℕ) → (module_of s).chunks ≡ chunks_at s (module_of s).signatures 0 (places s)
unfolding module_of module_from places
module-chunks s = chunks-placed s (fields_from s 0) (header_of s 0).signatures 0

pub chunks-count : (s : List ℕ) → length (module_of s).chunks ≡ length (places s)
chunks-count s = ap length (module-chunks s) ∙ at_length s (module_of s).signatures 0 (places s)

-- the chunk n of the module stands at the place n
pub chunk-placed : (s : List ℕ) (n : ℕ) → n < length (module_of s).chunks
    → chunk_no (module_of s) n ≡ chunk_from s n (get_or (places s) n no_place).at (ltb n (module_of s).signatures) (map (line_of s) (get_or (places s) n no_place).code)
unfolding chunk_no
chunk-placed s n h =
    let l : n < length (places s) = omega (arith, chunks-count s) in
    rw (module-chunks s) (rw zero-add at (at-chunk s (module_of s).signatures 0 (places s) n no_chunk l))

no_place_lem : (s : List ℕ) (n : ℕ) → length (module_of s).chunks ≤ n → get_or (places s) n no_place ≡ no_place
no_place_lem s n h = let l : length (places s) ≤ n = omega (arith, chunks-count s) in get_or-eq_default (places s) no_place l

-- the code of the chunk n, of one that isn't there too
pub code_of : (s : List ℕ) (n : ℕ) → (chunk_no (module_of s) n).code ≡ map (line_of s) (get_or (places s) n no_place).code
unfolding chunk_from chunk_no no_chunk
code_of s n = go (ltb n (length (module_of s).chunks)) refl
  where
    go : (b : Bool) → ltb n (length (module_of s).chunks) ≡ b → (chunk_no (module_of s) n).code ≡ map (line_of s) (get_or (places s) n no_place).code
    go true e = ap (λ (c : Chunk). c.code) (chunk-placed s n (ltb-true n (length (module_of s).chunks) e))
    go false e =
        let l = ltb-false n (length (module_of s).chunks) e in
        rw (get_or-eq_default (module_of s).chunks no_chunk l, no_place_lem s n l)

pub code-count : (s : List ℕ) (n : ℕ) → length (chunk_no (module_of s) n).code ≡ length (get_or (places s) n no_place).code
code-count s n = rw (code_of s n) (length-map (get_or (places s) n no_place).code (line_of s))

pub line-placed : (s : List ℕ) (n i : ℕ) → i < length (chunk_no (module_of s) n).code
    → line_at (chunk_no (module_of s) n) i ≡ line_of s (get_or (get_or (places s) n no_place).code i 0)
unfolding line_at
line-placed s n i h = rw (code_of s n) (map_at (line_of s) (get_or (places s) n no_place).code i 0 no_line (omega (arith, code-count s n)))

-- ---- the places are places of fields
-- a field of tag k that begins within the description
pub record FieldAt (s : List ℕ) (k p : ℕ) : Type 0 where
  pub tag : tag_at s p ≡ k
  pub below : p < length s

abbrev PlacedIn : List ℕ → Placed → Type 0
PlacedIn s x = FieldAt s 2 x.at × All (FieldAt s 3) x.code

fields-below : (f : ℕ) (s : List ℕ) (p : ℕ) → All (λ q. q < length s) (fields_f f s p)
unfolding fields_f
fields-below zero s p = tt
fields-below (suc f) s p = go (ltb p (length s)) refl (fields-below f s (next_at s p))
  where
    go : (b : Bool) → ltb p (length s) ≡ b → All (λ q. q < length s) (fields_f f s (next_at s p))
        → All (λ q. q < length s) (cond b (p ∷ fields_f f s (next_at s p)) [])
    go true e a = (ltb-true p (length s) e, a)
    go false e a = tt

code_in : (s ps : List ℕ) → All (λ q. q < length s) ps → All (FieldAt s 3) (code_places s ps)
unfolding code_places
code_in s [] a = tt
code_in s (p ∷ ps) a = go (eqb (tag_at s p) 2) (eqb (tag_at s p) 3) refl (code_in s ps a.1)
  where
    go : (b c : Bool) → eqb (tag_at s p) 3 ≡ c → All (FieldAt s 3) (code_places s ps)
        → All (FieldAt s 3) (cond b [] (cond c (p ∷ code_places s ps) (code_places s ps)))
    go true c e k = tt
    go false true e k = (record { tag = eqb-true (tag_at s p) 3 e; below = a.0 }, k)
    go false false e k = k

places-in : (s ps : List ℕ) → All (λ q. q < length s) ps → All (PlacedIn s) (places_from s ps)
unfolding places_from
places-in s [] a = tt
places-in s (p ∷ ps) a = go (eqb (tag_at s p) 2) refl (code_in s ps a.1) (places-in s ps a.1)
  where
    go : (b : Bool) → eqb (tag_at s p) 2 ≡ b → All (FieldAt s 3) (code_places s ps) → All (PlacedIn s) (places_from s ps)
        → All (PlacedIn s) (cond b (record { at = p; code = code_places s ps } ∷ places_from s ps) (places_from s ps))
    go true e c k = ((record { tag = eqb-true (tag_at s p) 2 e; below = a.0 }, c), k)
    go false e c k = k

tag-all : (s : List ℕ) (k : ℕ) (ps : List ℕ) → All (λ q. q < length s) ps → All (FieldAt s k) (of_tag k s ps)
unfolding of_tag
tag-all s k [] a = tt
tag-all s k (p ∷ ps) a = go (eqb (tag_at s p) k) refl (tag-all s k ps a.1)
  where
    go : (b : Bool) → eqb (tag_at s p) k ≡ b → All (FieldAt s k) (of_tag k s ps) → All (FieldAt s k) (cond b (p ∷ of_tag k s ps) (of_tag k s ps))
    go true e c = (record { tag = eqb-true (tag_at s p) k e; below = a.0 }, c)
    go false e c = c

all-below : (s : List ℕ) → All (λ q. q < length s) (fields_from s 0)
unfolding fields_from
all-below s = fields-below (length s - 0) s 0

placed_at : (s : List ℕ) (n : ℕ) → n < length (module_of s).chunks → PlacedIn s (get_or (places s) n no_place)
unfolding places
placed_at s n h = all-at (PlacedIn s) no_place (places s) n (places-in s (fields_from s 0) (all-below s)) (omega (arith, chunks-count s))

pub place_in : (s : List ℕ) (n : ℕ) → n < length (module_of s).chunks → FieldAt s 2 (get_or (places s) n no_place).at
place_in s n h = (placed_at s n h).0

pub line-in : (s : List ℕ) (n i : ℕ) → i < length (chunk_no (module_of s) n).code → FieldAt s 3 (get_or (get_or (places s) n no_place).code i 0)
line-in s n i h = go (ltb n (length (module_of s).chunks)) refl
  where
    below : i < length (get_or (places s) n no_place).code
    below = omega (arith, code-count s n)

    go : (b : Bool) → ltb n (length (module_of s).chunks) ≡ b → FieldAt s 3 (get_or (get_or (places s) n no_place).code i 0)
    go true e = all-at (FieldAt s 3) 0 (get_or (places s) n no_place).code i (placed_at s n (ltb-true n (length (module_of s).chunks) e)).1 below
    go false e =
        let l = ltb-false n (length (module_of s).chunks) e in
        absurd (omega (arith, below, ap (λ (x : Placed). length x.code) (no_place_lem s n l)))

pub tag_in : (s : List ℕ) (k i : ℕ) → i < length (of_tag k s (fields_from s 0)) → FieldAt s k (get_or (of_tag k s (fields_from s 0)) i 0)
tag_in s k i h = all-at (FieldAt s k) 0 (of_tag k s (fields_from s 0)) i (tag-all s k (fields_from s 0) (all-below s)) h
