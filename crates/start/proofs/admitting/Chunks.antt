-- Chunks read from the description, and one turn of each loop.
use Prim.Native.Nat.{ℕ, zero, suc, ◌+◌, ◌<◌, ◌≤◌}
use native.Mathlib.Omega.{arith}
use native.Mathlib.Numerals.{add-one}
use mathlib.Core.Path.{◌≡◌, refl, sym, ap, ◌∙◌}
use mathlib.Core.Bool.{Bool, true, false, not, cond, ◌&&◌, ◌||◌}
use mathlib.Core.Option.{Option, none, some}
use mathlib.Core.List.{List, [], ◌∷◌}
use mathlib.Core.Logic.{◌⊎◌, inl, inr}
use lib.Dec.{eqb, leb}
use lib.ListN.{length, get_or, drop, drop_of_length-le}
use lib.Seq.{drop-cons}
use borrow.Author.Tests.{ne_eqb, eq-eqb, eqb-false}
use Rattle.answers.specs.Answers.{refusal}
use Rattle.std.specs.Prelude.{Ok, Err}
use Rattle.le.specs.Le.{at8}
use Rattle.masks.specs.Names.{UNKNOWN}
use Rattle.widths.specs.declared.Shape.{Shape}
use Rattle.description.specs.declared.ChunkHead.{ChunkHead}
use Rattle.description.specs.Fields.{chunk_of, tags_at}
use Rattle.definition.specs.Module.{Module, Chunk, chunk_from, module_of}
use Rattle.definition.specs.Start.{tag_mask, agree, admission, admitted}
use Rattle.form_laws.proofs.Each.{row-length, row-at}
use Rattle.form_laws.proofs.Chunks.{chunk-placed}
use Rattle.form_laws.specs.Good.{Good, no_chunk, chunk_no, no_shape}
use Rattle.layout.specs.declared.Tables.{Tables}
use Rattle.layout.specs.declared.Chunk.{Chunk as ChunkNumbers}
use Rattle.layout.specs.Indexed.{Indexed, tables_of, chunk_place, chunk_at}
use Rattle.layout.proofs.Read.{place-small, place_is, count-is, params_is, chunks-are}
use Rattle.start.specs.admitting.Admitting.{NumbersOf, Least, fits_tag, found}

-- ---- the numbers and the bytes of a chunk
pub stands : (s ws : List ℕ) (c : ℕ) (ch : ChunkNumbers) → ch ≡ chunk_at s ws c → NumbersOf s c ch
stands s ws c ch e = record { at = place_is s ws c ch e; count = count-is s ws c ch e; params = params_is s ws c ch e }

module _ (s : List ℕ) (c : ℕ) (h : c < length (module_of s).chunks) where
  pub arity-is : (chunk_no (module_of s) c).arity ≡ (chunk_of s (chunk_place s c).at).arity
  unfolding chunk_from chunk_place
  arity-is = ap (λ (x : Chunk). x.arity) (chunk-placed s c h)

  pub tags-count : length (chunk_no (module_of s) c).tags ≡ (chunk_of s (chunk_place s c).at).tags
  unfolding chunk_from chunk_place
  tags-count = ap (λ (x : Chunk). length x.tags) (chunk-placed s c h) ∙ row-length _ 0 _

  pub tag_is : (k : ℕ) → k < length (chunk_no (module_of s) c).tags → get_or (chunk_no (module_of s) c).tags k 0 ≡ at8 s (tags_at (chunk_place s c).at + k)
  unfolding chunk_from chunk_place
  tag_is k l =
      let z : 0 + k ≡ k = omega arith in
      ap (λ (x : Chunk). get_or x.tags k 0) (chunk-placed s c h)
      ∙ row-at (λ (j : ℕ). at8 s (tags_at (chunk_place s c).at + j)) 0 0 _ k (omega (arith, tags-count))
      ∙ ap (λ (j : ℕ). at8 s (tags_at (chunk_place s c).at + j)) z

  pub at_small : (w : ℕ) → Good s w → (ch : ChunkNumbers) → NumbersOf s c ch → ch.at < 1048576
  at_small w g ch x = omega (arith, x.at, place-small s c h, g.long)

-- ---- type tags and shapes, one by one
pub tag-other : (t : ℕ) → (t ≡ 1 → ⊥) → (t ≡ 2 → ⊥) → (t ≡ 3 → ⊥) → (t ≡ 4 → ⊥) → (t ≡ 5 → ⊥) → (t ≡ 6 → ⊥) → (t ≡ 7 → ⊥) → UNKNOWN ≡ tag_mask t
unfolding tag_mask
tag-other zero a b c d e f g = refl
tag-other (suc zero) a b c d e f g = absurd (a refl)
tag-other (suc (suc zero)) a b c d e f g = absurd (b refl)
tag-other (suc (suc (suc zero))) a b c d e f g = absurd (c refl)
tag-other (suc (suc (suc (suc zero)))) a b c d e f g = absurd (d refl)
tag-other (suc (suc (suc (suc (suc zero))))) a b c d e f g = absurd (e refl)
tag-other (suc (suc (suc (suc (suc (suc zero)))))) a b c d e f g = absurd (f refl)
tag-other (suc (suc (suc (suc (suc (suc (suc zero))))))) a b c d e f g = absurd (g refl)
tag-other (suc (suc (suc (suc (suc (suc (suc (suc t)))))))) a b c d e f g = refl

module _ (ts : List ℕ) (xs : List Shape) (k : ℕ) (h : k < length ts) (l : k < length xs) where
  agree-turn : agree (drop k ts) (drop k xs) ≡ fits_tag (get_or ts k 0) (get_or xs k no_shape) && agree (drop (k + 1) ts) (drop (k + 1) xs)
  unfolding agree
  agree-turn = rw (add-one k, drop-cons ts k 0 h, drop-cons xs k no_shape l)

  -- b is what the look at the tag and the shape answers
  pub agree-next : (b : Bool) → b ≡ fits_tag (get_or ts k 0) (get_or xs k no_shape) → b ≡ true → agree (drop (k + 1) ts) (drop (k + 1) xs) ≡ agree (drop k ts) (drop k xs)
  agree-next b e t = sym (agree-turn ∙ ap (λ (x : Bool). x && agree (drop (k + 1) ts) (drop (k + 1) xs)) (sym e ∙ t))

  pub agree-stop : (b : Bool) → b ≡ fits_tag (get_or ts k 0) (get_or xs k no_shape) → b ≡ false → agree (drop k ts) (drop k xs) ≡ false
  agree-stop b e t = agree-turn ∙ ap (λ (x : Bool). x && agree (drop (k + 1) ts) (drop (k + 1) xs)) (sym e ∙ t)

agree-none : (ts : List ℕ) → agree ts [] ≡ true
unfolding agree
agree-none [] = refl
agree-none (t ∷ ts) = refl

pub agree-end : (ts : List ℕ) (xs : List Shape) (n : ℕ) → Least (length ts) (length xs) n → agree (drop n ts) (drop n xs) ≡ true
unfolding agree
agree-end ts xs n x = go x.one
  where
    go : (n ≡ length ts) ⊎ (n ≡ length xs) → agree (drop n ts) (drop n xs) ≡ true
    go (inl e) = let l : length ts ≤ n = omega arith in rw (drop_of_length-le ts l)
    go (inr e) = let l : length xs ≤ n = omega arith in rw (drop_of_length-le xs l) (agree-none (drop n ts))

-- ---- one chunk
-- past the signatures, without code, or with parameters that are not as many as its arity
abbrev lacks : ℕ → ℕ → ℕ → ℕ → ℕ → Bool
lacks signatures number count params arity = leb signatures number || (eqb count 0 || not (eqb params arity))

module _ (s : List ℕ) (w : ℕ) (g : Good s w) (t : Tables) (e : t ≡ tables_of s) (c : ℕ) (l : c < length (module_of s).chunks) (ch : ChunkNumbers) (x : NumbersOf s c ch)
    (h : ChunkHead) (q : h ≡ chunk_of s ch.at) where
  -- the head at the chunk's place
  head-is : h ≡ chunk_of s (chunk_place s c).at
  head-is = q ∙ ap (chunk_of s) x.at

  missing-is : lacks t.signatures c ch.count ch.params h.arity
      ≡ lacks (module_of s).signatures (chunk_no (module_of s) c).number (length (chunk_no (module_of s) c).code) (length (chunk_no (module_of s) c).params) (chunk_no (module_of s) c).arity
  unfolding tables_of
  missing-is =
      let a : t.signatures ≡ (module_of s).signatures = ap (λ (y : Tables). y.signatures) e in
      let b : h.arity ≡ (chunk_no (module_of s) c).arity = ap (λ (y : ChunkHead). y.arity) head-is ∙ sym (arity-is s c l) in
      rw (a, b, x.count, x.params, (g.each_chunk c l).number)

  pub admission-missing : lacks t.signatures c ch.count ch.params h.arity ≡ true → 9 ≡ admission (module_of s) (chunk_no (module_of s) c)
  unfolding admission
  admission-missing r = rw (sym missing-is ∙ r)

  pub admission-agrees : lacks t.signatures c ch.count ch.params h.arity ≡ false
      → (b : Bool) → b ≡ agree (chunk_no (module_of s) c).tags (chunk_no (module_of s) c).params → cond b 0 10 ≡ admission (module_of s) (chunk_no (module_of s) c)
  unfolding admission
  admission-agrees r b a = rw (sym missing-is ∙ r, ← a)

  pub least-is : (n : ℕ) → Least h.tags ch.params n → Least (length (chunk_no (module_of s) c).tags) (length (chunk_no (module_of s) c).params) n
  least-is n y =
      let a : h.tags ≡ length (chunk_no (module_of s) c).tags = ap (λ (z : ChunkHead). z.tags) head-is ∙ sym (tags-count s c l) in
      rw (a, x.params) at y

-- ---- the chunks, one by one
-- a is the chunk's admission, n what the look at it answers
next : (r : Bool) (a c n : ℕ) (rest : Option (ℕ × ℕ)) → n ≡ cond r a 0 → n ≡ 0 → cond (r && not (eqb a 0)) (some (a, c)) rest ≡ rest
next true a c n rest q z = rw (eq-eqb a 0 (sym q ∙ z))
next false a c n rest q z = refl

stop : (r : Bool) (a c n : ℕ) (rest : Option (ℕ × ℕ)) → n ≡ cond r a 0 → (n ≡ 0 → ⊥) → cond (r && not (eqb a 0)) (some (a, c)) rest ≡ some (n, c)
stop true a c n rest q d = rw (ne_eqb a 0 (λ z. d (q ∙ z))) (ap (λ (k : ℕ). some (k, c)) (sym q))
stop false a c n rest q d = absurd (d q)

module _ (m : Module) (c : ℕ) (h : c < length m.chunks) (e : (chunk_no m c).number ≡ c) where
  turn : admitted m (drop c m.chunks)
      ≡ cond ((chunk_no m c).reachable && not (eqb (admission m (chunk_no m c)) 0)) (some (admission m (chunk_no m c), c)) (admitted m (drop (c + 1) m.chunks))
  unfolding admitted chunk_no
  turn =
      rw (add-one c, drop-cons m.chunks c no_chunk h)
      (ap (λ (n : ℕ). cond ((chunk_no m c).reachable && not (eqb (admission m (chunk_no m c)) 0)) (some (admission m (chunk_no m c), n)) (admitted m (drop (suc c) m.chunks))) e)

  admitted-next : (n : ℕ) → n ≡ cond (chunk_no m c).reachable (admission m (chunk_no m c)) 0 → n ≡ 0
      → admitted m (drop c m.chunks) ≡ admitted m (drop (c + 1) m.chunks)
  admitted-next n q z = turn ∙ next (chunk_no m c).reachable (admission m (chunk_no m c)) c n _ q z

  admitted-stop : (n : ℕ) → n ≡ cond (chunk_no m c).reachable (admission m (chunk_no m c)) 0 → (n ≡ 0 → ⊥) → admitted m (drop c m.chunks) ≡ some (n, c)
  admitted-stop n q d = turn ∙ stop (chunk_no m c).reachable (admission m (chunk_no m c)) c n _ q d

-- a turn of the loop: the chunk's numbers, and what the look at it answers
module _ (s ws : List ℕ) (x : Indexed s ws) (t : Tables) (e : t ≡ tables_of s) (c : ℕ) (l : c < t.chunks) (ch : ChunkNumbers) (q : ch ≡ chunk_at s ws c)
    (n : ℕ) (a : n ≡ cond ch.reachable (admission (module_of s) (chunk_no (module_of s) c)) 0)
    (so : admitted (module_of s) (drop c (module_of s).chunks) ≡ admitted (module_of s) (module_of s).chunks) where
  there : c < length (module_of s).chunks
  there = omega (arith, chunks-are s t e)

  look_is : n ≡ cond (chunk_no (module_of s) c).reachable (admission (module_of s) (chunk_no (module_of s) c)) 0
  unfolding chunk_at
  look_is = a ∙ ap (λ (y : ChunkNumbers). cond y.reachable (admission (module_of s) (chunk_no (module_of s) c)) 0) q

  pub turn-next : n ≡ 0 → admitted (module_of s) (drop (c + 1) (module_of s).chunks) ≡ admitted (module_of s) (module_of s).chunks
  turn-next z = sym (admitted-next (module_of s) c there (x.good.each_chunk c there).number n look_is z) ∙ so

  pub turn-stop : (n ≡ 0 → ⊥) → Err (refusal n c 65535 0) ≡ found (admitted (module_of s) (module_of s).chunks)
  unfolding found
  turn-stop d = ap found (sym (admitted-stop (module_of s) c there (x.good.each_chunk c there).number n look_is d) ∙ so)

pub turn_end : (m : Module) (c : ℕ) → length m.chunks ≤ c → admitted m (drop c m.chunks) ≡ admitted m m.chunks → Ok tt ≡ found (admitted m m.chunks)
unfolding found admitted
turn_end m c l e = ap found (sym (ap (admitted m) (drop_of_length-le m.chunks l)) ∙ e)

-- where none is refused, none is found
pub found_none : (o : Option (ℕ × ℕ)) → Ok tt ≡ found o → o ≡ none
unfolding found
found_none none e = refl
found_none (some x) e = cc
