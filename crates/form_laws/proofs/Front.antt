-- What is read off the fields, with one more field in front.
use Prim.Native.Nat.{ℕ, ◌+◌, ◌≤◌}
use native.Mathlib.Omega.{arith}
use native.Mathlib.Numerals.{add-one}
use mathlib.Core.Path.{◌≡◌}
use mathlib.Core.List.{List, [], ◌∷◌}
use lib.Dec.{ltb}
use borrow.Author.Tests.{eq-eqb, ne_eqb}
use Rattle.description.specs.Fields.{tag_at, of_tag}
use Rattle.definition.specs.Module.{line_of, code_after, chunk_from, chunks_from}

module _ (s : List ℕ) (p : ℕ) (ps : List ℕ) where
  pub code-chunk : tag_at s p ≡ 2 → code_after s (p ∷ ps) ≡ []
  unfolding code_after
  code-chunk e = rw (eq-eqb (tag_at s p) 2 e)

  pub code-instr : tag_at s p ≡ 3 → code_after s (p ∷ ps) ≡ line_of s p ∷ code_after s ps
  unfolding code_after
  code-instr e = rw (ne_eqb (tag_at s p) 2 (λ q. omega arith), eq-eqb (tag_at s p) 3 e)

  pub code_other : 4 ≤ tag_at s p → code_after s (p ∷ ps) ≡ code_after s ps
  unfolding code_after
  code_other h = rw (ne_eqb (tag_at s p) 2 (λ q. omega arith), ne_eqb (tag_at s p) 3 (λ q. omega arith))

  pub chunks-chunk : (signatures n : ℕ) → tag_at s p ≡ 2
      → chunks_from s signatures n (p ∷ ps) ≡ chunk_from s n p (ltb n signatures) (code_after s ps) ∷ chunks_from s signatures (n + 1) ps
  unfolding chunks_from
  chunks-chunk signatures n e = rw (eq-eqb (tag_at s p) 2 e, add-one n)

  pub chunks-other : (signatures n : ℕ) → (tag_at s p ≡ 2 → ⊥) → chunks_from s signatures n (p ∷ ps) ≡ chunks_from s signatures n ps
  unfolding chunks_from
  chunks-other signatures n h = rw (ne_eqb (tag_at s p) 2 h)

  pub tag-this : (k : ℕ) → tag_at s p ≡ k → of_tag k s (p ∷ ps) ≡ p ∷ of_tag k s ps
  unfolding of_tag
  tag-this k e = rw (eq-eqb (tag_at s p) k e)

  pub tag-other : (k : ℕ) → (tag_at s p ≡ k → ⊥) → of_tag k s (p ∷ ps) ≡ of_tag k s ps
  unfolding of_tag
  tag-other k n = rw (ne_eqb (tag_at s p) k n)
