-- The instructions of the first chunks: one chunk more, no more than all, and so few as the description has room for.
use Prim.Native.Nat.{ℕ, zero, suc, ◌+◌, ◌<◌, ◌≤◌}
use native.Mathlib.Omega.{arith}
use native.Mathlib.Numerals.{add-one}
use mathlib.Core.Path.{◌≡◌}
use mathlib.Core.List.{List, [], ◌∷◌}
use lib.ListN.{length, get_or, take}
use Rattle.definition.specs.Module.{Chunk, module_of}
use Rattle.form_laws.specs.Good.{no_chunk, chunk_no, instrs_in, Good}

first_more : (cs : List Chunk) (k : ℕ) → k < length cs → instrs_in (take (suc k) cs) ≡ instrs_in (take k cs) + length (get_or cs k no_chunk).code
unfolding instrs_in
first_more [] k h = absurd (omega arith)
first_more (c ∷ cs) zero h = omega arith
first_more (c ∷ cs) (suc k) h = omega (arith, first_more cs k (omega arith))

instrs-more : (cs : List Chunk) (k : ℕ) → k < length cs → instrs_in (take (k + 1) cs) ≡ instrs_in (take k cs) + length (get_or cs k no_chunk).code
instrs-more cs k h = rw (add-one k) (first_more cs k h)

instrs-most : (cs : List Chunk) (k : ℕ) → instrs_in (take k cs) ≤ instrs_in cs
unfolding instrs_in
instrs-most [] zero = omega arith
instrs-most [] (suc k) = omega arith
instrs-most (c ∷ cs) zero = omega arith
instrs-most (c ∷ cs) (suc k) = omega (arith, instrs-most cs k)

-- 18 bytes each in 1,048,576
module _ (s : List ℕ) {w : ℕ} (g : Good s w) (k : ℕ) where
  pub few-first : instrs_in (take k (module_of s).chunks) ≤ 58254
  few-first = omega (arith, instrs-most (module_of s).chunks k, g.instrs, g.long)

  pub next-first : k < length (module_of s).chunks
      → instrs_in (take (k + 1) (module_of s).chunks) ≡ instrs_in (take k (module_of s).chunks) + length (chunk_no (module_of s) k).code
  unfolding chunk_no
  next-first h = instrs-more (module_of s).chunks k h

pub few-with : (s : List ℕ) {w : ℕ} → Good s w → (k : ℕ) → k < length (module_of s).chunks
    → instrs_in (take k (module_of s).chunks) + length (chunk_no (module_of s) k).code ≤ 58254
few-with s g k h = omega (arith, next-first s g k h, few-first s g (k + 1))
