-- The module's shapes, natives and shared slots, read at their places.
use Prim.Native.Nat.{ℕ, ◌+◌, ◌<◌}
use native.Mathlib.Omega.{arith}
use mathlib.Core.Path.{◌≡◌, ap, ◌∙◌}
use mathlib.Core.List.{List}
use lib.Dec.{ltb}
use lib.ListN.{length, get_or, length-map}
use Rattle.le.specs.Le.{at8}
use Rattle.description.specs.Fields.{fields_from, of_tag, param_of, result_of}
use Rattle.definition.specs.Module.{Chunk, Native, signed_params, chunk_from, native_of, module_from, module_of}
use Rattle.form_laws.specs.Places.{places, no_place}
use Rattle.form_laws.specs.Good.{no_shape, chunk_no}
use Rattle.form_laws.proofs.Each.{row-length, row-at, map_at}
use Rattle.form_laws.proofs.Chunks.{chunk-placed}

-- ---- shapes
pub param-placed : (s : List ℕ) (n k : ℕ) → n < length (module_of s).chunks → k < length (chunk_no (module_of s) n).params
    → get_or (chunk_no (module_of s) n).params k no_shape ≡ param_of s (get_or (places s) n no_place).at k
unfolding chunk_from
param-placed s n k h l =
    ap (λ (c : Chunk). get_or c.params k no_shape) (chunk-placed s n h)
    ∙ row-at (param_of s at) no_shape 0 count k (omega (arith, ap (λ (c : Chunk). length c.params) (chunk-placed s n h), row-length (param_of s at) 0 count))
    ∙ ap (param_of s at) (omega arith)
  where
    at : ℕ
    at = (get_or (places s) n no_place).at

    count : ℕ
    count = signed_params s at (ltb n (module_of s).signatures)

pub result-placed : (s : List ℕ) (n : ℕ) → n < length (module_of s).chunks → (chunk_no (module_of s) n).result ≡ result_of s (get_or (places s) n no_place).at
unfolding chunk_from
result-placed s n h = ap (λ (c : Chunk). c.result) (chunk-placed s n h)

-- ---- natives and shared slots
pub natives-count : (s : List ℕ) → length (module_of s).natives ≡ length (of_tag 5 s (fields_from s 0))
unfolding module_of module_from
natives-count s = length-map (of_tag 5 s (fields_from s 0)) (native_of s)

pub native-placed : (s : List ℕ) (k : ℕ) (d : Native) → k < length (module_of s).natives → get_or (module_of s).natives k d ≡ native_of s (get_or (of_tag 5 s (fields_from s 0)) k 0)
unfolding module_of module_from
native-placed s k d h = map_at (native_of s) (of_tag 5 s (fields_from s 0)) k 0 d (omega (arith, natives-count s))

pub shared-count : (s : List ℕ) → length (module_of s).shared ≡ length (of_tag 6 s (fields_from s 0))
unfolding module_of module_from
shared-count s = length-map (of_tag 6 s (fields_from s 0)) (λ (p : ℕ). at8 s (p + 3))

pub shared-placed : (s : List ℕ) (k : ℕ) → k < length (module_of s).shared → get_or (module_of s).shared k 0 ≡ at8 s (get_or (of_tag 6 s (fields_from s 0)) k 0 + 3)
unfolding module_of module_from
shared-placed s k h = map_at (λ (p : ℕ). at8 s (p + 3)) (of_tag 6 s (fields_from s 0)) k 0 0 (omega (arith, shared-count s))
