-- What the late looks count, the table of parameter shapes, and how a look ends.
use Rattle.std.specs.Prelude.{ℕ, ◌+◌, Bool, true, cond, ◌&&◌, List, [], ◌∷◌, eqb, ltb, replicate, Result, Ok, Err}
use Rattle.std.proofs.lemmas.List.Edits.{sets}
use Rattle.answers.specs.declared.Refusal.{Refusal}
use Rattle.description.specs.Fields.{tag_at, fields_from, of_tag}
use Rattle.definition.specs.Form.{parameters}

-- after c chunks and i instructions of the last one: no chunk past the 64th, no instruction past the 4096th of its chunk
unfoldable pub counted : List ℕ → ℕ → ℕ → List ℕ → Bool
counted s c i [] = true
counted s c i (p ∷ ps) =
    cond (eqb (tag_at s p) 2) (ltb c 64 && counted s (c + 1) 0 ps)
    (cond (eqb (tag_at s p) 3) (ltb i 4096 && counted s c (i + 1) ps)
    (counted s c i ps))

-- the parameter shapes of each chunk with a signature, by chunk
unfoldable pub param_list : List ℕ → ℕ → List ℕ
param_list s signatures = parameters s signatures (of_tag 2 s (fields_from s 0))

-- the same for the first 64 chunks, with 0 for those that are not there
unfoldable pub param_table : List ℕ → ℕ → List ℕ
param_table s signatures = sets (replicate 64 0) 0 (param_list s signatures)

-- a refusal of number 0 is none
unfoldable pub passed : Refusal → Result (Unit {0}) Refusal
passed r = cond (eqb r.number 0) (Ok tt) (Err r)
