-- What a run has left: a number that every taking makes smaller. Over any state, facts and chunks.
use Rattle.std.specs.Prelude.{ℕ, suc, ◌+◌, ◌*◌, Bool, cond, List, [], ◌∷◌, length}
use Rattle.std.proofs.Math.Option.{Option, none, some}

-- the sum of a number of each element
unfoldable pub total : {A : Type 0} → (A → ℕ) → List A → ℕ
total f [] = 0
total f (x ∷ xs) = f x + total f xs

-- a place with no state yet has one more than any state can have
unfoldable pub place_left : {S : Type 0} → (S → ℕ) → ℕ → Option S → ℕ
place_left left most none = suc most
place_left left most (some s) = left s

-- a chunk at work: what its places have, and one for each entry that is queued
unfoldable pub work_left : {S : Type 0} → (S → ℕ) → ℕ → List (Option S) → List ℕ → ℕ
work_left left most st q = total (place_left left most) st + length q

-- the most that a chunk begins with: no place has a state, and one entry is queued
unfoldable pub chunk_most : {C : Type 0} → (C → ℕ) → ℕ → C → ℕ
chunk_most places most c = places c * suc most + 1

-- the chunks still to come in a pass
unfoldable pub pass_most : {C : Type 0} → (C → ℕ) → ℕ → List C → ℕ
pass_most places most cs = total (chunk_most places most) cs

-- the passes still to come: one for each change of the facts, and validation
unfoldable pub passes_left : Bool → ℕ → ℕ → ℕ
passes_left validating pass changes = cond validating 0 (suc changes * suc pass)
