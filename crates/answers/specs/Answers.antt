-- Document 01's numbers and values for each case of an answer; document 02, Three: of the answer of a call with an index.
use Rattle.std.specs.Prelude.{ℕ, cond, Result, Ok, Err, List, [], ◌∷◌, ltb}
use Rattle.answers.specs.declared.Refusal.{Refusal}
use Rattle.answers.specs.declared.Accepted.{Accepted}
use Rattle.answers.specs.declared.AcceptedIndexed.{AcceptedIndexed}

-- a call that accepts, with this length of the report and these steps
abbrev pub accepts : ℕ → ℕ → Result Accepted Refusal
accepts length steps = Ok (record { length = length; steps = steps })

-- the same with an index of this length
abbrev pub accepts_with : ℕ → ℕ → ℕ → Result AcceptedIndexed Refusal
accepts_with length steps index = Ok (record { length = length; steps = steps; index = index })

-- a refusal at an instruction of a chunk
abbrev pub refusal : ℕ → ℕ → ℕ → ℕ → Refusal
refusal n c i steps = record { number = n; chunk = c; instruction = i; steps = steps }

-- a refusal that names neither chunk nor instruction
abbrev pub nowhere : ℕ → ℕ → Refusal
nowhere n steps = refusal n 65535 65535 steps

-- the refusal of a field: 1 and 2 name nothing, 3 and 4 what the field is part of
unfoldable pub in_field : ℕ → ℕ → ℕ → Refusal
in_field n c i = cond (ltb n 3) (nowhere n 0) (refusal n c i 0)

-- an answer as numbers: the refusal's number or 0, the chunk and the instruction that it names, the steps, the report's length
unfoldable pub numbers : Result Accepted Refusal → List ℕ
numbers (Ok a) = 0 ∷ 65535 ∷ 65535 ∷ a.steps ∷ a.length ∷ []
numbers (Err r) = r.number ∷ r.chunk ∷ r.instruction ∷ r.steps ∷ 0 ∷ []

-- the same, and the index's length
unfoldable pub indexed_numbers : Result AcceptedIndexed Refusal → List ℕ
indexed_numbers (Ok a) = 0 ∷ 65535 ∷ 65535 ∷ a.steps ∷ a.length ∷ a.index ∷ []
indexed_numbers (Err r) = r.number ∷ r.chunk ∷ r.instruction ∷ r.steps ∷ 0 ∷ 0 ∷ []
