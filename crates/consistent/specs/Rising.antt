-- Parts of a report in rising order: by chunk, and then by instruction. Strictly, so that none is named twice.
use Rattle.std.specs.Prelude.{ℕ, ◌<◌, ◌≡◌, ◌⊎◌}
use mathlib.Core.List.{List, [], ◌∷◌, Memᴰ}
use Rattle.definition.specs.Report.{Record}

-- the one stands before the other; `chunk` and `at` are what each names
abbrev pub Before : {A : Type 0} → (A → ℕ) → (A → ℕ) → A → A → Type 0
Before chunk at x y = (chunk x < chunk y) ⊎ ((chunk x ≡ chunk y) × (at x < at y))

-- each stands before all that follow it
abbrev pub RisingBy : {A : Type 0} → (A → ℕ) → (A → ℕ) → List A → Type 0
RisingBy chunk at [] = Unit {0}
RisingBy {A} chunk at (x ∷ xs) = ((y : A) → Memᴰ y xs → Before chunk at x y) × RisingBy chunk at xs

-- the records of a report
abbrev pub Rising : List Record → Type 0
Rising xs = RisingBy (λ x. x.chunk) (λ x. x.instruction) xs
