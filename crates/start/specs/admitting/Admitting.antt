-- The words of the contracts: a chunk's numbers as the looks here use them, and the answer that stands for what is found.
use Rattle.std.specs.Prelude.{ℕ, ◌≤◌, ◌≡◌, Bool, ◌||◌, List, ◌⊎◌, eqb, length, Result, Ok, Err}
use Rattle.std.proofs.Math.Option.{Option, none, some}
use Rattle.answers.specs.declared.Refusal.{Refusal}
use Rattle.answers.specs.Answers.{refusal}
use Rattle.masks.specs.Mask.{same}
use Rattle.widths.specs.declared.Shape.{Shape}
use Rattle.widths.specs.Shape.{shape_mask}
use Rattle.definition.specs.Module.{module_of}
use Rattle.definition.specs.Start.{tag_mask}
use Rattle.form_laws.specs.Good.{chunk_no}
use Rattle.layout.specs.declared.Chunk.{Chunk as ChunkNumbers}
use Rattle.layout.specs.Indexed.{chunk_place}

pub record NumbersOf (s : List ℕ) (c : ℕ) (ch : ChunkNumbers) : Type 0 where
  pub at : ch.at ≡ (chunk_place s c).at
  pub count : ch.count ≡ length (chunk_no (module_of s) c).code
  pub params : ch.params ≡ length (chunk_no (module_of s) c).params

-- one type tag and one shape
abbrev pub fits_tag : ℕ → Shape → Bool
fits_tag t x = eqb t 0 || same (shape_mask x) (tag_mask t)

-- n is the smaller of the two
pub record Least (a b n : ℕ) : Type 0 where
  pub first : n ≤ a
  pub second : n ≤ b
  pub one : (n ≡ a) ⊎ (n ≡ b)

-- the first chunk that is not admitted is refused
unfoldable pub found : Option (ℕ × ℕ) → Result (Unit {0}) Refusal
found none = Ok tt
found (some x) = Err (refusal x.0 x.1 65535 0)
