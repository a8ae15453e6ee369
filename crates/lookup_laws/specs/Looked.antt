-- What a lookup finds in bytes.
use Rattle.std.specs.Prelude.{ℕ, ◌+◌, ◌≤◌, ◌≡◌, length}
use mathlib.Core.List.{List, Memᴰ}
use Rattle.lookup.specs.declared.Part.{Part}
use Rattle.lookup.specs.Find.{part, at_end, found}
use Rattle.definition.specs.Report.{Report, Record, record_bytes}
use Rattle.consistent.specs.Rising.{Rising}

-- a part that is these bytes, inside
pub record Holds (s : List ℕ) (x : Part) (bs : List ℕ) : Type 0 where
  pub inside : x.first + x.size ≤ length s
  pub size : x.size ≡ length bs
  pub bytes : part s x ≡ bs

-- bytes in which each record of a report is found by its numbers, and nothing by others
pub record Looked (bs : List ℕ) (r : Report) : Type 0 where
  pub rising : Rising r.records
  pub listed : (x : Record) → Memᴰ x r.records → Holds bs (found bs x.chunk x.instruction) (record_bytes x)
  pub other : (c i : ℕ) → ((x : Record) → Memᴰ x r.records → x.chunk ≡ c → x.instruction ≡ i → ⊥) → found bs c i ≡ at_end bs
