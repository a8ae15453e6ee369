-- The walk over the records of a report, in any bytes. Of document 01: "Lookup": the first field of tag 19 and of four bytes or more that
-- names a chunk and an instruction; else the empty part at the end. Of document 02, Three: what an index lists, and what it is held against.
use Rattle.std.specs.Prelude.{ℕ, ◌+◌, ◌-◌, ◌≤◌, ◌≡◌, Bool, cond, ◌&&◌, List, [], ◌∷◌, eqb, ltb, length, take, drop}
use Rattle.std.specs.Borrow.{Bor}
use Rattle.le.specs.Le.{at16}
use Rattle.lookup.specs.declared.Part.{Part}
use Rattle.lookup.specs.declared.Entry.{Entry}
use Rattle.description.specs.Fields.{tag_at, len_at, next_at, fields_from}

-- the bytes of a part
unfoldable pub part : List ℕ → Part → List ℕ
part s x = take x.size (drop x.first s)

unfoldable pub at_end : List ℕ → Part
at_end s = record { first = length s; size = 0 }

-- the field at p is a record: tag 19, four bytes at least
unfoldable pub is_record : List ℕ → ℕ → Bool
is_record s p = eqb (tag_at s p) 19 && ltb 3 (len_at s p)

-- its entry: the chunk and the instruction that it names, its first byte and its length, tag and length included
unfoldable pub entry_at : List ℕ → ℕ → Entry
entry_at s p = record { chunk = at16 s (p + 3); instruction = at16 s (p + 5); first = p; length = next_at s p - p }

-- the records among these fields; one that overruns ends the walk
unfoldable pub entries_at : List ℕ → List ℕ → List Entry
entries_at s [] = []
entries_at s (p ∷ ps) =
    cond (ltb (length s) (next_at s p)) []
    (cond (is_record s p) (entry_at s p ∷ entries_at s ps) (entries_at s ps))

-- the records of a report, in its order
unfoldable pub entries_in : List ℕ → List Entry
entries_in s = entries_at s (fields_from s 0)

-- an entry of this chunk and this instruction; the field at p is a record that has it
unfoldable pub names : ℕ → ℕ → Entry → Bool
names c i e = eqb e.chunk c && eqb e.instruction i

unfoldable pub names_at : List ℕ → ℕ → ℕ → ℕ → Bool
names_at s c i p = is_record s p && names c i (entry_at s p)

-- the part that an entry names
abbrev pub part_of : Entry → Part
part_of e = record { first = e.first; size = e.length }

-- the first of the records that names them; else this part
unfoldable pub first_of : Part → ℕ → ℕ → List Entry → Part
first_of other c i [] = other
first_of other c i (e ∷ es) = cond (names c i e) (part_of e) (first_of other c i es)

unfoldable pub found : List ℕ → ℕ → ℕ → Part
found s c i = first_of (at_end s) c i (entries_in s)

-- this part is answered, and it lies in the bytes
pub record Within (s : List ℕ) (r x : Part) : Type 0 where
  pub same : r ≡ x
  pub fits : r.first + r.size ≤ length s

-- what is answered is this part of what was lent: its place, and its bytes
pub record Lent (s r : Bor (List ℕ)) (x : Part) : Type 0 where
  pub block : r.ref_ptr.0 ≡ s.ref_ptr.0
  pub place : r.ref_ptr.1 ≡ s.ref_ptr.1 + x.first
  pub bytes : r.now ≡ part s.now x
