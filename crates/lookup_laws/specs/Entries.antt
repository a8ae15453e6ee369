-- Document 02, Three: what the index of a report lists: for every record its chunk and its instruction, and the first byte and the length of
-- its part of the report, in the order of the records.
use Rattle.std.specs.Prelude.{ℕ, ◌+◌, List, [], ◌∷◌, length}
use Rattle.lookup.specs.declared.Entry.{Entry}
use Rattle.definition.specs.Report.{Report, Record, each, signature_bytes, slot_bytes, record_bytes}

-- of a record that stands at the place p
abbrev pub entry_on : ℕ → Record → Entry
entry_on p x = record { chunk = x.chunk; instruction = x.instruction; first = p; length = length (record_bytes x) }

-- of records that stand one after the other, from p on
unfoldable pub entries_on : ℕ → List Record → List Entry
entries_on p [] = []
entries_on p (x ∷ xs) = entry_on p x ∷ entries_on (p + length (record_bytes x)) xs

-- the records stand behind the largest reply, in seven bytes, the signatures and the private facts
abbrev pub records_at : Report → ℕ
records_at r = 7 + length (each signature_bytes r.signatures) + length (each slot_bytes r.slots)

unfoldable pub record_entries : Report → List Entry
record_entries r = entries_on (records_at r) r.records
