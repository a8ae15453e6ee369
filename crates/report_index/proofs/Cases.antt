-- Reports and indexes by computation: none at all, one record, two that fall, two of one pair; bytes left over, an entry more, a record short.
use Prim.Native.Nat.{ℕ}
use mathlib.Core.Path.{◌≡◌, refl}
use mathlib.Core.Bool.{true, false}
use mathlib.Core.List.{List, [], ◌∷◌, ◌++◌}
use Rattle.le.specs.Le.{at8, at16, at32, le16, le32}
use Rattle.description.specs.Fields.{tag_at, len_at, next_at, fields_f, fields_from}
use Rattle.lookup.specs.Find.{is_record, entry_at, entries_at, entries_in}
use Rattle.report_index.specs.Index.{entry_bytes, index_bytes, entry_no, entries_no, entries_of, is_before, rises, same, among, all_among, matched, agrees}

-- the record of the instruction i of chunk 0, with nothing else in it
abbrev bare : ℕ → List ℕ
bare i = 19 ∷ 4 ∷ 0 ∷ 0 ∷ 0 ∷ i ∷ 0 ∷ []

-- the entry of such a record that stands at p
abbrev entry : ℕ → ℕ → List ℕ
entry i p = 0 ∷ 0 ∷ i ∷ 0 ∷ p ∷ 0 ∷ 0 ∷ 0 ∷ 7 ∷ 0 ∷ 0 ∷ 0 ∷ []

written : index_bytes (entries_in (bare 0 ++ bare 1)) ≡ entry 0 0 ++ entry 1 7
unfolding index_bytes entry_bytes le16 le32 entries_in entries_at entry_at is_record fields_from fields_f tag_at len_at next_at at8 at16
written = refl

three-bytes : index_bytes (entries_in (19 ∷ 3 ∷ 0 ∷ 0 ∷ 0 ∷ 0 ∷ [])) ≡ []
unfolding index_bytes entries_in entries_at is_record fields_from fields_f tag_at len_at next_at at8 at16
three-bytes = refl

empty : agrees [] [] ≡ true
unfolding agrees matched all_among among same rises is_before entries_of entries_no entry_no entries_in entries_at entry_at is_record fields_from fields_f tag_at len_at next_at at8 at16 at32
empty = refl

one : agrees (bare 0) (entry 0 0) ≡ true
unfolding agrees matched all_among among same rises is_before entries_of entries_no entry_no entries_in entries_at entry_at is_record fields_from fields_f tag_at len_at next_at at8 at16 at32
one = refl

fall-exchanged : agrees (bare 1 ++ bare 0) (entry 0 7 ++ entry 1 0) ≡ true
unfolding agrees matched all_among among same rises is_before entries_of entries_no entry_no entries_in entries_at entry_at is_record fields_from fields_f tag_at len_at next_at at8 at16 at32
fall-exchanged = refl

fall-in-order : agrees (bare 1 ++ bare 0) (entry 1 0 ++ entry 0 7) ≡ false
unfolding agrees matched all_among among same rises is_before entries_of entries_no entry_no entries_in entries_at entry_at is_record fields_from fields_f tag_at len_at next_at at8 at16 at32
fall-in-order = refl

one-pair-twice : agrees (bare 0 ++ bare 0) (entry 0 0 ++ entry 0 7) ≡ false
unfolding agrees matched all_among among same rises is_before entries_of entries_no entry_no entries_in entries_at entry_at is_record fields_from fields_f tag_at len_at next_at at8 at16 at32
one-pair-twice = refl

one-pair-once : agrees (bare 0 ++ bare 0) (entry 0 0) ≡ false
unfolding agrees matched all_among among same rises is_before entries_of entries_no entry_no entries_in entries_at entry_at is_record fields_from fields_f tag_at len_at next_at at8 at16 at32
one-pair-once = refl

left_over : agrees (bare 0) (entry 0 0 ++ (0 ∷ [])) ≡ false
unfolding agrees matched all_among among same rises is_before entries_of entries_no entry_no entries_in entries_at entry_at is_record fields_from fields_f tag_at len_at next_at at8 at16 at32
left_over = refl

an-entry-more : agrees (bare 0) (entry 0 0 ++ entry 1 7) ≡ false
unfolding agrees matched all_among among same rises is_before entries_of entries_no entry_no entries_in entries_at entry_at is_record fields_from fields_f tag_at len_at next_at at8 at16 at32
an-entry-more = refl

behind-an-overrun : agrees (bare 0 ++ (19 ∷ 9 ∷ 0 ∷ bare 1)) (entry 0 0) ≡ true
unfolding agrees matched all_among among same rises is_before entries_of entries_no entry_no entries_in entries_at entry_at is_record fields_from fields_f tag_at len_at next_at at8 at16 at32
behind-an-overrun = refl
