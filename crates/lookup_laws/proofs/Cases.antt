-- Lookups by computation: the first of two fields, one under four bytes passed over, an overrun, a length cut short.
use Prim.Native.Nat.{ℕ}
use mathlib.Core.Path.{◌≡◌, refl}
use mathlib.Core.List.{List, [], ◌∷◌, ◌++◌}
use Rattle.le.specs.Le.{at8, at16}
use Rattle.description.specs.Fields.{tag_at, len_at, next_at, fields_f, fields_from}
use Rattle.lookup.specs.Find.{at_end, is_record, entry_at, entries_at, entries_in, names, first_of, found}

abbrev one : List ℕ
one = 19 ∷ 4 ∷ 0 ∷ 2 ∷ 1 ∷ 3 ∷ 0 ∷ []

-- two bytes, and an empty field behind them: read further, they would name the same
abbrev short : List ℕ
short = 19 ∷ 2 ∷ 0 ∷ 2 ∷ 1 ∷ 3 ∷ 0 ∷ 0 ∷ []

first-of-two : found (short ++ (one ++ one)) 258 3 ≡ record { first = 8; size = 7 }
unfolding found first_of names entries_in entries_at entry_at is_record at_end fields_from fields_f tag_at len_at next_at at16 at8
first-of-two = refl

of-no-other : found (short ++ one) 258 4 ≡ record { first = 15; size = 0 }
unfolding found first_of names entries_in entries_at entry_at is_record at_end fields_from fields_f tag_at len_at next_at at16 at8
of-no-other = refl

behind-an-overrun : found (20 ∷ 8 ∷ 0 ∷ one) 258 3 ≡ record { first = 10; size = 0 }
unfolding found first_of names entries_in entries_at entry_at is_record at_end fields_from fields_f tag_at len_at next_at at16 at8
behind-an-overrun = refl

cut_short : found (one ++ (19 ∷ 4 ∷ [])) 258 4 ≡ record { first = 9; size = 0 }
unfolding found first_of names entries_in entries_at entry_at is_record at_end fields_from fields_f tag_at len_at next_at at16 at8
cut_short = refl
