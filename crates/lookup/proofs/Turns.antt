-- The walk over the records from a place on, one field at a time; and the lookup.
use Prim.Native.Nat.{ℕ, ◌<◌, ◌≤◌}
use mathlib.Core.Path.{◌≡◌, refl, ◌∙◌, ap}
use mathlib.Core.Bool.{Bool, true, false, cond, ◌&&◌}
use mathlib.Core.List.{List, [], ◌∷◌}
use lib.ListN.{length}
use borrow.Author.Tests.{lt-ltb, le-ltb}
use Rattle.description.specs.Fields.{next_at, fields_from}
use Rattle.description.proofs.Walk.{fields-turn, fields-end}
use Rattle.lookup.specs.declared.Part.{Part}
use Rattle.lookup.specs.declared.Entry.{Entry}
use Rattle.lookup.specs.Find.{at_end, is_record, entry_at, entries_at, entries_in, names, names_at, first_of, found}

-- the records from p on
unfoldable pub entries_from : List ℕ → ℕ → List Entry
entries_from s p = entries_at s (fields_from s p)

module _ (s : List ℕ) where
  pub entries-start : entries_from s 0 ≡ entries_in s
  unfolding entries_in entries_from
  entries-start = refl

  module _ (p : ℕ) where
    pub entries-end : length s ≤ p → entries_from s p ≡ []
    unfolding entries_at entries_from
    entries-end h = rw (fields-end s p h)

    module _ (h : p < length s) where
      pub entries-overrun : length s < next_at s p → entries_from s p ≡ []
      unfolding entries_at entries_from
      entries-overrun o = rw (fields-turn s p h, lt-ltb (length s) (next_at s p) o)

      module _ (fits : next_at s p ≤ length s) where
        pub entries-record : is_record s p ≡ true → entries_from s p ≡ entry_at s p ∷ entries_from s (next_at s p)
        unfolding entries_at entries_from
        entries-record e = rw (fields-turn s p h, le-ltb (length s) (next_at s p) fits, e)

        pub entries-other : is_record s p ≡ false → entries_from s p ≡ entries_from s (next_at s p)
        unfolding entries_at entries_from
        entries-other e = rw (fields-turn s p h, le-ltb (length s) (next_at s p) fits, e)

unfoldable pub found_from : List ℕ → ℕ → ℕ → ℕ → Part
found_from s c i p = first_of (at_end s) c i (entries_from s p)

module _ (s : List ℕ) (c i : ℕ) where
  pub from_start : found_from s c i 0 ≡ found s c i
  unfolding found found_from
  from_start = rw (entries-start s)

  module _ (p : ℕ) where
    pub ends : length s ≤ p → found_from s c i p ≡ at_end s
    unfolding first_of found_from
    ends h = rw (entries-end s p h)

    module _ (h : p < length s) where
      pub overruns : length s < next_at s p → found_from s c i p ≡ at_end s
      unfolding first_of found_from
      overruns o = rw (entries-overrun s p h o)

      module _ (fits : next_at s p ≤ length s) where
        turn : (a b : Bool) → is_record s p ≡ a → names c i (entry_at s p) ≡ b
            → found_from s c i p ≡ cond (a && b) (record { first = p; size = (entry_at s p).length }) (found_from s c i (next_at s p))
        unfolding first_of found_from entry_at
        turn true true e k = rw (entries-record s p h fits e, k)
        turn true false e k = rw (entries-record s p h fits e, k)
        turn false b e k = rw (entries-other s p h fits e)

        pub finds : names_at s c i p ≡ true → found_from s c i p ≡ record { first = p; size = (entry_at s p).length }
        unfolding names_at
        finds e = turn (is_record s p) (names c i (entry_at s p)) refl refl ∙ rw e

        pub passes : names_at s c i p ≡ false → found_from s c i p ≡ found_from s c i (next_at s p)
        unfolding names_at
        passes e = turn (is_record s p) (names c i (entry_at s p)) refl refl ∙ rw e
