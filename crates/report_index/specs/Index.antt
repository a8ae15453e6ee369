-- An index beside a report. Of document 02: Three, the twelve bytes of an entry, and where an index and a report disagree. The records of a
-- report are those of the lookup's walk (lookup/specs/Find.antt: `entries_in`).
-- Readings of docs/DECISIONS.md: 3b entries rise strictly, 3c "one for one" is a matching, not an order, 3d the whole walk counts.
-- Nothing is left open: for any two lists of bytes `agrees` says yes or no. Recursion goes along lists, or counts down.
use Rattle.std.specs.Prelude.{ℕ, zero, suc, ◌+◌, ◌*◌, ◌/◌, ◌%◌, ◌≤◌, ◌≡◌, Bool, true, false, cond, ◌&&◌, ◌||◌, List, [], ◌∷◌, ◌++◌, Result, Ok, Err, eqb, ltb, length}
use Rattle.le.specs.Le.{at16, at32, le16, le32}
use Rattle.answers.specs.Answers.{nowhere}
use Rattle.lookup.specs.declared.Entry.{Entry}
use Rattle.lookup.specs.declared.Part.{Part}
use Rattle.lookup.specs.Find.{entries_in, found}
use Rattle.answers.specs.declared.Refusal.{Refusal}

-- ---- written
unfoldable pub entry_bytes : Entry → List ℕ
entry_bytes e = le16 e.chunk ++ (le16 e.instruction ++ (le32 e.first ++ le32 e.length))

unfoldable pub index_bytes : List Entry → List ℕ
index_bytes [] = []
index_bytes (e ∷ es) = entry_bytes e ++ index_bytes es

-- ---- read back: the entry with the number k, n of them from k on, all that are whole
unfoldable pub entry_no : List ℕ → ℕ → Entry
entry_no x k = record { chunk = at16 x (12 * k); instruction = at16 x (12 * k + 2); first = at32 x (12 * k + 4); length = at32 x (12 * k + 8) }

unfoldable pub entries_no : List ℕ → ℕ → ℕ → List Entry
entries_no x k zero = []
entries_no x k (suc n) = entry_no x k ∷ entries_no x (suc k) n

unfoldable pub entries_of : List ℕ → List Entry
entries_of x = entries_no x 0 (length x / 12)

-- ---- rising: the entry stands before this chunk and instruction; each stands before the next
unfoldable pub is_before : ℕ → ℕ → Entry → Bool
is_before c i e = ltb e.chunk c || (eqb e.chunk c && ltb e.instruction i)

unfoldable pub rises : List Entry → Bool
rises [] = true
rises (e ∷ []) = true
rises (e ∷ (f ∷ es)) = is_before f.chunk f.instruction e && rises (f ∷ es)

-- ---- one for one: as many, and each of the first is among the second
unfoldable pub same : Entry → Entry → Bool
same e f = eqb e.chunk f.chunk && eqb e.instruction f.instruction && eqb e.first f.first && eqb e.length f.length

unfoldable pub among : Entry → List Entry → Bool
among e [] = false
among e (f ∷ fs) = same e f || among e fs

unfoldable pub all_among : List Entry → List Entry → Bool
all_among [] fs = true
all_among (e ∷ es) fs = among e fs && all_among es fs

unfoldable pub matched : List Entry → List Entry → Bool
matched es fs = eqb (length es) (length fs) && all_among es fs

-- report and index agree: no bytes of the index are left over, its entries rise, and they are, one for one, those of the report's records
unfoldable pub agrees : List ℕ → List ℕ → Bool
agrees s x = eqb (length x % 12) 0 && rises (entries_of x) && matched (entries_in s) (entries_of x)

-- ---- the lookup through an index: as the walk, or 20
unfoldable pub sought : List ℕ → List ℕ → ℕ → ℕ → Result Part Refusal
sought s x c i = cond (agrees s x) (Ok (found s c i)) (Err (nowhere 20 0))

-- this is answered, and a part that is handed out lies in the report
pub record Answered (s x : List ℕ) (c i : ℕ) (r : Result Part Refusal) : Type 0 where
  pub same : r ≡ sought s x c i
  pub fits : (p : Part) → r ≡ Ok p → p.first + p.size ≤ length s
