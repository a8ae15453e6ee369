-- The records of a report stand one behind the other, none empty, all within its bytes; so no entry of the walk comes twice.
use Prim.Native.Nat.{ℕ, zero, suc, ◌+◌, ◌-◌, ◌<◌, ◌≤◌}
use native.Mathlib.Omega.{arith}
use mathlib.Core.Path.{◌≡◌, refl}
use mathlib.Core.Bool.{Bool, true, false}
use mathlib.Core.List.{List, [], ◌∷◌, Memᴰ}
use lib.Dec.{ltb}
use lib.ListN.{length}
use borrow.Author.Tests.{ltb-true, ltb-false}
use Rattle.description.specs.Fields.{next_at}
use Rattle.description.proofs.Walk.{next-after}
use Rattle.lookup.specs.declared.Entry.{Entry}
use Rattle.lookup.specs.Find.{is_record, entry_at, entries_in}
use Rattle.lookup.proofs.Turns.{entries_from, entries-start, entries-end, entries-overrun, entries-record, entries-other}
use Rattle.report_index.specs.Index.{matched}
use Rattle.report_index.proofs.Match.{Distinct, matched-same}

-- parts that stand one behind the other from p on, none empty, all before n
pub data Laid (n : ℕ) : ℕ → List Entry → Type 0 where
  end : {p : ℕ} → Laid n p []
  part : {p : ℕ} {e : Entry} {es : List Entry} → p ≤ e.first → 0 < e.length → e.first + e.length ≤ n → Laid n (e.first + e.length) es → Laid n p (e ∷ es)

sooner : {n p q : ℕ} {es : List Entry} → q ≤ p → Laid n p es → Laid n q es
sooner h end = end
sooner {p = p} {q = q} h (part {e = e} a b c l) = let k : q ≤ e.first = omega arith in part k b c l

module _ (s : List ℕ) where
  laid-turn : (p : ℕ) (a b c : Bool) → ltb p (length s) ≡ a → ltb (length s) (next_at s p) ≡ b → is_record s p ≡ c
      → (p < length s → Laid (length s) (next_at s p) (entries_from s (next_at s p))) → Laid (length s) p (entries_from s p)
  unfolding entry_at
  laid-turn p false b c d o r next = rw (entries-end s p (ltb-false p (length s) d)) end
  laid-turn p true true c d o r next = rw (entries-overrun s p (ltb-true p (length s) d) (ltb-true (length s) (next_at s p) o)) end
  laid-turn p true false true d o r next =
      let l = ltb-true p (length s) d in
      let k = ltb-false (length s) (next_at s p) o in
      let a = next-after s p in
      rw (entries-record s p l k r)
      (part {p = p} {e = entry_at s p} (omega arith) (omega arith) (omega arith) (sooner (omega arith) (next l)))
  laid-turn p true false false d o r next =
      let l = ltb-true p (length s) d in
      rw (entries-other s p l (ltb-false (length s) (next_at s p) o) r) (sooner (omega (arith, next-after s p)) (next l))

  walk-laid : (f p : ℕ) → length s - p ≤ f → Laid (length s) p (entries_from s p)
  walk-laid zero p h = rw (entries-end s p (omega arith)) end
  walk-laid (suc f) p h =
      laid-turn p (ltb p (length s)) (ltb (length s) (next_at s p)) (is_record s p) refl refl refl
      (λ l. walk-laid f (next_at s p) (omega (arith, next-after s p)))

  pub records-laid : Laid (length s) 0 (entries_in s)
  records-laid = rw entries-start at (walk-laid (length s) 0 (omega arith))

laid-mem : {n p : ℕ} {e : Entry} {es : List Entry} → Laid n p es → Memᴰ e es → (p ≤ e.first) × (e.first + e.length ≤ n)
laid-mem (part a b c l) (Memᴰ.head k) = rw k (a, c)
laid-mem (part a b c l) (Memᴰ.tail m) = let h = laid-mem l m in (omega arith, h.1)
laid-mem {n = n} {e = e} (end {p = p}) x4 = elim x4 [ ]

laid-distinct : {n p : ℕ} {es : List Entry} → Laid n p es → Distinct es
laid-distinct end = tt
laid-distinct (part a b c l) = (λ m. omega (arith, (laid-mem l m).0), laid-distinct l)

module _ (s : List ℕ) where
  pub entries_fit : {e : Entry} → Memᴰ e (entries_in s) → e.first + e.length ≤ length s
  entries_fit m = (laid-mem (records-laid s) m).1

  -- the entries of the records, and those that match them, are the same
  pub one-for-one : (fs : List Entry) → matched (entries_in s) fs ≡ true → (e : Entry)
      → (Memᴰ e (entries_in s) → Memᴰ e fs) × (Memᴰ e fs → Memᴰ e (entries_in s))
  one-for-one fs = matched-same (entries_in s) fs (laid-distinct (records-laid s))
