-- What a lookup finds in the bytes of any report: the first record that names the chunk and the instruction.
use Prim.Native.Nat.{ℕ, ◌+◌, ◌≤◌}
use native.Mathlib.Omega.{arith}
use mathlib.Core.Path.{◌≡◌, refl, ◌∙◌}
use mathlib.Core.Bool.{Bool, true, false, cond}
use mathlib.Core.Option.{Option, none, some}
use mathlib.Core.List.{List, [], ◌∷◌}
use lib.ListN.{length, take, drop, length-append, length-drop}
use lib.Seq.{ext_get_or, get_or-take, get_or-drop, length-take-le}
use Rattle.le.specs.Le.{at8}
use Rattle.definition.specs.Report.{Report, Record, each, record_bytes, report_bytes}
use Rattle.report_laws.proofs.Has.{Has, has_left, has_right}
use Rattle.lookup.specs.declared.Part.{Part}
use Rattle.lookup.specs.Find.{part, at_end, names, first_of, found}
use Rattle.lookup_laws.specs.Entries.{entries_on, records_at, record_entries}
use Rattle.lookup_laws.specs.Looked.{Holds}
use Rattle.lookup_laws.proofs.Named.{is_of, named}
use Rattle.lookup_laws.proofs.Entries.{report-laid}

-- the whole field of a record; for none the empty part at the end
unfoldable pub Shown : List ℕ → Part → Option Record → Type 0
Shown s x none = x ≡ at_end s
Shown s x (some y) = Holds s x (record_bytes y)

module _ (s : List ℕ) where
  -- bytes that stand at a place are a part
  taken : (p : ℕ) (bs : List ℕ) → Has s p bs → p + length bs ≤ length s → take (length bs) (drop p s) ≡ bs
  unfolding at8
  taken p bs h l =
      let n : length (take (length bs) (drop p s)) ≡ length bs = length-take-le (length bs) (drop p s) (omega (arith, length-drop p s)) in
      ext_get_or 0 (take (length bs) (drop p s)) bs n
      (λ k b. get_or-take (length bs) (drop p s) k 0 (omega arith) ∙ get_or-drop p s k 0 ∙ h.here k (omega arith))

  -- a record that stands at p, or what is found behind it
  one : (p : ℕ) (x : Record) (b : Bool) (rest : Part) (o : Option Record) → Has s p (record_bytes x) → p + length (record_bytes x) ≤ length s → Shown s rest o
      → Shown s (cond b (record { first = p; size = length (record_bytes x) }) rest) (cond b (some x) o)
  unfolding Shown part
  one p x true rest o h l k = record { inside = l; size = refl; bytes = taken p (record_bytes x) h l }
  one p x false rest o h l k = k

  -- the first of records that stand one after the other
  shown : (c i p : ℕ) (xs : List Record) → Has s p (each record_bytes xs) → p + length (each record_bytes xs) ≤ length s
      → Shown s (first_of (at_end s) c i (entries_on p xs)) (named c i xs)
  unfolding each entries_on first_of names named is_of Shown
  shown c i p [] h l = refl
  shown c i p (x ∷ xs) h l =
      let m = length-append (record_bytes x) (each record_bytes xs) in
      let n : ℕ = length (record_bytes x) in
      one p x (is_of c i x) (first_of (at_end s) c i (entries_on (p + n) xs)) (named c i xs) (has_left (record_bytes x) (each record_bytes xs) h) (omega arith)
      (shown c i (p + n) xs (has_right n (record_bytes x) (each record_bytes xs) refl h) (omega arith))

pub report-shown : (r : Report) (c i : ℕ) → Shown (report_bytes r) (found (report_bytes r) c i) (named c i r.records)
unfolding found record_entries
report-shown r c i =
    let a = report-laid r in
    rw a.entries (shown (report_bytes r) c i (records_at r) r.records a.records a.fits)
