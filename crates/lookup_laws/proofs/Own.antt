-- The index of a report's own bytes: how long it is, that it is read back entry by entry, and that the two agree; so for what an accepted call
-- with an index leaves in its buffers.
use Prim.Native.Nat.{ℕ, suc, ◌+◌, ◌*◌, ◌/◌, ◌%◌, ◌<◌, ◌≤◌}
use native.Mathlib.Omega.{arith}
use mathlib.Core.Path.{◌≡◌, refl, sym, ◌∙◌, ap}
use mathlib.Core.Logic.{◌⊎◌, inl, inr}
use mathlib.Core.Bool.{Bool, true, ◌&&◌, ◌||◌, or-true}
use mathlib.Core.List.Memᴰ
use mathlib.Core.List.{List, [], ◌∷◌, ◌++◌}
use lib.Dec.{eqb, ltb}
use lib.ListN.{length, take, drop, length-append}
use lib.Seq.{take_at}
use borrow.Author.Tests.{eq-eqb, lt-ltb, le-ltb}
use Rattle.le.specs.Le.{le16, le32}
use Rattle.answers.specs.Answers.{accepts_with}
use Rattle.lookup.specs.declared.Entry.{Entry}
use Rattle.lookup.specs.Find.{entries_in}
use Rattle.report_index.specs.Index.{entry_bytes, index_bytes, entry_no, entries_no, entries_of, is_before, rises, matched, agrees}
use Rattle.report_index.proofs.Match.{among-all}
use Rattle.report_index.proofs.Wrote.{entry_length, index-length}
use Rattle.definition.specs.Report.{Report, Record, each, record_bytes, report_bytes}
use Rattle.definition.specs.Call.{reported, decide, call}
use Rattle.definition.specs.CallIndexed.{index_of, call_indexed}
use Rattle.report_laws.specs.Read.{read_report}
use Rattle.report_laws.proofs.Has.{Has, has_left, has_right, has-at, has_all, read16, read32, long16, long32}
use Rattle.report_laws.proofs.Reports.{decided-back}
use Rattle.refusal_laws.proofs.Indexed.{indexed-left}
use Rattle.consistent.proofs.Accepted.{accepted-left, left-bytes}
use Rattle.lookup_laws.specs.Entries.{entries_on, record_entries}
use Rattle.consistent.specs.Rising.{Rising}
use Rattle.consistent.proofs.Theorem.{consistent}
use Rattle.lookup_laws.proofs.Entries.{record-long, report-laid, report-entries}

-- ---- how long it is
bytes-long : (es : List Entry) → length (index_bytes es) ≡ 12 * length es
unfolding index_bytes
bytes-long [] = refl
bytes-long (e ∷ es) = omega (arith, index-length e es, bytes-long es)

entries-long : (p : ℕ) (xs : List Record) → length (entries_on p xs) ≡ length xs
unfolding entries_on
entries-long p [] = refl
entries-long p (x ∷ xs) = ap suc (entries-long (p + length (record_bytes x)) xs)

records-long : (xs : List Record) → 12 * length xs ≤ length (each record_bytes xs)
unfolding each
records-long [] = omega arith
records-long (x ∷ xs) = omega (arith, record-long x, records-long xs, length-append (record_bytes x) (each record_bytes xs))

pub index-long : (r : Report) → length (index_of (report_bytes r)) ≡ 12 * length r.records
unfolding index_of record_entries
index-long r = rw (report-entries r) (bytes-long (record_entries r) ∙ ap (λ (n : ℕ). 12 * n) (entries-long _ r.records))

pub index_short : (r : Report) → 12 * length r.records ≤ length (report_bytes r)
index_short r = omega (arith, records-long r.records, (report-laid r).fits)

-- ---- it is read back
entry-back : {x : List ℕ} (k : ℕ) (e : Entry) → Has x (12 * k) (entry_bytes e) → entry_no x k ≡ e
unfolding entry_no entry_bytes
entry-back {x} k e h =
    let A : List ℕ = le16 e.chunk in
    let B : List ℕ = le16 e.instruction in
    let C : List ℕ = le32 e.first in
    let D : List ℕ = le32 e.length in
    let t₁ : Has x (12 * k + 2) (B ++ (C ++ D)) = has_right 2 A (B ++ (C ++ D)) (long16 e.chunk) h in
    let t₂ : Has x (12 * k + 4) (C ++ D) = has-at (12 * k + 4) (omega arith) (has_right 2 B (C ++ D) (long16 e.instruction) t₁) in
    let t₃ : Has x (12 * k + 8) D = has-at (12 * k + 8) (omega arith) (has_right 4 C D (long32 e.first) t₂) in
    rw (read16 e.chunk (has_left A (B ++ (C ++ D)) h), read16 e.instruction (has_left B (C ++ D) t₁), read32 e.first (has_left C D t₂), read32 e.length t₃)

entries-back : {x : List ℕ} (k : ℕ) (es : List Entry) → Has x (12 * k) (index_bytes es) → entries_no x k (length es) ≡ es
unfolding entries_no index_bytes
entries-back k [] h = refl
entries-back k (e ∷ es) h =
    rw (entry-back k e (has_left (entry_bytes e) (index_bytes es) h))
    (ap (λ (l : List Entry). e ∷ l) (entries-back (suc k) es (has-at (12 * suc k) (omega arith) (has_right 12 (entry_bytes e) (index_bytes es) (entry_length e) h))))

pub index_back : (es : List Entry) → entries_of (index_bytes es) ≡ es
unfolding entries_of
index_back es =
    let n : length (index_bytes es) / 12 ≡ length es = omega (arith, bytes-long es) in
    rw n (entries-back 0 es (has_all (index_bytes es)))

-- ---- its entries rise
before : (c d i j : ℕ) → (c < d) ⊎ ((c ≡ d) × (i < j)) → (ltb c d || (eqb c d && ltb i j)) ≡ true
before c d i j (inl l) = rw (lt-ltb c d l)
before c d i j (inr l) = rw (le-ltb c d (omega (arith, l.0)), eq-eqb c d l.0, lt-ltb i j l.1)

rises-on : (p : ℕ) (xs : List Record) → Rising xs → rises (entries_on p xs) ≡ true
unfolding entries_on rises is_before
rises-on p [] h = refl
rises-on p (x ∷ []) h = refl
rises-on p (x ∷ (y ∷ ys)) h =
    rw (before x.chunk y.chunk x.instruction y.instruction (h.0 y (Memᴰ.head refl))) (rises-on (p + length (record_bytes x)) (y ∷ ys) h.1)

-- ---- a list is, one for one, itself
matched-own : (es : List Entry) → matched es es ≡ true
unfolding matched
matched-own es = rw (eq-eqb (length es) (length es) refl) (among-all es es (λ e m. m))

-- THEOREM: a report whose records rise agrees with its own index
pub own-agrees : (r : Report) → Rising r.records → agrees (report_bytes r) (index_of (report_bytes r)) ≡ true
unfolding agrees index_of record_entries
own-agrees r h =
    let es : List Entry = record_entries r in
    let z : length (index_bytes es) % 12 ≡ 0 = omega (arith, bytes-long es) in
    rw (report-entries r, eq-eqb (length (index_bytes es) % 12) 0 z, index_back es, rises-on _ r.records h) (matched-own es)

-- ---- what an accepted call with an index leaves
pub record LeftBoth (s ws buf idx : List ℕ) (limit long steps n : ℕ) : Type 0 where
  pub report : Report
  pub decides : decide s (length ws) limit ≡ reported report steps
  pub size : length (report_bytes report) ≡ long
  pub bytes : take long (call_indexed s ws buf idx limit).report ≡ report_bytes report
  pub index_size : length (index_of (report_bytes report)) ≡ n
  pub index : take n (call_indexed s ws buf idx limit).index ≡ index_of (report_bytes report)

module _ (s ws buf idx : List ℕ) (limit long steps n : ℕ) (h : (call_indexed s ws buf idx limit).answer ≡ accepts_with long steps n) where
  pub accepted-both : LeftBoth s ws buf idx limit long steps n
  accepted-both =
      let w = indexed-left s ws buf idx limit long steps n h in
      let d = accepted-left s ws buf limit long steps w.answer in
      let b : take long (call s ws buf limit).report ≡ report_bytes d.report = left-bytes _ _ buf long steps d in
      let i : length (index_of (report_bytes d.report)) ≡ n = rw (← b) w.size in
      record {
        report = d.report;
        decides = d.decides;
        size = d.size;
        bytes = ap (take long) (sym w.report) ∙ b;
        index_size = i;
        index = ap (take n) (w.index ∙ rw b) ∙ take_at (index_of (report_bytes d.report)) (drop n idx) n i;
      }

  -- THEOREM: the two that it leaves agree
  pub accepted-own : agrees (take long (call_indexed s ws buf idx limit).report) (take n (call_indexed s ws buf idx limit).index) ≡ true
  accepted-own =
      let d = accepted-both in
      rw (d.bytes, d.index) (own-agrees d.report (consistent s (length ws) limit d.report steps d.decides).arrives.rising)

  -- THEOREM: the index lists the records of the report
  pub accepted-entries : entries_of (take n (call_indexed s ws buf idx limit).index) ≡ record_entries (read_report (take long (call_indexed s ws buf idx limit).report))
  unfolding index_of
  accepted-entries =
      let d = accepted-both in
      rw (d.bytes, d.index, decided-back s (length ws) limit steps d.report d.decides)
      (index_back (entries_in (report_bytes d.report)) ∙ report-entries d.report)
