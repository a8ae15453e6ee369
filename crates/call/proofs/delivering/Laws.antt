-- A decision told: turned back, its report too long for the buffer, its index too long for the other, or written.
use Prim.Native.Nat.{ℕ, ◌*◌, ◌<◌, ◌≤◌}
use native.Mathlib.Omega.{arith}
use mathlib.Core.Path.{◌≡◌, sym, ap, ◌∙◌}
use mathlib.Core.Bool.{true, false}
use mathlib.Core.List.{List}
use lib.Dec.{ltb}
use lib.ListN.{length, take, drop, get_or}
use lib.Seq.{take_at}
use borrow.Author.Tests.{lt-ltb, le-ltb}
use Rattle.std.specs.Prelude.{Err}
use Rattle.answers.specs.declared.Refusal.{Refusal}
use Rattle.answers.specs.Answers.{numbers, indexed_numbers, nowhere, accepts, accepts_with}
use Rattle.le.specs.Wrote.{put, Wrote}
use Rattle.le.proofs.Laws.{put-start}
use Rattle.lookup.specs.Find.{entries_in}
use Rattle.report_index.specs.Index.{index_bytes}
use Rattle.definition.specs.Report.{Report, report_bytes}
use Rattle.definition.specs.Call.{Decided, reported, turned, turned_back, delivered, outcome_of}
use Rattle.definition.specs.CallIndexed.{turned_back_with, delivered_with, index_of, outcome_with}
use Rattle.lookup_laws.proofs.Own.{index-long, index_short}
use Rattle.call.specs.delivering.Told.{Told, ToldIndexed}

-- ---- the length in an answer
pub short-refused : (f : Refusal) → get_or (numbers (Err f)) 4 0 < 4294967296
unfolding numbers
short-refused f = omega arith

short-accepted : (n steps : ℕ) → n < 4294967296 → get_or (numbers (accepts n steps)) 4 0 < 4294967296
unfolding numbers
short-accepted n steps h = h

-- ---- the report, too long for its buffer or written
pub told-long : (r : Report) (steps n : ℕ) (buf : List ℕ) → n ≡ length (report_bytes r) → length buf < n
    → Told (reported r steps) buf (Err (nowhere 6 steps)) buf
unfolding outcome_of delivered turned_back
told-long r steps n buf e h =
    let t : ltb (length buf) (length (report_bytes r)) ≡ true = lt-ltb (length buf) (length (report_bytes r)) (omega arith) in
    record { same = λ ws. (rw t, rw t); short = short-refused (nowhere 6 steps) }

pub told-written : (r : Report) (steps n : ℕ) (buf buf' : List ℕ) → n ≡ length (report_bytes r) → n < 4294967296 → n ≤ length buf → buf' ≡ put buf 0 (report_bytes r)
    → Told (reported r steps) buf (accepts n steps) buf'
unfolding outcome_of delivered
told-written r steps n buf buf' e k h w =
    let t : ltb (length buf) (length (report_bytes r)) ≡ false = le-ltb (length buf) (length (report_bytes r)) (omega arith) in
    record { same = λ ws. (rw (t, e), rw t (w ∙ put-start buf (report_bytes r) (omega arith))); short = short-accepted n steps k }

-- ---- turned back
pub told-turned : (f : Refusal) (d : Decided) (buf : List ℕ) → d ≡ turned f → Told d buf (Err f) buf
unfolding outcome_of turned_back
told-turned f d buf e = record { same = λ ws. (rw e, rw e); short = short-refused f }

-- ---- with an index
pub short-refused-with : (f : Refusal) → (get_or (indexed_numbers (Err f)) 4 0 < 4294967296) × (get_or (indexed_numbers (Err f)) 5 0 < 4294967296)
unfolding indexed_numbers
short-refused-with f = (omega arith, omega arith)

short-accepted-with : (n steps k : ℕ) → n < 4294967296 → k < 4294967296
    → (get_or (indexed_numbers (accepts_with n steps k)) 4 0 < 4294967296) × (get_or (indexed_numbers (accepts_with n steps k)) 5 0 < 4294967296)
unfolding indexed_numbers
short-accepted-with n steps k h l = (h, l)

pub turned-with : (f : Refusal) (d : Decided) (buf idx : List ℕ) → d ≡ turned f → ToldIndexed d buf idx (Err f) buf idx
unfolding outcome_with turned_back_with
turned-with f d buf idx e = record { same = λ ws. (rw e, rw e, rw e); short = short-refused-with f }

module _ (r : Report) (steps n : ℕ) (buf idx : List ℕ) (long : n ≡ length (report_bytes r)) where
  pub long-with : length buf < n → ToldIndexed (reported r steps) buf idx (Err (nowhere 6 steps)) buf idx
  unfolding outcome_with delivered_with turned_back_with
  long-with h =
      let t : ltb (length buf) (length (report_bytes r)) ≡ true = lt-ltb (length buf) (length (report_bytes r)) (omega arith) in
      record { same = λ ws. (rw t, rw t, rw t); short = short-refused-with (nowhere 6 steps) }

  module _ (fits : n ≤ length buf) where
    fine : ltb (length buf) (length (report_bytes r)) ≡ false
    fine = le-ltb (length buf) (length (report_bytes r)) (omega arith)

    module _ (k : ℕ) (count : k ≡ 12 * length r.records) where
      pub index-over : length idx < k → ToldIndexed (reported r steps) buf idx (Err (nowhere 19 steps)) buf idx
      unfolding outcome_with delivered_with turned_back_with
      index-over h =
          let t : ltb (length idx) (length (index_of (report_bytes r))) ≡ true = lt-ltb (length idx) (length (index_of (report_bytes r))) (omega (arith, index-long r)) in
          record { same = λ ws. (rw (fine, t), rw (fine, t), rw (fine, t)); short = short-refused-with (nowhere 19 steps) }

      -- the bytes written are read again for the index
      module _ (buf' : List ℕ) (written : buf' ≡ put buf 0 (report_bytes r)) where
        pub read_again : take n buf' ≡ report_bytes r
        read_again =
            ap (take n) (written ∙ put-start buf (report_bytes r) (omega arith)) ∙ take_at (report_bytes r) (drop (length (report_bytes r)) buf) n (sym long)

        module _ (short : n < 4294967296) (room : k ≤ length idx) where
          pub may-index : (length (take n buf') < 4294967296) × (length (index_bytes (entries_in (take n buf'))) ≤ length idx)
          unfolding index_of
          may-index = rw read_again (omega (arith, long), omega (arith, index-long r))

          pub written-with : (idx' : List ℕ) (w : ℕ) → Wrote idx 0 (index_bytes (entries_in (take n buf'))) idx' w
              → ToldIndexed (reported r steps) buf idx (accepts_with n steps k) buf' idx'
          unfolding outcome_with delivered_with index_of
          written-with idx' w h =
              let x : List ℕ = index_bytes (entries_in (report_bytes r)) in
              let t : ltb (length idx) (length x) ≡ false = le-ltb (length idx) (length x) (omega (arith, index-long r)) in
              let a : idx' ≡ put idx 0 x = h.bytes ∙ ap (λ (b : List ℕ). put idx 0 (index_bytes (entries_in b))) read_again in
              let m : k ≡ length x = count ∙ sym (index-long r) in
              record {
                same = λ ws. (
                  rw (fine, t, long, m),
                  rw (fine, t) (written ∙ put-start buf (report_bytes r) (omega arith)),
                  rw (fine, t) (a ∙ put-start idx x (omega arith)),
                );
                short = short-accepted-with n steps k short (omega (arith, index_short r));
              }
