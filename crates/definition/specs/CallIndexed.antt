-- The call with an index: answer, report buffer, index buffer and workspace, for every description, workspace, buffers and limit.
-- Of document 02: Three. What is decided is `decide` (Call.antt), so 1 to 18 are those of the call without an index; 19, an index buffer that
-- is too short, is found after 6 and has the steps of the run. The index is that of the report's bytes: an entry for each record.
-- Readings of docs/DECISIONS.md: 3a its length is in bytes, 3e the steps of 19.
use Rattle.std.specs.Prelude.{ℕ, cond, List, ◌++◌, ltb, length, drop, replicate, Result, Err}
use Rattle.answers.specs.declared.Refusal.{Refusal}
use Rattle.answers.specs.declared.AcceptedIndexed.{AcceptedIndexed}
use Rattle.answers.specs.Answers.{nowhere, accepts_with}
use Rattle.lookup.specs.Find.{entries_in}
use Rattle.report_index.specs.Index.{index_bytes}
use Rattle.definition.specs.Report.{report_bytes}
use Rattle.definition.specs.Call.{Decided, reported, turned, decide, left_words}

pub record IndexedOutcome : Type 0 where
  pub answer : Result AcceptedIndexed Refusal
  pub report : List ℕ
  pub index : List ℕ
  pub workspace : List ℕ

-- a refusal leaves both buffers
unfoldable pub turned_back_with : Refusal → List ℕ → List ℕ → List ℕ → IndexedOutcome
turned_back_with r ws buf idx = record { answer = Err r; report = buf; index = idx; workspace = left_words r.number ws }

-- 6, then 19; the bytes past the report and past the index stay
unfoldable pub delivered_with : List ℕ → List ℕ → ℕ → List ℕ → List ℕ → List ℕ → IndexedOutcome
delivered_with bytes index steps ws buf idx =
    cond (ltb (length buf) (length bytes)) (turned_back_with (nowhere 6 steps) ws buf idx)
    (cond (ltb (length idx) (length index)) (turned_back_with (nowhere 19 steps) ws buf idx)
    (record {
      answer = accepts_with (length bytes) steps (length index);
      report = bytes ++ drop (length bytes) buf;
      index = index ++ drop (length index) idx;
      workspace = replicate (length ws) 0;
    }))

-- the index of these bytes
unfoldable pub index_of : List ℕ → List ℕ
index_of bytes = index_bytes (entries_in bytes)

unfoldable pub outcome_with : Decided → List ℕ → List ℕ → List ℕ → IndexedOutcome
outcome_with (reported r steps) ws buf idx = delivered_with (report_bytes r) (index_of (report_bytes r)) steps ws buf idx
outcome_with (turned r) ws buf idx = turned_back_with r ws buf idx

unfoldable pub call_indexed : List ℕ → List ℕ → List ℕ → List ℕ → ℕ → IndexedOutcome
call_indexed s ws buf idx limit = outcome_with (decide s (length ws) limit) ws buf idx
