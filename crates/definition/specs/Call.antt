-- The whole call: answer, report buffer and workspace, for every description, workspace, buffer and limit.
-- Of types.rs: `check` (lines 416 to 555) in its order: 9 and 10 by chunk, 11, 12, rounds, validation (`decided`). Of document 01: "Turned
-- back, by whose doing" (numbers, places, order), and what is left in the report buffer and the workspace.
-- Where it differs: it is given bytes (1 to 4, Form.antt), lent words (5, and 8 by the room beyond W), a limit (7) and a report buffer (6);
-- types.rs has none of these. Readings of docs/DECISIONS.md: B9 no reachable chunk, C4 what a refusal leaves, D1 heights, D2 panics.
-- Nothing is left open: there is one outcome for each choice of arguments. Nothing here recurs; the run ends, since `run` counts the limit
-- down.
use Rattle.std.specs.Prelude.{ℕ, ◌-◌, cond, List, ◌++◌, ltb, leb, length, drop, replicate, Result, Ok, Err}
use Rattle.std.proofs.Math.Option.{Option, none, some}
use Rattle.answers.specs.declared.Refusal.{Refusal}
use Rattle.answers.specs.Answers.{nowhere, refusal, accepts}
use Rattle.answers.specs.declared.Accepted.{Accepted}
use Rattle.definition.specs.Machine.{Ran, accepted, refused, Analysis, check}
use Rattle.definition.specs.Module.{Module, Chunk, module_of}
use Rattle.definition.specs.State.{State, Facts, Live, Gift, join}
use Rattle.definition.specs.Leaves.{Known, leaves, absorb, opened, closed, moved}
use Rattle.definition.specs.Form.{form_of}
use Rattle.definition.specs.Start.{admitted, first_facts, overfull, reply_maximum, known_of, start, after_chunk}
use Rattle.definition.specs.Report.{Report, report_of, report_bytes}

-- the rules of this definition, with room for `cap` entries in the queue
abbrev pub analysis_of : Known → ℕ → Analysis Chunk Live Facts State Gift
analysis_of k cap = record {
  join = join;
  room = cap;
  chunks = k.code.chunks;
  reachable = λ c. c.reachable;
  start = start;
  after = after_chunk;
  opened = opened;
  view = λ f. f.known;
  absorb = absorb k.code;
  moved = moved;
  closed = closed;
  leaves = leaves k;
}

-- rounds and validation of a module
unfoldable pub run_of : Known → ℕ → ℕ → Facts → Ran Facts State
run_of k cap limit f = check (analysis_of k cap) limit f

-- what is decided: a report with its steps, or a refusal
pub data Decided : Type 0 where
  reported : Report → ℕ → Decided
  turned : Refusal → Decided

unfoldable pub on_ran : Known → ℕ → Ran Facts State → Decided
on_ran k reply (accepted x steps) = reported (report_of k reply x) steps
on_ran k reply (refused r) = turned r

-- 12, then the run
unfoldable pub admitted_run : Known → ℕ → ℕ → Facts → ℕ → Decided
admitted_run k cap limit f reply = cond (overfull k.code) (turned (nowhere 12 0)) (on_ran k reply (run_of k cap limit f))

-- 11
unfoldable pub on_reply : Known → ℕ → ℕ → Facts → Option ℕ → Decided
on_reply k cap limit f none = turned (nowhere 11 0)
on_reply k cap limit f (some reply) = admitted_run k cap limit f reply

unfoldable pub known : Known → ℕ → ℕ → Facts → Decided
known k cap limit f = on_reply k cap limit f (reply_maximum k.reply)

-- 9 and 10
unfoldable pub on_admitted : Module → ℕ → ℕ → Option (ℕ × ℕ) → Decided
on_admitted m cap limit (some x) = turned (refusal x.0 x.1 65535 0)
on_admitted m cap limit none = known (known_of m (first_facts m)) cap limit (first_facts m)

-- `check` of types.rs, with the queue's room and the step limit
unfoldable pub decided : Module → ℕ → ℕ → Decided
decided m cap limit = on_admitted m cap limit (admitted m m.chunks)

-- 1 to 5 come before
unfoldable pub on_form : List ℕ → ℕ → ℕ → Result ℕ Refusal → Decided
on_form s words limit (Err r) = turned r
on_form s words limit (Ok w) = cond (leb words w) (turned (nowhere 5 0)) (decided (module_of s) (words - w) limit)

unfoldable pub decide : List ℕ → ℕ → ℕ → Decided
decide s words limit = on_form s words limit (form_of s)

-- ---- what the call leaves
pub record Outcome : Type 0 where
  pub answer : Result Accepted Refusal
  pub report : List ℕ
  pub workspace : List ℕ

-- 1 to 5 leave the workspace as it was, every other outcome leaves zeros
unfoldable pub left_words : ℕ → List ℕ → List ℕ
left_words n ws = cond (ltb n 6) ws (replicate (length ws) 0)

unfoldable pub turned_back : Refusal → List ℕ → List ℕ → Outcome
turned_back r ws buf = record { answer = Err r; report = buf; workspace = left_words r.number ws }

-- 6: the report is too long for its buffer; the bytes past a report stay
unfoldable pub delivered : List ℕ → ℕ → List ℕ → List ℕ → Outcome
delivered bytes steps ws buf =
    cond (ltb (length buf) (length bytes)) (turned_back (nowhere 6 steps) ws buf)
    (record {
      answer = accepts (length bytes) steps;
      report = bytes ++ drop (length bytes) buf;
      workspace = replicate (length ws) 0;
    })

unfoldable pub outcome_of : Decided → List ℕ → List ℕ → Outcome
outcome_of (reported r steps) ws buf = delivered (report_bytes r) steps ws buf
outcome_of (turned r) ws buf = turned_back r ws buf

unfoldable pub call : List ℕ → List ℕ → List ℕ → ℕ → Outcome
call s ws buf limit = outcome_of (decide s (length ws) limit) ws buf
