-- Document 02, Six: where a run that pauses stands in the front of its workspace, beside the states, facts and queue that stay where they are.
use Rattle.std.specs.Prelude.{ℕ, ◌+◌, ◌*◌, ◌/◌, ◌%◌, Bool, cond, List, [], ◌∷◌, eqb, get_or}
use Rattle.words.specs.Layout.{put_n}
use Rattle.mark.specs.Marks.{word_range}
use Rattle.layout.specs.Indexed.{bit}
use Rattle.run_state.specs.declared.Run.{Run}

-- ---- the words, behind the reply's: phase, whether a fact has changed, chunk, steps, the queue's head and count in two words each
abbrev pub paused_at : ℕ
paused_at = 16

abbrev pub paused_words : ℕ
paused_words = 8

-- the mark stands behind them
abbrev pub mark_at : ℕ
mark_at = 24

-- the phase of a run is a number, so that a further pass has room: 0 rounds, 1 validation
abbrev pub validation : ℕ
validation = 1

abbrev pub phase_of : Bool → ℕ
phase_of validating = cond validating validation 0

unfoldable pub run_words : Run → List ℕ
run_words r =
    phase_of r.validating
    ∷ bit r.changed
    ∷ r.chunk
    ∷ r.steps
    ∷ (r.queue.head % word_range)
    ∷ (r.queue.head / word_range)
    ∷ (r.queue.count % word_range)
    ∷ (r.queue.count / word_range)
    ∷ []

unfoldable pub stored : List ℕ → Run → List ℕ
stored ws r = put_n ws paused_at (run_words r) paused_words

-- ---- read back from any words
abbrev pub word_no : List ℕ → ℕ → ℕ
word_no ws k = get_or ws (paused_at + k) 0

unfoldable pub run_in : List ℕ → Run
run_in ws =
    record {
      validating = eqb (word_no ws 0) validation;
      chunk = word_no ws 2;
      queue = record { head = word_no ws 4 + word_range * word_no ws 5; count = word_no ws 6 + word_range * word_no ws 7 };
      steps = word_no ws 3;
      changed = eqb (word_no ws 1) 1;
    }
