-- A run that was stored is read back, and nothing else changes.
use Prim.Native.Nat.{ℕ, ◌+◌, ◌*◌, ◌/◌, ◌%◌, ◌<◌, ◌≤◌}
use native.Mathlib.Omega.{arith}
use mathlib.Core.Path.{◌≡◌, refl, ap, ◌∙◌}
use mathlib.Core.Bool.{Bool, true, false}
use mathlib.Core.List.{List}
use lib.Dec.{eqb}
use lib.ListN.{length, get_or}
use Rattle.mark.specs.Marks.{word_range}
use Rattle.ring.specs.declared.Queue.{Queue}
use Rattle.words.specs.Rows.{Outside}
use Rattle.words.proofs.Laws.{length-put_n, put_n-out, put_n-in}
use Rattle.layout.specs.Indexed.{bit}
use Rattle.run_state.specs.declared.Run.{Run}
use Rattle.paused.specs.Stored.{paused_at, paused_words, validation, phase_of, run_words, stored, run_in}

phase-back : (b : Bool) → eqb (phase_of b) validation ≡ b
phase-back true = refl
phase-back false = refl

flag-back : (b : Bool) → eqb (bit b) 1 ≡ b
flag-back true = refl
flag-back false = refl

halves : (x : ℕ) → x % word_range + word_range * (x / word_range) ≡ x
halves x = omega arith

pub run-back : (ws : List ℕ) (r : Run) → paused_at + paused_words ≤ length ws → run_in (stored ws r) ≡ r
unfolding run_in stored run_words
run-back ws r h =
    λ i. record {
      validating = (ap (λ (x : ℕ). eqb x validation) (word 0 (omega arith)) ∙ phase-back r.validating) i;
      chunk = word 2 (omega arith) i;
      queue =
          record {
            head = (two (word 4 (omega arith)) (word 5 (omega arith)) ∙ halves r.queue.head) i;
            count = (two (word 6 (omega arith)) (word 7 (omega arith)) ∙ halves r.queue.count) i;
          };
      steps = word 3 (omega arith) i;
      changed = (ap (λ (x : ℕ). eqb x 1) (word 1 (omega arith)) ∙ flag-back r.changed) i;
    }
  where
    word : (k : ℕ) → k < paused_words → get_or (stored ws r) (paused_at + k) 0 ≡ get_or (run_words r) k 0
    word k l = put_n-in ws paused_at (run_words r) paused_words h k l

    two : {a b c d : ℕ} → a ≡ b → c ≡ d → a + word_range * c ≡ b + word_range * d
    two p q = rw (p, q)

-- the run is read from these words alone
pub run-same : (ws v : List ℕ) → ((k : ℕ) → k < paused_words → get_or v (paused_at + k) 0 ≡ get_or ws (paused_at + k) 0) → run_in v ≡ run_in ws
unfolding run_in
run-same ws v e =
    λ i. record {
      validating = eqb (e 0 (omega arith) i) validation;
      chunk = e 2 (omega arith) i;
      queue = record { head = e 4 (omega arith) i + word_range * e 5 (omega arith) i; count = e 6 (omega arith) i + word_range * e 7 (omega arith) i };
      steps = e 3 (omega arith) i;
      changed = eqb (e 1 (omega arith) i) 1;
    }

pub stored-outside : (ws : List ℕ) (r : Run) → Outside paused_at (paused_at + paused_words) ws (stored ws r)
unfolding stored
stored-outside ws r =
    record { length = length-put_n ws paused_at (run_words r) paused_words; word = λ j h. put_n-out ws paused_at (run_words r) paused_words j h }
