-- A run that is stored and marked where an entry is due is a paused one.
use Prim.Native.Nat.{ℕ, ◌+◌, ◌*◌, ◌-◌, ◌<◌, ◌≤◌}
use native.Mathlib.Omega.{arith}
use mathlib.Core.Path.{◌≡◌, sym, ap, ◌∙◌}
use mathlib.Core.Logic.{◌⊎◌, inl, inr}
use mathlib.Core.List.{List}
use lib.ListN.{length, get_or}
use Rattle.mark.specs.Marks.{with_mark}
use Rattle.mark.proofs.Theorem.{with-mark-keeps, with-mark-marked}
use Rattle.words.proofs.Laws.{cell_at-same}
use Rattle.definition.specs.Machine.{Analysis, due, begun}
use Rattle.definition.specs.Module.{module_of}
use Rattle.definition.specs.Start.{first_facts}
use Rattle.definition.specs.Call.{analysis_of}
use Rattle.form_laws.specs.Good.{words_of}
use Rattle.layout.specs.Layout.{head_words}
use Rattle.layout.specs.Indexed.{suspends_at}
use Rattle.layout.specs.Kept.{Steady}
use Rattle.layout.proofs.Apart.{reply-in}
use Rattle.layout.proofs.Kept.{front-free, steady-free, indexed-steady, suspends-steady}
use Rattle.visit.specs.Held.{known_in}
use Rattle.machine_laws.specs.Takings.{after-takings}
use Rattle.run_state.specs.declared.Run.{Run}
use Rattle.run_state.specs.Course.{machine_in, analysis_in, known_as, Prepared, Between}
use Rattle.run_state.proofs.Rows.{row_same}
use Rattle.paused.specs.Stored.{paused_at, paused_words, mark_at, stored, run_in}
use Rattle.paused.proofs.Stored.{run-back, run-same, stored-outside}
use Rattle.paused.proofs.Front.{machine-front, between-front}
use Rattle.pause_laws.specs.Turn.{most_steps}
use Rattle.pausing.specs.Paused.{Paused}

module _ (s ws : List ℕ) (r : Run) (b : Between s ws r) (some : 0 < r.queue.count) where
  abbrev left : List ℕ
  left = with_mark (stored ws r) mark_at

  long : length left ≡ length ws
  long = (with-mark-keeps (stored ws r) mark_at).long ∙ (stored-outside ws r).length

  word : (j : ℕ) → (j < 16) ⊎ (25 ≤ j) → get_or left j 0 ≡ get_or ws j 0
  word j (inl l) = (with-mark-keeps (stored ws r) mark_at).others j (λ e. omega arith) ∙ (stored-outside ws r).word j (inl l)
  word j (inr l) = (with-mark-keeps (stored ws r) mark_at).others j (λ e. omega arith) ∙ (stored-outside ws r).word j (inr (omega arith))

  room : 64 ≤ length ws
  room = omega (arith, reply-in (module_of s), b.prepared.room)

  run_is : run_in left ≡ r
  run_is =
      run-same (stored ws r) left (λ k l. (with-mark-keeps (stored ws r) mark_at).others (paused_at + k) (λ e. omega arith))
      ∙ run-back ws r (omega (arith, room))

  steady : Steady (module_of s) ws left
  steady = steady-free (module_of s) 16 9 ws left (front-free (module_of s) 16 9 (omega arith)) long word

  known_same : known_in s left ≡ known_in s ws
  unfolding known_in
  known_same =
      λ i. record {
        code = module_of s;
        suspends = row_same (suspends_at left) (suspends_at ws) 0 (length (module_of s).chunks) (λ n x y. suspends-steady s ws left n steady (omega arith)) i;
        reply = cell_at-same left ws 0 0 (λ j l. word (0 + j) (inl (omega arith))) i;
      }

  prepared : Prepared s left
  prepared =
      record {
        indexed = indexed-steady s ws left steady b.prepared.indexed;
        room = omega (arith, b.prepared.room, long);
        admitted = b.prepared.admitted;
        known = known_same ∙ b.prepared.known;
      }

  behind : (j : ℕ) → head_words + 16 * length (module_of s).chunks ≤ j → get_or left j 0 ≡ get_or ws j 0
  behind j h = word j (inr (omega arith))

  machine-is : machine_in s left (run_in left) ≡ machine_in s ws r
  machine-is = ap (machine_in s left) run_is ∙ machine-front s ws left long behind r b

  analysis-is : analysis_in s left ≡ analysis_in s ws
  analysis-is = ap (λ (n : ℕ). analysis_of (known_as s) (n - words_of (module_of s))) long

  pub paused : (n : ℕ) → r.steps ≡ n → n < most_steps
      → after-takings (analysis_in s ws) n (begun (analysis_in s ws) (first_facts (module_of s))) ≡ due (machine_in s ws r) → Paused s left n
  paused n e l q =
      record {
        between = rw run_is (between-front s ws left long behind r prepared b);
        some = rw run_is some;
        steps = ap (λ (x : Run). x.steps) run_is ∙ e;
        below = l;
        state = ap (λ a. after-takings a n (begun a (first_facts (module_of s)))) analysis-is ∙ q ∙ ap due (sym machine-is);
        marked = with-mark-marked (stored ws r) mark_at (omega (arith, room, (stored-outside ws r).length));
      }
