-- THEOREM: once room and steps are enough, more change nothing: a description of good form has one answer and one report.
use Prim.Native.Nat.{ℕ, suc, ◌+◌, ◌-◌, ◌≤◌}
use native.Mathlib.Omega.{arith}
use mathlib.Core.Path.{◌≡◌, refl}
use mathlib.Core.Bool.{Bool, true, false, cond}
use mathlib.Core.Option.{Option, none, some}
use mathlib.Core.List.{List, ◌++◌}
use lib.Dec.{ltb}
use lib.ListN.{length, drop, replicate}
use borrow.Author.Tests.{lt-leb}
use Rattle.std.proofs.Common.{Ok}
use Rattle.answers.specs.Answers.{nowhere, accepts}
use Rattle.definition.specs.Machine.{Ran, accepted, refused}
use Rattle.definition.specs.Module.{Module, module_of}
use Rattle.definition.specs.State.{State, Facts}
use Rattle.definition.specs.Form.{form_of}
use Rattle.definition.specs.Start.{admitted, first_facts, reply_maximum, known_of}
use Rattle.definition.specs.Report.{report_bytes}
use Rattle.definition.specs.Call.{Decided, reported, turned, analysis_of, run_of, admitted_run, on_reply, known, on_admitted, decided, on_form, decide, Outcome, turned_back, delivered, outcome_of, call}
use Rattle.form_laws.proofs.Theorem.{good-form}
use Rattle.machine_laws.proofs.Limits.{check-more, refused-more}
use Rattle.refusal_laws.proofs.Only.{OfRan}
use Rattle.termination.specs.Enough.{Otherwise, room_for, limit_for, OneAnswer}
use Rattle.termination.proofs.Turned.{run_for}
use Rattle.termination.proofs.Bounds.{inits-small}
use Rattle.termination.proofs.Theorem.{run_ends}

-- ---- the run
run_settled : (m : Module) (cap cap' n n' : ℕ) → cap ≤ cap' → n ≤ n' → OfRan Otherwise (run_for m cap n) → run_for m cap' n' ≡ run_for m cap n
unfolding run_of known_of
run_settled m cap cap' n n' c l o = go (run_for m cap n) refl o
  where
    go : (x : Ran Facts State) → run_for m cap n ≡ x → OfRan Otherwise x → run_for m cap' n' ≡ x
    go (accepted x k) e o = check-more (analysis_of (known_of m (first_facts m)) cap) cap' c n n' (first_facts m) x k l e
    go (refused r) e o = refused-more (analysis_of (known_of m (first_facts m)) cap) cap' c n n' (first_facts m) r l o.0 o.1 e

-- ---- what is decided: room and limit are the run's alone
decided-settled : (m : Module) (cap cap' n n' : ℕ) → (admitted m m.chunks ≡ none → run_for m cap' n' ≡ run_for m cap n) → decided m cap' n' ≡ decided m cap n
unfolding decided on_admitted known on_reply admitted_run
decided-settled m cap cap' n n' h = go (admitted m m.chunks) h
  where
    replied : (o : Option ℕ) → run_for m cap' n' ≡ run_for m cap n → on_reply (known_of m (first_facts m)) cap' n' (first_facts m) o ≡ on_reply (known_of m (first_facts m)) cap n (first_facts m) o
    replied none e = refl
    replied (some k) e = rw e

    go : (o : Option (ℕ × ℕ)) → (o ≡ none → run_for m cap' n' ≡ run_for m cap n) → on_admitted m cap' n' o ≡ on_admitted m cap n o
    go (some x) h = refl
    go none h = replied (reply_maximum (known_of m (first_facts m)).reply) (h refl)

pub one-decided : (s : List ℕ) (w : ℕ) → form_of s ≡ Ok w → (cap n : ℕ) → room_for (module_of s) ≤ cap → limit_for (module_of s) ≤ n
    → decided (module_of s) cap n ≡ decided (module_of s) (room_for (module_of s)) (limit_for (module_of s))
one-decided s w h cap n c l =
    decided-settled (module_of s) (room_for (module_of s)) cap (limit_for (module_of s)) n
    (λ a. run_settled (module_of s) (room_for (module_of s)) cap (limit_for (module_of s)) n c l
    (run_ends (module_of s) (inits-small s) (good-form s w h).signatures a (room_for (module_of s)) (limit_for (module_of s)) (omega arith) (omega arith)))

-- ---- the call: answer and report are made of what is decided and of the report buffer
outcome-same : (d : Decided) (ws ws' buf : List ℕ) → ((outcome_of d ws buf).answer ≡ (outcome_of d ws' buf).answer) × ((outcome_of d ws buf).report ≡ (outcome_of d ws' buf).report)
unfolding outcome_of turned_back delivered
outcome-same (turned r) ws ws' buf = (refl, refl)
outcome-same (reported x n) ws ws' buf = go (ltb (length buf) (length (report_bytes x)))
  where
    done : List ℕ → Outcome
    done ws = record { answer = accepts (length (report_bytes x)) n; report = report_bytes x ++ drop (length (report_bytes x)) buf; workspace = replicate (length ws) 0 }

    go : (b : Bool) → ((cond b (turned_back (nowhere 6 n) ws buf) (done ws)).answer ≡ (cond b (turned_back (nowhere 6 n) ws' buf) (done ws')).answer)
        × ((cond b (turned_back (nowhere 6 n) ws buf) (done ws)).report ≡ (cond b (turned_back (nowhere 6 n) ws' buf) (done ws')).report)
    go true = (refl, refl)
    go false = (refl, refl)

-- THEOREM: words and a limit from which on answer and report are always the same
pub one_answer : (s : List ℕ) (w : ℕ) → form_of s ≡ Ok w → (words : ℕ) × (limit : ℕ) × OneAnswer s words limit
unfolding decide on_form call
one_answer s w h = (suc (w + room_for (module_of s)), limit_for (module_of s), go)
  where
    here : (ws : List ℕ) (n : ℕ) → suc (w + room_for (module_of s)) ≤ length ws → limit_for (module_of s) ≤ n
        → decide s (length ws) n ≡ decided (module_of s) (room_for (module_of s)) (limit_for (module_of s))
    here ws n c l = rw (h, lt-leb (length ws) w (omega arith)) (one-decided s w h (length ws - w) n (omega arith) l)

    go : OneAnswer s (suc (w + room_for (module_of s))) (limit_for (module_of s))
    go ws ws' buf n n' c c' l l' = rw (here ws n c l, here ws' n' c' l') (outcome-same _ ws ws' buf)
