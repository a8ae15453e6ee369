-- One taking and on to where an entry is due again, as the machine's next.
use Prim.Native.Nat.{ℕ, zero, suc, ◌+◌, ◌-◌, ◌<◌}
use native.Mathlib.Omega.{arith}
use mathlib.Core.Path.{◌≡◌, refl, sym, ap, ◌∙◌}
use mathlib.Core.List.{List, [], ◌∷◌}
use lib.ListN.{length, drop}
use Rattle.ring.specs.declared.Queue.{Queue}
use Rattle.ring.specs.Ring.{QueueReady, due_of, popped_of, queue_of}
use Rattle.ring.proofs.Ring.{entries-pop}
use Rattle.definition.specs.Res.{ok, bad}
use Rattle.definition.specs.Machine.{Machine, Final, Stop, due, done, stop, Analysis, halt, takes, next, on_seen, settled, settle, entry_due}
use Rattle.definition.specs.Module.{module_of}
use Rattle.form_laws.specs.Good.{chunk_no, words_of}
use Rattle.visit.specs.Held.{live_in}
use Rattle.run_state.specs.declared.Run.{Run}
use Rattle.run_state.specs.Course.{states_in, past_in, work_in, seen_in, machine_in, analysis_in}
use Rattle.run_state.proofs.Queues.{queue-length}
use Rattle.step.specs.Taking.{taking_of}
use Rattle.machine_laws.specs.Takings.{after-takings, takings}

module _ (s ws : List ℕ) (r : Run) (ready : QueueReady ws (words_of (module_of s)) r.queue) (some : 0 < r.queue.count) where
  abbrev at : ℕ
  at = due_of ws (words_of (module_of s)) r.queue

  abbrev left : Queue
  left = popped_of ws (words_of (module_of s)) r.queue

  next-is : next (analysis_in s ws) (machine_in s ws r) ≡ on_seen (analysis_in s ws) (machine_in s ws r) at (taking_of s ws r left at)
  unfolding next takes machine_in taking_of
  next-is = ap (takes (analysis_in s ws) (machine_in s ws r)) (entries-pop ws (words_of (module_of s)) r.queue ready some)

  pub next-stops : (n : ℕ) → taking_of s ws r left at ≡ bad n → next (analysis_in s ws) (machine_in s ws r) ≡ halt n r.chunk at
  unfolding on_seen machine_in
  next-stops n e = next-is ∙ ap (on_seen (analysis_in s ws) (machine_in s ws r) at) e

  module _ (u : List ℕ) (x : Run) (taken : taking_of s ws r left at ≡ ok (seen_in s u x)) (mode : x.validating ≡ r.validating) (same : x.chunk ≡ r.chunk)
      (past : past_in s u r.chunk ≡ past_in s ws r.chunk) where
    seen-is : on_seen (analysis_in s ws) (machine_in s ws r) at (ok (seen_in s u x)) ≡ settled (analysis_in s ws) (machine_in s u x) (queue_of u (words_of (module_of s)) x.queue)
    unfolding on_seen machine_in seen_in work_in
    seen-is =
        λ i. settled (analysis_in s ws)
        (record {
          validating = sym mode i;
          number = sym same i;
          chunk = chunk_no (module_of s) (sym same i);
          rest = drop (suc (sym same i)) (module_of s).chunks;
          past = (sym past ∙ ap (past_in s u) (sym same)) i;
          states = states_in s u x.chunk;
          queue = queue_of u (words_of (module_of s)) x.queue;
          facts = live_in s u x.changed;
        })
        (queue_of u (words_of (module_of s)) x.queue)

    pub next-goes : next (analysis_in s ws) (machine_in s ws r) ≡ settled (analysis_in s ws) (machine_in s u x) (queue_of u (words_of (module_of s)) x.queue)
    next-goes = next-is ∙ ap (on_seen (analysis_in s ws) (machine_in s ws r) at) taken ∙ seen-is

-- ---- by the queue
module _ (s u : List ℕ) (x : Run) where
  pub settled-due : 0 < x.queue.count → settled (analysis_in s u) (machine_in s u x) (queue_of u (words_of (module_of s)) x.queue) ≡ due (machine_in s u x)
  unfolding settled
  settled-due h = go (queue_of u (words_of (module_of s)) x.queue) (queue-length u (words_of (module_of s)) x.queue)
    where
      go : (q : List ℕ) → length q ≡ x.queue.count → settled (analysis_in s u) (machine_in s u x) q ≡ due (machine_in s u x)
      go [] e = absurd (omega arith)
      go (i ∷ q) e = refl

  pub settled-none : x.queue.count ≡ 0
      → settled (analysis_in s u) (machine_in s u x) (queue_of u (words_of (module_of s)) x.queue) ≡ settle (analysis_in s u) (machine_in s u x) x.validating
  unfolding settled machine_in
  settled-none h = go (queue_of u (words_of (module_of s)) x.queue) (queue-length u (words_of (module_of s)) x.queue)
    where
      go : (q : List ℕ) → length q ≡ x.queue.count → settled (analysis_in s u) (machine_in s u x) q ≡ settle (analysis_in s u) (machine_in s u x) x.validating
      go [] e = refl
      go (i ∷ q) e = absurd (omega arith)

-- ---- takings, one turn at a time
one_on : (a b : ℕ) → a + suc b ≡ suc a + b
one_on a b = omega arith

module _ {C F R S G : Type 0} (α : Analysis C F R S G) (limit steps : ℕ) (m : Machine C F S) (l : steps < limit) where
  one_less : limit - steps ≡ suc (limit - suc steps)
  one_less = omega arith

  pub after_turn : after-takings α (limit - steps) (due m) ≡ after-takings α (limit - suc steps) (next α m)
  unfolding after-takings
  after_turn = ap (λ (n : ℕ). after-takings α n (due m)) one_less

  pub takings-turn : steps + takings α (limit - steps) (due m) ≡ suc steps + takings α (limit - suc steps) (next α m)
  unfolding takings
  takings-turn = ap (λ (n : ℕ). steps + takings α n (due m)) one_less ∙ one_on steps _

-- what is over stays where it is, and takes nothing
module _ {C F R S G : Type 0} (α : Analysis C F R S G) where
  pub after-done : (n : ℕ) (x : Final R S) → after-takings α n (done x) ≡ done x
  unfolding after-takings
  after-done zero x = refl
  after-done (suc n) x = refl

  pub after_stop : (n : ℕ) (x : Stop) → after-takings α n (stop x) ≡ stop x
  unfolding after-takings
  after_stop zero x = refl
  after_stop (suc n) x = refl

  pub takings-done : (n : ℕ) (x : Final R S) → takings α n (done x) ≡ 0
  unfolding takings
  takings-done zero x = refl
  takings-done (suc n) x = refl

  pub takings-stop : (n : ℕ) (x : Stop) → takings α n (stop x) ≡ 0
  unfolding takings
  takings-stop zero x = refl
  takings-stop (suc n) x = refl

-- the entry that is due
pub due-entry : (s ws : List ℕ) (r : Run) → QueueReady ws (words_of (module_of s)) r.queue → 0 < r.queue.count
    → entry_due (machine_in s ws r).queue ≡ due_of ws (words_of (module_of s)) r.queue
unfolding machine_in entry_due
due-entry s ws r ready some = ap entry_due (entries-pop ws (words_of (module_of s)) r.queue ready some)
