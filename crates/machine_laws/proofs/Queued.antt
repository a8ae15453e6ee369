-- Where the machine is due its queue has an entry: the answers for an empty queue in `takes` and `entry_due` never come.
use Prim.Native.Nat.{ℕ, zero, suc}
use mathlib.Core.Path.{◌≡◌, refl}
use mathlib.Core.Bool.{Bool, true, false, cond, not}
use mathlib.Core.Option.{Option, none, some}
use mathlib.Core.List.{List, [], ◌∷◌, ◌++◌}
use Rattle.definition.specs.Res.{Res, ok, bad}
use Rattle.definition.specs.Machine.{Seen, Machine, Where, Analysis, due, done, stop, enter, finish, end_round, ending, onward, settle, settled, on_seen, takes, next, begun}
use Rattle.machine_laws.specs.Takings.{after-takings}

abbrev pub Queued : {C F R S : Type 0} → Where C F R S → Type 0
Queued (due m) = (i : ℕ) × (q : List ℕ) × (m.queue ≡ i ∷ q)
Queued (done x) = Unit {0}
Queued (stop x) = Unit {0}

module _ {C F R S G : Type 0} (α : Analysis C F R S G) where
  enter-queued : (v : Bool) (end : F → List (List (Option S)) → Where C F R S) → ((f : F) (past : List (List (Option S))) → Queued (end f past))
      → (n : ℕ) (f : F) (past : List (List (Option S))) (cs : List C) → Queued (enter α v end n f past cs)
  unfolding enter
  enter-queued v end h n f past [] = h f past
  enter-queued v end h n f past (c ∷ cs) = go _ (α.reachable c) (enter-queued v end h (suc n) f (past ++ ([] ∷ [])) cs)
    where
      m : Machine C F S
      m = record { validating = v; number = n; chunk = c; rest = cs; past = past; states = α.start c (α.view f); queue = 0 ∷ []; facts = f }

      go : (w : Where C F R S) (b : Bool) → Queued w → Queued (cond b (due m) w)
      go w true q = (0, [], refl)
      go w false q = q

  ending-queued : (v : Bool) (f : F) (past : List (List (Option S))) → Queued (ending α v f past)
  unfolding ending end_round finish
  ending-queued true f past = tt
  ending-queued false f past = enter-queued (not (α.moved f)) _ (λ f past. tt) 0 (α.opened (α.closed f)) [] α.chunks

  onward-queued : (m : Machine C F S) (o : Option (ℕ × ℕ)) → Queued (onward α m o)
  unfolding onward
  onward-queued m (some x) = tt
  onward-queued m none = enter-queued m.validating _ (ending-queued m.validating) (suc m.number) m.facts (m.past ++ (m.states ∷ [])) m.rest

  settle-queued : (m : Machine C F S) (v : Bool) → Queued (settle α m v)
  unfolding settle
  settle-queued m true = onward-queued m (α.after m.chunk m.states)
  settle-queued m false = onward-queued m none

  settled-queued : (m : Machine C F S) (q : List ℕ) → m.queue ≡ q → Queued (settled α m q)
  unfolding settled
  settled-queued m [] e = settle-queued m m.validating
  settled-queued m (i ∷ q) e = (i, q, e)

  seen-queued : (m : Machine C F S) (i : ℕ) (a : Res (Seen F S)) → Queued (on_seen α m i a)
  unfolding on_seen
  seen-queued m i (bad n) = tt
  seen-queued m i (ok r) = settled-queued _ r.work.queue refl

  takes-queued : (m : Machine C F S) (q : List ℕ) → Queued (takes α m q)
  unfolding takes
  takes-queued m [] = settle-queued m m.validating
  takes-queued m (i ∷ q) = seen-queued m i _

  after-queued : (k : ℕ) (w : Where C F R S) → Queued w → Queued (after-takings α k w)
  unfolding after-takings next
  after-queued zero w h = h
  after-queued (suc k) (due m) h = after-queued k (next α m) (takes-queued m m.queue)
  after-queued (suc k) (done x) h = h
  after-queued (suc k) (stop x) h = h

  -- THEOREM: wherever a check stands with an entry due, there is one
  pub due-queued : (k : ℕ) (r : R) (m : Machine C F S) → after-takings α k (begun α r) ≡ due m → (i : ℕ) × (q : List ℕ) × (m.queue ≡ i ∷ q)
  unfolding begun finish
  due-queued k r m e = go e (after-queued k (begun α r) (enter-queued false _ (λ f past. tt) 0 (α.opened r) [] α.chunks))
    where
      go : {w : Where C F R S} → w ≡ due m → Queued w → (i : ℕ) × (q : List ℕ) × (m.queue ≡ i ∷ q)
      go e h = rw e at h
