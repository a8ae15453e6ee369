-- What the start has and every visit keeps, every state and fact of an accepted run has. Over any state, facts, join and rule.
use Prim.Native.Nat.{ℕ, zero, suc}
use native.Mathlib.Omega.{arith}
use mathlib.Core.Path.{◌≡◌, refl}
use mathlib.Core.Bool.{Bool, true, false, not, cond}
use mathlib.Core.Option.{Option, none, some}
use mathlib.Core.List.{List, [], ◌∷◌, ◌++◌}
use lib.ListN.{length, get_or}
use lib.Dec.{ltb}
use Rattle.definition.specs.Res.{Res, ok, bad}
use Rattle.definition.specs.Machine.{Joined, Effect, Work, Seen, Machine, Final, Where, due, done, stop, Ran, Analysis, accepted, push, put_joined, put_at, put_in, put, puts, visit_at, visit, adds, enter, finish, end_round, ending, onward, settle, settled, on_seen, takes, next, on_next, run, begun, check}
use Rattle.machine_laws.proofs.Bind.{bad≢ok, ok-inj, bind-use}
use Rattle.machine_laws.proofs.All.{All, nil, cons, all_append, all_set, all-get, Opt}
pub use Rattle.machine_laws.proofs.Asked.{Keeps}

module _ {S : Type 0} (P : S → Type 0) where
  abbrev pub StatesOk : List (Option S) → Type 0
  StatesOk st = All (Opt P) st

  push_ok : (st : List (Option S)) (q : List ℕ) (t : ℕ) (b : Bool) (w : Work S) → push st q t b ≡ ok w → StatesOk st → StatesOk w.states
  unfolding push
  push_ok st q t true w e h = rw (← ok-inj e) h
  push_ok st q t false w e h = absurd (bad≢ok e)

  module _ (join : S → S → Res (Joined S)) (cap : ℕ) (joined : (s x : S) (j : Joined S) → join s x ≡ ok j → P s → P x → P j.value) where
    put_joined-ok : (w v : Work S) (t : ℕ) (j : Joined S) (b : Bool) → put_joined join cap w t j b ≡ ok v → StatesOk w.states → P j.value → StatesOk v.states
    unfolding put_joined
    put_joined-ok w v t j true e h p = push_ok _ _ t _ v e (all_set (Opt P) t {x = some j.value} p h)
    put_joined-ok w v t j false e h p = rw (← ok-inj e) h

    put_at-ok : (w v : Work S) (t : ℕ) (x : S) (o : Option S) → Opt P o → put_at join cap w t x o ≡ ok v → StatesOk w.states → P x → StatesOk v.states
    unfolding put_at
    put_at-ok w v t x none q e h p = push_ok _ _ t _ v e (all_set (Opt P) t {x = some x} p h)
    put_at-ok w v t x (some old) q e h p =
        bind-use (join old x) _ e λ j a e'. put_joined-ok w v t j j.changed e' h (joined old x j a q p)

    put_in-ok : (w v : Work S) (t : ℕ) (x : S) (b : Bool) → put_in join cap w t x b ≡ ok v → StatesOk w.states → P x → StatesOk v.states
    unfolding put_in
    put_in-ok w v t x true e h p = put_at-ok w v t x (get_or w.states t none) (all-get (Opt P) t {d = none} tt h) e h p
    put_in-ok w v t x false e h p = rw (← ok-inj e) h

    puts-ok : (w v : Work S) (os : List (ℕ × S)) → puts join cap w os ≡ ok v → StatesOk w.states → All (λ o. P o.1) os → StatesOk v.states
    unfolding puts put
    puts-ok w v [] e h ps = rw (← ok-inj e) h
    puts-ok w v (o ∷ os) e h (cons p ps) =
        bind-use (put join cap w o) _ e λ u a e'. puts-ok u v os e' (put_in-ok w u o.0 o.1 (ltb o.0 (length w.states)) a h p) ps

module _ {C F R S G : Type 0} (α : Analysis C F R S G) where
  module _ (P : S → Type 0) (Q : R → Type 0) (L : F → Type 0) (T : G → Type 0) (K : C → Type 0) (keeps : Keeps α P Q L T K) (all : All K α.chunks) where
    adds-ok : (v : Bool) (f : F) (g : G) → L f → T g → L (adds α v f g)
    unfolding adds
    adds-ok true f g h t = h
    adds-ok false f g h t = keeps.absorbs f g h t

    record MachineOk (m : Machine C F S) : Type 0 where
      reached : α.reachable m.chunk ≡ true
      chunk-ok : K m.chunk
      rest_ok : All K m.rest
      past-ok : All (All (Opt P)) m.past
      states-ok : All (Opt P) m.states
      facts-ok : L m.facts

    pub record FinalOk (x : Final R S) : Type 0 where
      pub facts-ok : Q x.facts
      pub states-ok : All (All (Opt P)) x.states

    abbrev WhereOk : Where C F R S → Type 0
    WhereOk (due m) = MachineOk m
    WhereOk (done x) = FinalOk x
    WhereOk (stop x) = Unit {0}

    enter-ok : (v : Bool) (end : F → List (List (Option S)) → Where C F R S)
        → ((f : F) (past : List (List (Option S))) → L f → All (All (Opt P)) past → WhereOk (end f past))
        → (n : ℕ) (f : F) (past : List (List (Option S))) (cs : List C) → L f → All (All (Opt P)) past → All K cs
        → WhereOk (enter α v end n f past cs)
    unfolding enter
    enter-ok v end k n f past [] h p a = k f past h p
    enter-ok v end k n f past (c ∷ cs) h p (cons q a) =
        go (α.reachable c) refl (enter-ok v end k (suc n) f (past ++ ([] ∷ [])) cs h (all_append (All (Opt P)) p (cons nil nil)) a)
      where
        go : (b : Bool) → α.reachable c ≡ b → WhereOk (enter α v end (suc n) f (past ++ ([] ∷ [])) cs)
            → WhereOk (cond b (due (record { validating = v; number = n; chunk = c; rest = cs; past = past; states = α.start c (α.view f); queue = 0 ∷ []; facts = f }))
            (enter α v end (suc n) f (past ++ ([] ∷ [])) cs))
        go true r e = record { reached = r; chunk-ok = q; rest_ok = a; past-ok = p; states-ok = keeps.starts c (α.view f) q (keeps.viewed f h); facts-ok = h }
        go false r e = e

    finish-ok : (f : F) (past : List (List (Option S))) → L f → All (All (Opt P)) past → WhereOk (finish α f past)
    unfolding finish
    finish-ok f past h p = record { facts-ok = keeps.viewed f h; states-ok = p }

    ending-ok : (v : Bool) (f : F) (past : List (List (Option S))) → L f → All (All (Opt P)) past → WhereOk (ending α v f past)
    unfolding ending end_round
    ending-ok true f past h p = finish-ok f past h p
    ending-ok false f past h p = enter-ok (not (α.moved f)) _ finish-ok 0 (α.opened (α.closed f)) [] α.chunks (keeps.opened (α.closed f) (keeps.closes f h)) nil all

    onward-ok : (m : Machine C F S) (o : Option (ℕ × ℕ)) → MachineOk m → WhereOk (onward α m o)
    unfolding onward
    onward-ok m (some x) h = tt
    onward-ok m none h =
        enter-ok m.validating _ (ending-ok m.validating) (suc m.number) m.facts (m.past ++ (m.states ∷ [])) m.rest h.facts-ok
        (all_append (All (Opt P)) h.past-ok (cons h.states-ok nil)) h.rest_ok

    settle-ok : (m : Machine C F S) (v : Bool) → MachineOk m → WhereOk (settle α m v)
    unfolding settle
    settle-ok m true h = onward-ok m _ h
    settle-ok m false h = onward-ok m none h

    settled-ok : (m : Machine C F S) (q : List ℕ) → MachineOk m → WhereOk (settled α m q)
    unfolding settled
    settled-ok m [] h = settle-ok m m.validating h
    settled-ok m (i ∷ q) h = h

    visit_at-ok : (v : Bool) (c : C) (f : F) (st : List (Option S)) (q : List ℕ) (i : ℕ) (o : Option S) (r : Seen F S)
        → visit_at α.join α.room α.view (adds α v) (α.leaves v c) f st q i o ≡ ok r
        → α.reachable c ≡ true → K c → L f → All (Opt P) st → Opt P o → L r.facts × All (Opt P) r.work.states
    unfolding visit_at
    visit_at-ok v c f st q i none r e u k h a p = rw (← ok-inj e) (h, a)
    visit_at-ok v c f st q i (some s) r e u k h a p =
        bind-use (α.leaves v c (α.view f) i s) _ e λ x l e₁.
        bind-use (puts α.join α.room (record { states = st; queue = q }) x.ways) _ e₁ λ w m e₂.
        let (ws, g) = keeps.left v c (α.view f) i s x l u k (keeps.viewed f h) p in
        rw (← ok-inj e₂) (adds-ok v f x.gives h g, puts-ok P α.join α.room keeps.joined _ w x.ways m a ws)

    on_seen-ok : (m : Machine C F S) (i : ℕ) (o : Res (Seen F S)) → ((r : Seen F S) → o ≡ ok r → L r.facts × All (Opt P) r.work.states) → MachineOk m
        → WhereOk (on_seen α m i o)
    unfolding on_seen
    on_seen-ok m i (bad n) k h = tt
    on_seen-ok m i (ok r) k h =
        settled-ok _ r.work.queue (record { reached = h.reached; chunk-ok = h.chunk-ok; rest_ok = h.rest_ok; past-ok = h.past-ok; states-ok = (k r refl).1; facts-ok = (k r refl).0 })

    takes-ok : (m : Machine C F S) (q : List ℕ) → MachineOk m → WhereOk (takes α m q)
    unfolding takes visit
    takes-ok m [] h = settle-ok m m.validating h
    takes-ok m (i ∷ q) h =
        on_seen-ok m i _
        (λ r e. visit_at-ok m.validating m.chunk m.facts m.states q i (get_or m.states i none) r e h.reached h.chunk-ok h.facts-ok h.states-ok
        (all-get (Opt P) i {d = none} tt h.states-ok)) h

    on_next-ok : (more : Machine C F S → Ran R S) (steps n : ℕ) (w : Where C F R S) (x : Final R S)
        → ((m : Machine C F S) → MachineOk m → more m ≡ accepted x n → FinalOk x)
        → WhereOk w → on_next more steps w ≡ accepted x n → FinalOk x
    unfolding on_next
    on_next-ok more steps n (due m) x k h e = k m h e
    on_next-ok more steps n (done y) x k h e = let q : y ≡ x = cc in rw (← q) h
    on_next-ok more steps n (stop y) x k h e = absurd (let z : ◌≡◌ {A = ℕ} 0 1 = cc in omega arith)

    run_ok : (left steps n : ℕ) (m : Machine C F S) (x : Final R S) → MachineOk m → run α left steps m ≡ accepted x n → FinalOk x
    unfolding run next
    run_ok zero steps n m x h e = absurd (let z : ◌≡◌ {A = ℕ} 0 1 = cc in omega arith)
    run_ok (suc left) steps n m x h e =
        on_next-ok _ (suc steps) n (takes α m m.queue) x (λ o k q. run_ok left (suc steps) n o x k q) (takes-ok m m.queue h) e

    -- every state and fact of an accepted run
    pub check-keeps : (limit n : ℕ) (r : R) (x : Final R S) → Q r → check α limit r ≡ accepted x n → FinalOk x
    unfolding check begun
    check-keeps limit n r x h e =
        on_next-ok _ 0 n (enter α false (finish α) 0 (α.opened r) [] α.chunks) x
        (λ m k q. run_ok limit 0 n m x k q) (enter-ok false _ finish-ok 0 (α.opened r) [] α.chunks (keeps.opened r h) nil all) e
