-- More room in the queue and more steps change nothing of a run that is accepted, or refused but not by 7 or 8; where a full queue refuses.
use Prim.Native.Nat.{ℕ, zero, suc, ◌+◌, ◌<◌, ◌≤◌}
use native.Mathlib.Omega.{arith}
use mathlib.Core.Path.{◌≡◌, refl, sym, ◌∙◌, ap}
use mathlib.Core.Logic.{◌⊎◌, inl, inr, ◌↔◌}
use mathlib.Core.Bool.{Bool, true, false, not}
use mathlib.Core.Option.{Option, none, some}
use mathlib.Core.List.{List, [], ◌∷◌, ◌++◌}
use lib.ListN.{length, get_or, set}
use lib.Dec.{T, ltb, ltb→lt, lt→ltb, nltb→le}
use Rattle.answers.specs.declared.Refusal.{Refusal}
use Rattle.definition.specs.Res.{Res, ok, bad, bind}
use Rattle.definition.specs.Machine.{Joined, Effect, Work, Seen, Machine, Final, Where, Analysis, due, done, stop, accepted, refused, halt, push, put_joined, put_at, put_in, put, puts, visit_at, visit, adds, enter, finish, end_round, ending, onward, settle, settled, on_seen, takes, next, begun, check}
use Rattle.machine_laws.specs.Takings.{Counted, after-takings, Spent}
use Rattle.machine_laws.specs.Full.{Full}
use Rattle.machine_laws.proofs.Bind.{bad≢ok, bad-inj}
use Rattle.machine_laws.proofs.Unfull.{Unfull}
use Rattle.machine_laws.proofs.Moves.{Recorded}
use Rattle.machine_laws.proofs.Sweep.{accepted-inj}
use Rattle.machine_laws.proofs.Takings.{accepted-counted, counted-accepted, refused-counted, counted-refused}

true_of : (b : Bool) → T b → b ≡ true
true_of true t = refl
true_of false t = absurd t

-- ---- an answer that a full queue did not refuse is the same with a larger one
abbrev Full8 : {A : Type 0} → Res A → Res A → Type 0
Full8 r r' = (r ≡ bad 8) ⊎ (r' ≡ r)

bind-more : {A B : Type 0} (r r' : Res A) (f f' : A → Res B) → Full8 r r' → ((a : A) → Full8 (f a) (f' a)) → Full8 (bind r f) (bind r' f')
bind-more r r' f f' (inl e) h = inl (rw e)
bind-more (ok a) r' f f' (inr e) h = rw e (h a)
bind-more (bad n) r' f f' (inr e) h = inr (rw e)

module _ {S : Type 0} (join : S → S → Res (Joined S)) (cap cap' : ℕ) (more : cap ≤ cap') where
  push-more : (st : List (Option S)) (q : List ℕ) (t : ℕ) → Full8 (push st q t (ltb (length q) cap)) (push st q t (ltb (length q) cap'))
  unfolding push
  push-more st q t = go (ltb (length q) cap) refl
    where
      go : (b : Bool) → ltb (length q) cap ≡ b → Full8 (push st q t b) (push st q t (ltb (length q) cap'))
      go true e =
          let l : length q < cap = ltb→lt (length q) cap (rw e tt) in
          inr (rw (true_of (ltb (length q) cap') (lt→ltb (length q) cap' (omega arith))))
      go false e = inl refl

  joined-more : (w : Work S) (t : ℕ) (j : Joined S) (b : Bool) → Full8 (put_joined join cap w t j b) (put_joined join cap' w t j b)
  unfolding put_joined
  joined-more w t j true = push-more (set w.states t (some j.value)) w.queue t
  joined-more w t j false = inr refl

  at_more : (w : Work S) (t : ℕ) (x : S) (o : Option S) → Full8 (put_at join cap w t x o) (put_at join cap' w t x o)
  unfolding put_at
  at_more w t x none = push-more (set w.states t (some x)) w.queue t
  at_more w t x (some s) = bind-more (join s x) (join s x) _ _ (inr refl) (λ j. joined-more w t j j.changed)

  in-more : (w : Work S) (t : ℕ) (x : S) (b : Bool) → Full8 (put_in join cap w t x b) (put_in join cap' w t x b)
  unfolding put_in
  in-more w t x true = at_more w t x (get_or w.states t none)
  in-more w t x false = inr refl

  puts-more : (w : Work S) (os : List (ℕ × S)) → Full8 (puts join cap w os) (puts join cap' w os)
  unfolding puts put
  puts-more w [] = inr refl
  puts-more w (o ∷ os) =
      bind-more (put join cap w o) (put join cap' w o) _ _ (in-more w o.0 o.1 (ltb o.0 (length w.states))) (λ v. puts-more v os)

  module _ {F R G : Type 0} (view : F → R) (absorb : F → G → F) (leaves : R → ℕ → S → Res (Effect S G)) where
    visit-more : (f : F) (st : List (Option S)) (q : List ℕ) (i : ℕ) → Full8 (visit join cap view absorb leaves f st q i) (visit join cap' view absorb leaves f st q i)
    unfolding visit visit_at
    visit-more f st q i = go (get_or st i none)
      where
        go : (o : Option S) → Full8 (visit_at join cap view absorb leaves f st q i o) (visit_at join cap' view absorb leaves f st q i o)
        go none = inr refl
        go (some s) =
            bind-more (leaves (view f) i s) (leaves (view f) i s) _ _ (inr refl)
            (λ e. bind-more (puts join cap (record { states = st; queue = q }) e.ways) _ _ _ (puts-more _ e.ways) (λ w. inr refl))

-- the same with another room in the queue
abbrev pub with_room : {C F R S G : Type 0} → Analysis C F R S G → ℕ → Analysis C F R S G
with_room α cap = record {
  join = α.join;
  room = cap;
  chunks = α.chunks;
  reachable = α.reachable;
  start = α.start;
  after = α.after;
  opened = α.opened;
  view = α.view;
  absorb = α.absorb;
  moved = α.moved;
  closed = α.closed;
  leaves = α.leaves;
}

module _ {C F R S G : Type 0} (α : Analysis C F R S G) (cap : ℕ) where
  abbrev α' : Analysis C F R S G
  α' = with_room α cap

  -- ---- between takings the room plays no part
  enter-same : (v : Bool) (end end' : F → List (List (Option S)) → Where C F R S)
      → ((f : F) (past : List (List (Option S))) → end f past ≡ end' f past) → (n : ℕ) (f : F) (past : List (List (Option S))) (cs : List C)
      → enter α v end n f past cs ≡ enter α' v end' n f past cs
  unfolding enter
  enter-same v end end' h n f past [] = h f past
  enter-same v end end' h n f past (c ∷ cs) = rw (enter-same v end end' h (suc n) f (past ++ ([] ∷ [])) cs) refl

  ending-same : (v : Bool) (f : F) (past : List (List (Option S))) → ending α v f past ≡ ending α' v f past
  unfolding ending end_round finish
  ending-same true f past = refl
  ending-same false f past = enter-same (not (α.moved f)) _ _ (λ f past. refl) 0 (α.opened (α.closed f)) [] α.chunks

  onward-same : (m : Machine C F S) (o : Option (ℕ × ℕ)) → onward α m o ≡ onward α' m o
  unfolding onward
  onward-same m (some x) = refl
  onward-same m none = enter-same m.validating _ _ (ending-same m.validating) (suc m.number) m.facts (m.past ++ (m.states ∷ [])) m.rest

  settle-same : (m : Machine C F S) (v : Bool) → settle α m v ≡ settle α' m v
  unfolding settle
  settle-same m true = onward-same m (α.after m.chunk m.states)
  settle-same m false = onward-same m none

  settled_same : (m : Machine C F S) (q : List ℕ) → settled α m q ≡ settled α' m q
  unfolding settled
  settled_same m [] = settle-same m m.validating
  settled_same m (i ∷ q) = refl

  begun-same : (r : R) → begun α r ≡ begun α' r
  unfolding begun finish
  begun-same r = enter-same false _ _ (λ f past. refl) 0 (α.opened r) [] α.chunks

  module _ (more : α.room ≤ cap) where
    takes-more : (m : Machine C F S) (q : List ℕ) → Unfull (takes α m q) → takes α' m q ≡ takes α m q
    unfolding takes on_seen adds
    takes-more m [] l = sym (settle-same m m.validating)
    takes-more m (i ∷ q) l =
        seen _ _ l
        (visit-more α.join α.room cap more α.view (adds α m.validating) (α.leaves m.validating m.chunk) m.facts m.states q i)
      where
        seen : (a a' : Res (Seen F S)) → Unfull (on_seen α m i a) → Full8 a a' → on_seen α' m i a' ≡ on_seen α m i a
        seen a a' l (inl e) = absurd ((rw e at l) refl)
        seen (bad n) a' l (inr e) = rw e
        seen (ok r) a' l (inr e) = rw e (sym (settled_same _ r.work.queue))

    unfull-before : (k : ℕ) (w : Where C F R S) → Unfull (after-takings α k w) → Unfull w
    unfolding after-takings
    unfull-before zero w l = l
    unfull-before (suc k) (due m) l = tt
    unfull-before (suc k) (done x) l = tt
    unfull-before (suc k) (stop x) l = l

    after_more : (k : ℕ) (w : Where C F R S) → Unfull (after-takings α k w) → after-takings α' k w ≡ after-takings α k w
    unfolding after-takings next
    after_more zero w l = refl
    after_more (suc k) (due m) l = rw (takes-more m m.queue (unfull-before k (next α m) l)) (after_more k (next α m) l)
    after_more (suc k) (done x) l = refl
    after_more (suc k) (stop x) l = refl

    counted-more : (limit limit' : ℕ) (r : R) (n : ℕ) (end : Where C F R S) → limit ≤ limit' → Unfull end
        → Counted α (begun α r) limit n end → Counted α' (begun α' r) limit' n end
    counted-more limit limit' r n end l u c =
        let w : Where C F R S = begun α r in
        rw (← begun-same r)
        (record {
          within = let m = c.within in omega arith;
          ends = after_more n w (rw c.ends u) ∙ c.ends;
          before = λ k v. let (m, e) = c.before k v in (m, after_more k w (rw e tt) ∙ e);
        })

    -- THEOREM: an accepted check is accepted with more room and more steps, with the same states, facts and steps
    pub check-more : (limit limit' : ℕ) (r : R) (x : Final R S) (n : ℕ) → limit ≤ limit' → check α limit r ≡ accepted x n
        → check α' limit' r ≡ accepted x n
    check-more limit limit' r x n l h =
        counted-accepted α' limit' r x n (counted-more limit limit' r n (done x) l tt (accepted-counted α limit r x n h))

    -- THEOREM: and one that is refused, but not by 7 or 8, is refused alike
    pub refused-more : (limit limit' : ℕ) (r : R) (ρ : Refusal) → limit ≤ limit' → (ρ.number ≡ 7 → ⊥) → (ρ.number ≡ 8 → ⊥)
        → check α limit r ≡ refused ρ → check α' limit' r ≡ refused ρ
    refused-more limit limit' r ρ l a b h = go (refused-counted α limit r ρ h)
      where
        go : Spent α limit r ρ ⊎ Counted α (begun α r)
            limit ρ.steps (halt ρ.number ρ.chunk ρ.instruction) → check α' limit' r ≡ refused ρ
        go (inl (m, e, p)) = absurd (a (ap (λ (q : Refusal). q.number) p))
        go (inr c) =
            counted-refused α' limit' r _ ρ.steps
            (counted-more limit limit' r ρ.steps (halt ρ.number ρ.chunk ρ.instruction) l b c)

-- THEOREM: two accepted checks of the same chunks and facts agree, whatever room and steps they were given
pub accepted-same : {C F R S G : Type 0} (α : Analysis C F R S G) (cap limit limit' : ℕ) (r : R) (x x' : Final R S) (n n' : ℕ)
    → check α limit r ≡ accepted x n → check (with_room α cap) limit' r ≡ accepted x' n' → (x ≡ x') × (n ≡ n')
accepted-same α cap limit limit' r x x' n n' h h' =
    accepted-inj
    (sym (check-more α (α.room + cap) (omega arith) limit (limit + limit') r x n (omega arith) h)
    ∙ check-more (with_room α cap) (α.room + cap) (omega arith) limit' (limit + limit') r x' n' (omega arith) h')

-- ---- 8: where the queue is full
module _ {S : Type 0} (join : S → S → Res (Joined S)) (cap : ℕ) where
  pushed-full : (st : List (Option S)) (q : List ℕ) (t : ℕ) → push st q t (ltb (length q) cap) ≡ bad 8 → cap ≤ length q
  unfolding push
  pushed-full st q t h = go (ltb (length q) cap) refl h
    where
      go : (b : Bool) → ltb (length q) cap ≡ b → push st q t b ≡ bad 8 → cap ≤ length q
      go true e h = absurd (bad≢ok (sym h))
      go false e h = nltb→le (length q) cap (rw e tt)

  full-pushed : (st : List (Option S)) (q : List ℕ) (t : ℕ) → cap ≤ length q → push st q t (ltb (length q) cap) ≡ bad 8
  unfolding push
  full-pushed st q t l = go (ltb (length q) cap) refl
    where
      go : (b : Bool) → ltb (length q) cap ≡ b → push st q t b ≡ bad 8
      go true e = let m : length q < cap = ltb→lt (length q) cap (rw e tt) in absurd (omega arith)
      go false e = refl

  full_put : (w : Work S) (o : ℕ × S) → Full join cap w o → put join cap w o ≡ bad 8
  unfolding put put_in put_at put_joined
  full_put w o f = rw (true_of (ltb o.0 (length w.states)) (lt→ltb o.0 (length w.states) f.inside)) (go f.moves)
    where
      go : (get_or w.states o.0 none ≡ none) ⊎ ((s : S) × (j : Joined S) × Recorded w.states o.0 s × (join s o.1 ≡ ok j) × (j.changed ≡ true))
          → put_at join cap w o.0 o.1 (get_or w.states o.0 none) ≡ bad 8
      go (inl e) = rw e (full-pushed (set w.states o.0 (some o.1)) w.queue o.0 f.full)
      go (inr (s, j, r, e, u)) = rw (r, e, u) (full-pushed (set w.states o.0 (some j.value)) w.queue o.0 f.full)

  put_full : ((s x : S) → join s x ≡ bad 8 → ⊥) → (w : Work S) (o : ℕ × S) → put join cap w o ≡ bad 8 → Full join cap w o
  unfolding put put_in put_at put_joined
  put_full never w o h = inside (ltb o.0 (length w.states)) refl h
    where
      joined : o.0 < length w.states → (s : S) (j : Joined S) → Recorded w.states o.0 s → join s o.1 ≡ ok j → (b : Bool) → j.changed ≡ b
          → put_joined join cap w o.0 j b ≡ bad 8 → Full join cap w o
      joined l s j r e true u h = record { inside = l; moves = inr (s, j, r, e, u); full = pushed-full (set w.states o.0 (some j.value)) w.queue o.0 h }
      joined l s j r e false u h = absurd (bad≢ok (sym h))

      joins : o.0 < length w.states → (s : S) → Recorded w.states o.0 s → (a : Res (Joined S)) → join s o.1 ≡ a
          → bind a (λ j. put_joined join cap w o.0 j j.changed) ≡ bad 8 → Full join cap w o
      joins l s r (ok j) e h = joined l s j r e j.changed refl h
      joins l s r (bad n) e h =
          let k : n ≡ 8 = bad-inj h in
          absurd (never s o.1 (rw k at e))

      there : o.0 < length w.states → (a : Option S) → get_or w.states o.0 none ≡ a → put_at join cap w o.0 o.1 a ≡ bad 8 → Full join cap w o
      there l none e h = record { inside = l; moves = inl e; full = pushed-full (set w.states o.0 (some o.1)) w.queue o.0 h }
      there l (some s) e h = joins l s e (join s o.1) refl h

      inside : (b : Bool) → ltb o.0 (length w.states) ≡ b → put_in join cap w o.0 o.1 b ≡ bad 8 → Full join cap w o
      inside true e h = there (ltb→lt o.0 (length w.states) (rw e tt)) (get_or w.states o.0 none) refl h
      inside false e h = absurd (bad≢ok (sym h))

  -- THEOREM: 8 comes exactly where the queue is full, for joins that never answer it
  pub full-exactly : ((s x : S) → join s x ≡ bad 8 → ⊥) → (w : Work S) (o : ℕ × S) → put join cap w o ≡ bad 8 ↔ Full join cap w o
  full-exactly never w o = (put_full never w o, full_put w o)
