-- A check is refused by 7, 8, or a number that the rule, the join or what follows a chunk refuses by. Over any state, facts, join and rule.
use Prim.Native.Nat.{ℕ, zero, suc}
use mathlib.Core.Bool.{Bool, true, false, not}
use mathlib.Core.Option.{Option, none, some}
use mathlib.Core.List.{List, [], ◌∷◌, ◌++◌}
use lib.ListN.{length, get_or}
use lib.Dec.{ltb}
use Rattle.definition.specs.Res.{Res, ok, bad}
use Rattle.definition.specs.Machine.{Joined, Effect, Work, Seen, Machine, Where, due, done, stop, Ran, Analysis, push, put_joined, put_at, put_in, put, puts, visit_at, visit, enter, finish, end_round, ending, onward, settle, settled, on_seen, takes, next, on_next, run, begun, check}
use Rattle.refusal_laws.proofs.Only.{either, OfRes, OfPlace, OfWhere, OfRan, bind-of}

module _ (Only : ℕ → Type 0) (only-8 : Only 8) where
  push-only : {S : Type 0} (st : List (Option S)) (q : List ℕ) (t : ℕ) (b : Bool) → OfRes Only (push st q t b)
  unfolding push
  push-only st q t true = tt
  push-only st q t false = only-8

  module _ {S : Type 0} (join : S → S → Res (Joined S)) (cap : ℕ) (joins : (s x : S) → OfRes Only (join s x)) where
    joined-only : (w : Work S) (t : ℕ) (j : Joined S) (b : Bool) → OfRes Only (put_joined join cap w t j b)
    unfolding put_joined
    joined-only w t j true = push-only _ _ t _
    joined-only w t j false = tt

    at_only : (w : Work S) (t : ℕ) (x : S) (o : Option S) → OfRes Only (put_at join cap w t x o)
    unfolding put_at
    at_only w t x none = push-only _ _ t _
    at_only w t x (some old) = bind-of Only (join old x) _ (joins old x) (λ j. joined-only w t j j.changed)

    in-only : (w : Work S) (t : ℕ) (x : S) (b : Bool) → OfRes Only (put_in join cap w t x b)
    unfolding put_in
    in-only w t x true = at_only w t x (get_or w.states t none)
    in-only w t x false = tt

    puts-only : (w : Work S) (os : List (ℕ × S)) → OfRes Only (puts join cap w os)
    unfolding puts put
    puts-only w [] = tt
    puts-only w (o ∷ os) = bind-of Only (put join cap w o) _ (in-only w o.0 o.1 (ltb o.0 (length w.states))) (λ v. puts-only v os)

    visit-only : {F R G : Type 0} (view : F → R) (absorb : F → G → F) (leaves : R → ℕ → S → Res (Effect S G))
        → ((r : R) (i : ℕ) (s : S) → OfRes Only (leaves r i s)) → (f : F) (st : List (Option S)) (q : List ℕ) (i : ℕ) (o : Option S)
        → OfRes Only (visit_at join cap view absorb leaves f st q i o)
    unfolding visit_at
    visit-only view absorb leaves rule f st q i none = tt
    visit-only view absorb leaves rule f st q i (some s) =
        bind-of Only (leaves (view f) i s) _ (rule (view f) i s)
        (λ e. bind-of Only (puts join cap (record { states = st; queue = q }) e.ways) _ (puts-only _ e.ways) (λ w. tt))

-- ---- between two takings: only what follows a chunk refuses
module _ {C F R S G : Type 0} (α : Analysis C F R S G)
    (Only : ℕ → Type 0) (follows : (c : C) (st : List (Option S)) → OfPlace Only (α.after c st)) where
  pub enter-of : (v : Bool) (end : F → List (List (Option S)) → Where C F R S) → ((f : F) (past : List (List (Option S))) → OfWhere Only (end f past))
      → (n : ℕ) (f : F) (past : List (List (Option S))) (cs : List C) → OfWhere Only (enter α v end n f past cs)
  unfolding enter
  enter-of v end h n f past [] = h f past
  enter-of v end h n f past (c ∷ cs) = either (OfWhere Only) (α.reachable c) tt (enter-of v end h (suc n) f (past ++ ([] ∷ [])) cs)

  ending_of : (v : Bool) (f : F) (past : List (List (Option S))) → OfWhere Only (ending α v f past)
  unfolding ending end_round finish
  ending_of true f past = tt
  ending_of false f past = enter-of (not (α.moved f)) _ (λ g p. tt) 0 _ [] α.chunks

  onward-of : (m : Machine C F S) (o : Option (ℕ × ℕ)) → OfPlace Only o → OfWhere Only (onward α m o)
  unfolding onward
  onward-of m (some x) h = h
  onward-of m none h = enter-of m.validating _ (ending_of m.validating) _ m.facts _ m.rest

  pub settle-of : (m : Machine C F S) (v : Bool) → OfWhere Only (settle α m v)
  unfolding settle
  settle-of m true = onward-of m _ (follows m.chunk m.states)
  settle-of m false = onward-of m none tt

  pub settled-of : (m : Machine C F S) (q : List ℕ) → OfWhere Only (settled α m q)
  unfolding settled
  settled-of m [] = settle-of m m.validating
  settled-of m (i ∷ q) = tt

module _ {C F R S G : Type 0} (α : Analysis C F R S G)
    -- the numbers
    (Only : ℕ → Type 0) (only-8 : Only 8) (joins : (s x : S) → OfRes Only (α.join s x))
    (follows : (c : C) (st : List (Option S)) → OfPlace Only (α.after c st))
    (rule : (v : Bool) (c : C) (r : R) (i : ℕ) (s : S) → OfRes Only (α.leaves v c r i s)) where
  seen-only : (m : Machine C F S) (i : ℕ) (r : Res (Seen F S)) → OfRes Only r → OfWhere Only (on_seen α m i r)
  unfolding on_seen
  seen-only m i (bad n) h = h
  seen-only m i (ok r) h = settled-of α Only follows _ r.work.queue

  pub takes-only : (m : Machine C F S) (q : List ℕ) → OfWhere Only (takes α m q)
  unfolding takes visit
  takes-only m [] = settle-of α Only follows m m.validating
  takes-only m (i ∷ q) =
      seen-only m i _
      (visit-only Only only-8 α.join α.room joins α.view _ _ (rule m.validating m.chunk) m.facts m.states q i (get_or m.states i none))

  -- the limit too
  module _ (only-7 : Only 7) where
    next-only : (more : Machine C F S → Ran R S) → ((m : Machine C F S) → OfRan Only (more m)) → (steps : ℕ) (w : Where C F R S) → OfWhere Only w
        → OfRan Only (on_next more steps w)
    unfolding on_next
    next-only more h steps (due m) o = h m
    next-only more h steps (done x) o = tt
    next-only more h steps (stop x) o = o

    run_only : (left steps : ℕ) (m : Machine C F S) → OfRan Only (run α left steps m)
    unfolding run next
    run_only zero steps m = only-7
    run_only (suc left) steps m = next-only _ (λ n. run_only left (suc steps) n) (suc steps) _ (takes-only m m.queue)

    -- THEOREM
    pub check-only : (limit : ℕ) (r : R) → OfRan Only (check α limit r)
    unfolding check begun finish
    check-only limit r = next-only _ (λ m. run_only limit 0 m) 0 _ (enter-of α Only follows false _ (λ f past. tt) 0 (α.opened r) [] α.chunks)
