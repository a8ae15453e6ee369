-- What the facts of a run keep from taking to taking and from round to round, the facts of an accepted one have.
use Prim.Native.Nat.{ℕ, zero, suc}
use mathlib.Core.Path.{◌≡◌, refl}
use mathlib.Core.Bool.{Bool, true, false, cond, not}
use mathlib.Core.Option.{Option, none, some}
use mathlib.Core.List.{List, [], ◌∷◌, ◌++◌}
use lib.ListN.{get_or}
use Rattle.definition.specs.Res.{Res, ok, bad, bind}
use Rattle.definition.specs.Machine.{Effect, Work, Seen, Machine, Final, Where, due, done, stop, Ran, Analysis, accepted, puts, visit_at, visit, adds, enter, finish, end_round, ending, onward, settle, settled, on_seen, takes, next, on_next, run, begun, check}
use Rattle.masks.proofs.Both.{never}

module _ {C F R S G : Type 0} (α : Analysis C F R S G)
    (P : F → Type 0) (up : (f : F) (g : G) → P f → P (α.absorb f g)) (again : (f : F) → P f → P (α.opened (α.closed f))) where
  -- the facts where a run stands have it
  abbrev Stands : Where C F R S → Type 0
  Stands (due m) = P m.facts
  Stands (done x) = (f : F) × P f × (α.view f ≡ x.facts)
  Stands (stop x) = Unit {0}

  adds-carries : (v : Bool) (f : F) (g : G) → P f → P (adds α v f g)
  unfolding adds
  adds-carries true f g p = p
  adds-carries false f g p = up f g p

  -- a visit that is not refused
  Sees : Res (Seen F S) → Type 0
  Sees (ok r) = P r.facts
  Sees (bad n) = Unit {0}

  visit-carries : (a : F → G → F) → ((f : F) (g : G) → P f → P (a f g)) → (l : R → ℕ → S → Res (Effect S G)) (f : F) (st : List (Option S)) (q : List ℕ) (i : ℕ)
      → P f → Sees (visit α.join α.room α.view a l f st q i)
  unfolding visit visit_at Sees
  visit-carries a ups l f st q i p = at (get_or st i none)
    where
      put : (e : Effect S G) (w : Res (Work S)) → Sees (bind w (λ z. ok (record { facts = a f e.gives; work = z })))
      put e (ok w) = ups f e.gives p
      put e (bad n) = tt

      left : (r : Res (Effect S G))
          → Sees (bind r (λ e. bind (puts α.join α.room (record { states = st; queue = q }) e.ways) (λ w. ok (record { facts = a f e.gives; work = w }))))
      left (ok e) = put e (puts α.join α.room (record { states = st; queue = q }) e.ways)
      left (bad n) = tt

      at : (o : Option S) → Sees (visit_at α.join α.room α.view a l f st q i o)
      at none = p
      at (some s) = left (l (α.view f) i s)

  enter-carries : (v : Bool) (end : F → List (List (Option S)) → Where C F R S) → ((f : F) (past : List (List (Option S))) → P f → Stands (end f past))
      → (n : ℕ) (f : F) (past : List (List (Option S))) (cs : List C) → P f → Stands (enter α v end n f past cs)
  unfolding enter
  enter-carries v end ends n f past [] p = ends f past p
  enter-carries v end ends n f past (c ∷ cs) p = go (α.reachable c) p (enter-carries v end ends (suc n) f (past ++ ([] ∷ [])) cs p)
    where
      go : (b : Bool) → P f → Stands (enter α v end (suc n) f (past ++ ([] ∷ [])) cs)
          → Stands (cond b (due (record { validating = v; number = n; chunk = c; rest = cs; past = past; states = α.start c (α.view f); queue = 0 ∷ []; facts = f }))
          (enter α v end (suc n) f (past ++ ([] ∷ [])) cs))
      go true p q = p
      go false p q = q

  finish-carries : (f : F) (past : List (List (Option S))) → P f → Stands (finish α f past)
  unfolding finish
  finish-carries f past p = (f, p, refl)

  ending-carries : (v : Bool) (f : F) (past : List (List (Option S))) → P f → Stands (ending α v f past)
  unfolding ending end_round
  ending-carries true f past p = finish-carries f past p
  ending-carries false f past p = enter-carries (not (α.moved f)) _ finish-carries 0 (α.opened (α.closed f)) [] α.chunks (again f p)

  settle-carries : (m : Machine C F S) (v : Bool) → P m.facts → Stands (settle α m v)
  unfolding settle onward
  settle-carries m v p = by v
    where
      on : (o : Option (ℕ × ℕ)) → Stands (onward α m o)
      on (some x) = tt
      on none = enter-carries m.validating _ (ending-carries m.validating) (suc m.number) m.facts (m.past ++ (m.states ∷ [])) m.rest p

      by : (v : Bool) → Stands (settle α m v)
      by true = on (α.after m.chunk m.states)
      by false = on none

  next-carries : (m : Machine C F S) → P m.facts → Stands (next α m)
  unfolding next takes on_seen settled Sees
  next-carries m p = by m.queue
    where
      rest : (w : Machine C F S) (q : List ℕ) → P w.facts → Stands (settled α w q)
      rest w [] p = settle-carries w w.validating p
      rest w (i ∷ q) p = p

      seen : (i : ℕ) (r : Res (Seen F S)) → Sees r → Stands (on_seen α m i r)
      seen i (bad n) p = tt
      seen i (ok r) p = rest _ r.work.queue p

      by : (q : List ℕ) → Stands (takes α m q)
      by [] = settle-carries m m.validating p
      by (i ∷ q) =
          let a = adds α m.validating in
          let l = α.leaves m.validating m.chunk in
          seen i (visit α.join α.room α.view a l m.facts m.states q i) (visit-carries a (adds-carries m.validating) l m.facts m.states q i p)

  -- what an accepted run ends in
  abbrev Ends : Final R S → Type 0
  Ends x = (f : F) × P f × (α.view f ≡ x.facts)

  on-carries : (x : Final R S) (n : ℕ) (more : Machine C F S → Ran R S) → ((m : Machine C F S) → P m.facts → more m ≡ accepted x n → Ends x)
      → (steps : ℕ) (w : Where C F R S) → Stands w → on_next more steps w ≡ accepted x n → Ends x
  unfolding on_next
  on-carries x n more ih steps (due m) p h = ih m p h
  on-carries x n more ih steps (done y) p h = let e : y ≡ x = cc in rw (← e) p
  on-carries x n more ih steps (stop y) p h = never (cc)

  run-carries : (x : Final R S) (n left steps : ℕ) (m : Machine C F S) → P m.facts → run α left steps m ≡ accepted x n → Ends x
  unfolding run
  run-carries x n zero steps m p h = never (cc)
  run-carries x n (suc left) steps m p h =
      on-carries x n _ (λ w. run-carries x n left (suc steps) w) (suc steps) (next α m) (next-carries m p) h

  pub check-carries : (limit : ℕ) (r : R) (x : Final R S) (n : ℕ) → P (α.opened r)
      → check α limit r ≡ accepted x n → (f : F) × P f × (α.view f ≡ x.facts)
  unfolding check begun
  check-carries limit r x n p h = on-carries x n _ (λ m. run-carries x n limit 0 m) 0 _ (enter-carries false _ finish-carries 0 (α.opened r) [] α.chunks p) h
