-- Every taking makes what a run has left smaller: with that much room and that many steps a check is refused neither by 7 nor by 8. Over any
-- state, facts, join and rule.
use Prim.Native.Nat.{ℕ, zero, suc, ◌+◌, ◌*◌, ◌<◌, ◌≤◌}
use native.Mathlib.Nat.{suc-mul, mul-le-mul_right}
use native.Mathlib.Omega.{arith}
use mathlib.Core.Path.{◌≡◌, refl, ap}
use mathlib.Core.Bool.{Bool, true, false, cond, not}
use mathlib.Core.Option.{Option, none, some}
use mathlib.Core.List.{List, [], ◌∷◌, ◌++◌}
use lib.ListN.{length, get_or}
use Rattle.definition.specs.Res.{Res, ok, bad}
use Rattle.definition.specs.Machine.{Joined, Seen, Machine, Where, due, done, stop, Ran, Analysis, puts, visit_at, visit, adds, enter, finish, end_round, ending, onward, settle, settled, on_seen, takes, next, on_next, run, begun, check}
use Rattle.machine_laws.proofs.All.{All, nil, cons, all-get, Opt}
use Rattle.machine_laws.proofs.Carry.{Keeps}
use Rattle.refusal_laws.proofs.Only.{OfRes, OfPlace, OfRan}
use Rattle.termination.specs.Left.{total, place_left, work_left, chunk_most, pass_most, passes_left}
use Rattle.termination.specs.Enough.{Otherwise}
use Rattle.termination.proofs.Totals.{total-most}
use Rattle.termination.proofs.Works.{Fares, fares-bind, fares-of, WorkOk, puts-fares}

-- ---- passes
pub passes-most : (v : Bool) (pass : ℕ) {a b : ℕ} → a ≤ b → passes_left v pass a ≤ passes_left v pass b
unfolding passes_left
passes-most true pass l = omega arith
passes-most false pass {a} {b} l = mul-le-mul_right (suc pass) (let m : suc a ≤ suc b = omega arith in m)

-- a round that moved the facts is followed by a pass with fewer changes left
passes-more : (pass : ℕ) {a b : ℕ} → a < b → pass + passes_left false pass a ≤ passes_left false pass b
unfolding passes_left
passes-more pass {a} {b} l =
    let m : suc (suc a) * suc pass ≤ suc b * suc pass = mul-le-mul_right (suc pass) (omega arith) in
    let e = suc-mul (suc a) (suc pass) in
    omega arith

passes-last : (pass a : ℕ) → pass + passes_left true pass a ≤ passes_left false pass a
unfolding passes_left
passes-last pass a = let e = suc-mul a (suc pass) in omega arith

module _ {C F R S G : Type 0} (α : Analysis C F R S G) where
  -- what makes a run end: a join that changes a state leaves less of it, a gift leaves no more changes of the facts, a round that moved the
  -- facts leaves fewer; and no rule refuses by 7 or 8
  pub record Ends (P : S → Type 0) (Q : R → Type 0) (L : F → Type 0) (T : G → Type 0) (K : C → Type 0)
      (left : S → ℕ) (most : ℕ) (changes : F → ℕ) (places : C → ℕ) : Type 0 where
    pub keeps : Keeps α P Q L T K
    pub falls : (s x : S) (j : Joined S) → α.join s x ≡ ok j → P s → P x → j.changed ≡ true → left j.value < left s
    pub small : (s : S) → P s → left s ≤ most
    pub places-are : (c : C) (r : R) → length (α.start c r) ≤ places c
    pub fades : (f : F) (g : G) → L f → T g → changes (α.absorb f g) ≤ changes f
    pub moves : (f : F) → L f → α.moved f ≡ true → changes (α.opened (α.closed f)) < changes f
    pub stays : (f : F) → L f → changes (α.opened (α.closed f)) ≤ changes f
    pub joins : (s x : S) → OfRes Otherwise (α.join s x)
    pub rules : (v : Bool) (c : C) (r : R) (i : ℕ) (s : S) → OfRes Otherwise (α.leaves v c r i s)
    pub follows : (c : C) (st : List (Option S)) → OfPlace Otherwise (α.after c st)

  module _ (P : S → Type 0) (Q : R → Type 0) (L : F → Type 0) (T : G → Type 0) (K : C → Type 0)
      (left : S → ℕ) (most : ℕ) (changes : F → ℕ) (places : C → ℕ) (ends : Ends P Q L T K left most changes places) (all : All K α.chunks)
      (room : pass_most places most α.chunks ≤ α.room) where
    abbrev pass : ℕ
    pass = pass_most places most α.chunks

    -- ---- what a machine has left
    abbrev rest_left : Bool → F → List C → ℕ
    rest_left v f cs = pass_most places most cs + passes_left v pass (changes f)

    record MachineOk (m : Machine C F S) : Type 0 where
      reached : α.reachable m.chunk ≡ true
      chunk-ok : K m.chunk
      rest_ok : All K m.rest
      facts-ok : L m.facts
      states-ok : All (Opt P) m.states
      work-fits : work_left left most m.states m.queue ≤ α.room
      rest-fits : pass_most places most m.rest ≤ α.room

    abbrev machine_left : Machine C F S → ℕ
    machine_left m = work_left left most m.states m.queue + rest_left m.validating m.facts m.rest

    -- an entry is due and at most k is left
    abbrev Below : ℕ → Where C F R S → Type 0
    Below k (due m) = MachineOk m × (0 < length m.queue) × (machine_left m ≤ k)
    Below k (done x) = Unit {0}
    Below k (stop x) = Otherwise x.number

    -- ---- between two takings
    begins : (c : C) (r : R) → K c → Q r → work_left left most (α.start c r) (0 ∷ []) ≤ chunk_most places most c
    unfolding work_left chunk_most place_left
    begins c r k q =
        let a : All (λ o. place_left left most o ≤ suc most) (α.start c r) = each (ends.keeps.starts c r k q) in
        let t = total-most (place_left left most) (suc most) a in
        let u = mul-le-mul_right (suc most) (ends.places-are c r) in
        omega arith
      where
        each : {os : List (Option S)} → All (Opt P) os → All (λ o. place_left left most o ≤ suc most) os
        each nil = nil
        each (cons {x = none} p a) = cons {x = none} (omega arith) (each a)
        each (cons {x = some s} p a) = cons {x = some s} (let l = ends.small s p in omega arith) (each a)

    enter-below : (k : ℕ) (v : Bool) (end : F → List (List (Option S)) → Where C F R S) (n : ℕ) (f : F) (past : List (List (Option S))) (cs : List C)
        → ((past : List (List (Option S))) → Below k (end f past)) → L f → All K cs → pass_most places most cs ≤ α.room → rest_left v f cs ≤ k
        → Below k (enter α v end n f past cs)
    unfolding enter pass_most total
    enter-below k v end n f past [] h p a r l = h past
    enter-below k v end n f past (c ∷ cs) h p (cons q a) r l =
        go (α.reachable c) refl (enter-below k v end (suc n) f (past ++ ([] ∷ [])) cs h p a (omega arith) (omega arith))
      where
        w : Where C F R S
        w = enter α v end (suc n) f (past ++ ([] ∷ [])) cs

        go : (b : Bool) → α.reachable c ≡ b → Below k w
            → Below k (cond b (due (record { validating = v; number = n; chunk = c; rest = cs; past = past; states = α.start c (α.view f); queue = 0 ∷ []; facts = f })) w)
        go true e u =
            let g = begins c (α.view f) q (ends.keeps.viewed f p) in (
              record {
                reached = e;
                chunk-ok = q;
                rest_ok = a;
                facts-ok = p;
                states-ok = ends.keeps.starts c (α.view f) q (ends.keeps.viewed f p);
                work-fits = omega arith;
                rest-fits = omega arith;
              },
              omega arith,
              omega arith,
            )
        go false e u = u

    ending-below : (k : ℕ) (v : Bool) (f : F) (past : List (List (Option S))) → L f → passes_left v pass (changes f) ≤ k
        → Below k (ending α v f past)
    unfolding ending end_round finish
    ending-below k true f past h l = tt
    ending-below k false f past h l =
        enter-below k (not (α.moved f)) _ 0 (α.opened (α.closed f)) [] α.chunks (λ p. tt) (ends.keeps.opened (α.closed f) (ends.keeps.closes f h)) all room (go (α.moved f) refl)
      where
        go : (b : Bool) → α.moved f ≡ b → rest_left (not b) (α.opened (α.closed f)) α.chunks ≤ k
        go true e = let u = passes-more pass (ends.moves f h e) in omega arith
        go false e =
            let u = passes-last pass (changes (α.opened (α.closed f))) in
            let t = passes-most false pass (ends.stays f h) in
            omega arith

    onward-below : (k : ℕ) (m : Machine C F S) (o : Option (ℕ × ℕ)) → OfPlace Otherwise o → MachineOk m → rest_left m.validating m.facts m.rest ≤ k
        → Below k (onward α m o)
    unfolding onward
    onward-below k m (some x) p h l = p
    onward-below k m none p h l =
        enter-below k m.validating _ (suc m.number) m.facts (m.past ++ (m.states ∷ [])) m.rest
        (λ past. ending-below k m.validating m.facts past h.facts-ok (omega arith)) h.facts-ok h.rest_ok h.rest-fits l

    settle-below : (k : ℕ) (m : Machine C F S) (v : Bool) → MachineOk m → rest_left m.validating m.facts m.rest ≤ k
        → Below k (settle α m v)
    unfolding settle
    settle-below k m true h l = onward-below k m _ (ends.follows m.chunk m.states) h l
    settle-below k m false h l = onward-below k m none tt h l

    settled-below : (k : ℕ) (m : Machine C F S) (q : List ℕ) → m.queue ≡ q → MachineOk m → machine_left m ≤ k → Below k (settled α m q)
    unfolding settled
    settled-below k m [] e h l = settle-below k m m.validating h (omega arith)
    settled-below k m (i ∷ q) e h l = (h, rw e (omega arith), l)

    -- ---- one taking
    record SeenOk (v : Bool) (f : F) (k : ℕ) (r : Seen F S) : Type 0 where
      facts-ok : L r.facts
      fades : changes r.facts ≤ changes f
      work : WorkOk P left most k r.work

    adds-ok : (v : Bool) (f : F) (g : G) → L f → T g → L (adds α v f g) × (changes (adds α v f g) ≤ changes f)
    unfolding adds
    adds-ok true f g h t = (h, omega arith)
    adds-ok false f g h t = (ends.keeps.absorbs f g h t, ends.fades f g h t)

    visit-fares : (v : Bool) (c : C) (f : F) (st : List (Option S)) (q : List ℕ) (i : ℕ) (o : Option S) (k : ℕ) → k ≤ α.room
        → α.reachable c ≡ true → K c → L f → Opt P o → WorkOk P left most k (record { states = st; queue = q })
        → Fares (SeenOk v f k) (visit_at α.join α.room α.view (adds α v) (α.leaves v c) f st q i o)
    unfolding visit_at
    visit-fares v c f st q i none k n u a h p w = record { facts-ok = h; fades = omega arith; work = w }
    visit-fares v c f st q i (some s) k n u a h p w =
        fares-bind (λ e. Unit {0}) (SeenOk v f k) (α.leaves v c (α.view f) i s) _ (fares-of (α.leaves v c (α.view f) i s) (ends.rules v c (α.view f) i s)) λ e l z.
        let (ways, gift) = ends.keeps.left v c (α.view f) i s e l u a (ends.keeps.viewed f h) p in
        let (kept, less) = adds-ok v f e.gives h gift in
        fares-bind (WorkOk P left most k) (SeenOk v f k) (puts α.join α.room (record { states = st; queue = q }) e.ways) _
        (puts-fares P left most α.join α.room ends.keeps.joined ends.falls ends.small ends.joins k n (record { states = st; queue = q }) e.ways w ways)
        λ x d y. record { facts-ok = kept; fades = less; work = y }

    seen_below : (k n : ℕ) (m : Machine C F S) (i : ℕ) (o : Res (Seen F S)) → Fares (SeenOk m.validating m.facts n) o → n ≤ α.room → MachineOk m
        → n + rest_left m.validating m.facts m.rest ≤ k → Below k (on_seen α m i o)
    unfolding on_seen
    seen_below k n m i (bad x) p c h l = p
    seen_below k n m i (ok r) p c h l =
        let u = p.work.within in
        let t = passes-most m.validating pass p.fades in
        settled-below k _ r.work.queue refl
        (record {
          reached = h.reached;
          chunk-ok = h.chunk-ok;
          rest_ok = h.rest_ok;
          facts-ok = p.facts-ok;
          states-ok = p.work.states;
          work-fits = omega arith;
          rest-fits = h.rest-fits;
        })
        (omega arith)

    -- what is left after a taking is less than before
    takes-below : (k : ℕ) (m : Machine C F S) (q : List ℕ) → m.queue ≡ q → 0 < length q → MachineOk m → machine_left m ≤ suc k
        → Below k (takes α m q)
    unfolding takes visit work_left
    takes-below k m [] e w h l = absurd (omega arith)
    takes-below k m (i ∷ q) e w h l =
        let z : length m.queue ≡ suc (length q) = ap length e in
        let c : suc (work_left left most m.states q) ≤ α.room = let u = h.work-fits in omega arith in
        seen_below k (work_left left most m.states q) m i _
        (visit-fares m.validating m.chunk m.facts m.states q i (get_or m.states i none) _ (omega arith) h.reached h.chunk-ok h.facts-ok
        (all-get (Opt P) i {d = none} tt h.states-ok) (record { states = h.states-ok; within = omega arith }))
        (omega arith) h (omega arith)

    next-ends : (k : ℕ) (more : Machine C F S → Ran R S) → ((m : Machine C F S) → Below k (due m) → OfRan Otherwise (more m)) → (steps : ℕ) (w : Where C F R S)
        → Below k w → OfRan Otherwise (on_next more steps w)
    unfolding on_next
    next-ends k more h steps (due m) b = h m b
    next-ends k more h steps (done x) b = tt
    next-ends k more h steps (stop x) b = b

    run_ends : (limit steps : ℕ) (m : Machine C F S) → Below limit (due m) → OfRan Otherwise (run α limit steps m)
    unfolding run next work_left
    run_ends zero steps m (h, w, l) = absurd (omega arith)
    run_ends (suc limit) steps m (h, w, l) =
        next-ends limit _ (λ n b. run_ends limit (suc steps) n b) (suc steps) _ (takes-below limit m m.queue refl w h l)

    -- THEOREM: from this room and limit on a check is refused neither by 7 nor by 8
    pub check-ends : (limit : ℕ) (r : R) → Q r → pass + passes_left false pass (changes (α.opened r)) ≤ limit
        → OfRan Otherwise (check α limit r)
    unfolding check begun finish
    check-ends limit r q l =
        next-ends limit _ (λ m b. run_ends limit 0 m b) 0 _
        (enter-below limit false _ 0 (α.opened r) [] α.chunks (λ p. tt) (ends.keeps.opened r q) all room l)
