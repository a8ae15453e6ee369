-- An accepted flat run taken apart: chunk by chunk, pass by pass, to a last round and a validation.
use Prim.Native.Nat.{ℕ, zero, suc, ◌<◌, ◌≤◌}
use native.Mathlib.Omega.{arith}
use mathlib.Core.Path.{◌≡◌, refl, sym, ap}
use mathlib.Core.Logic.{◌⊎◌, inl, inr}
use mathlib.Core.Bool.{Bool, true, false, cond, not, true≢false}
use mathlib.Core.Option.{Option, none, some}
use mathlib.Core.List.{List, [], ◌∷◌, ◌++◌, append_assoc, append-nil}
use Rattle.answers.specs.declared.Refusal.{Refusal}
use Rattle.definition.specs.Res.{Res, ok, bad}
use Rattle.definition.specs.Machine.{Seen, Machine, Final, Where, due, Ran, Analysis, accepted, refused, visit, adds, enter, finish, end_round, ending, onward, settle, settled, on_seen, takes, next, on_next, run, begun, check}
use Rattle.machine_laws.proofs.Steps.{Steps, stay, visited}

-- something holds of each chunk with its states
pub data Each {C D : Type 0} (P : C → D → Type 0) : List C → List D → Type 0 where
  none_left : Each P [] []
  one_more : {c : C} {d : D} {cs : List C} {ds : List D} → P c d → Each P cs ds → Each P (c ∷ cs) (d ∷ ds)

pub refused≢accepted : {R S : Type 0} {r : Refusal} {x : Final R S} {n : ℕ} → refused r ≡ accepted x n → ⊥
refused≢accepted h = let z : ◌≡◌ {A = ℕ} 0 1 = cc in omega arith

pub accepted-inj : {R S : Type 0} {x y : Final R S} {n m : ℕ} → accepted x n ≡ accepted y m → (x ≡ y) × (n ≡ m)
accepted-inj h = (cc, cc)

-- the machine, by its parts
abbrev pub machine : {C F S : Type 0} → Bool → ℕ → C → List C → List (List (Option S)) → F → List (Option S) → List ℕ → Machine C F S
machine v n c cs past f st q =
    record { validating = v; number = n; chunk = c; rest = cs; past = past; states = st; queue = q; facts = f }

module _ {C F R S G : Type 0} (α : Analysis C F R S G) where
  -- a chunk's run, in its mode
  abbrev pub Working : Bool → C → F → List (Option S) → List ℕ → F → List (Option S) → List ℕ → Type 0
  Working v c = Steps α.join α.room α.view (adds α v) (α.leaves v c)

  -- a pass over the chunks, from facts to facts, with the states of each
  pub data Sweep (v : Bool) : F → List C → F → List (List (Option S)) → Type 0 where
    swept : {f : F} → Sweep v f [] f []
    skip : {f f' : F} {c : C} {cs : List C} {sts : List (List (Option S))} → α.reachable c ≡ false → Sweep v f cs f' sts → Sweep v f (c ∷ cs) f' ([] ∷ sts)
    work : {f f₁ f' : F} {c : C} {cs : List C} {st : List (Option S)} {sts : List (List (Option S))} → α.reachable c ≡ true
        → Working v c f (α.start c (α.view f)) (0 ∷ []) f₁ st [] → (v ≡ true → α.after c st ≡ none) → Sweep v f₁ cs f' sts → Sweep v f (c ∷ cs) f' (st ∷ sts)

  -- the run from where it stands
  abbrev pub Goes : ℕ → ℕ → Where C F R S → Ran R S
  Goes left steps = on_next (λ m. run α left steps m) steps

  -- ---- the chunk at work
  pub record Worked (v : Bool) (n : ℕ) (c : C) (cs : List C) (past : List (List (Option S))) (f : F) (st : List (Option S)) (q : List ℕ) (left : ℕ)
      (a : Ran R S) : Type 0 where
    pub facts : F
    pub states : List (Option S)
    pub room : ℕ
    pub steps : ℕ
    pub ran : Working v c f st q facts states []
    pub less : room < left
    pub onwards : Goes room steps (settle α (machine v n c cs past facts states []) v) ≡ a

  module _ (v : Bool) (n : ℕ) (c : C) (cs : List C) (past : List (List (Option S))) (x : Final R S) (total : ℕ) where
    -- the run of the chunk at work from these facts, states and queue
    abbrev Chunk : ℕ → F → List (Option S) → List ℕ → Type 0
    Chunk left f st q = Worked v n c cs past f st q left (accepted x total)

    abbrev Runs : ℕ → ℕ → F → List (Option S) → List ℕ → Type 0
    Runs left steps f st q = run α left steps (machine v n c cs past f st q) ≡ accepted x total

    from_settled : (left steps : ℕ) → ((f : F) (st : List (Option S)) (q : List ℕ) → Runs left (suc steps) f st q → Chunk left f st q)
        → (f : F) (st : List (Option S)) (q : List ℕ)
        → Goes left (suc steps) (settled α (machine v n c cs past f st q) q) ≡ accepted x total → Chunk (suc left) f st q
    unfolding settled on_next
    from_settled left steps ih f st [] h = record { facts = f; states = st; room = left; steps = suc steps; ran = stay; less = omega arith; onwards = h }
    from_settled left steps ih f st (i ∷ q) h =
        let w = ih f st (i ∷ q) h in
        record { facts = w.facts; states = w.states; room = w.room; steps = w.steps; ran = w.ran; less = omega arith; onwards = w.onwards }

    from-seen : (left steps : ℕ) → ((f : F) (st : List (Option S)) (q : List ℕ) → Runs left (suc steps) f st q → Chunk left f st q)
        → (f : F) (st : List (Option S)) (i : ℕ) (q : List ℕ) (a : Res (Seen F S)) → visit α.join α.room α.view (adds α v) (α.leaves v c) f st q i ≡ a
        → Goes left (suc steps) (on_seen α (machine v n c cs past f st (i ∷ q)) i a) ≡ accepted x total → Chunk (suc left) f st (i ∷ q)
    unfolding on_seen on_next
    from-seen left steps ih f st i q (bad k) e h = absurd (refused≢accepted h)
    from-seen left steps ih f st i q (ok r) e h =
        let w = from_settled left steps ih r.facts r.work.states r.work.queue h in
        record {
          facts = w.facts;
          states = w.states;
          room = w.room;
          steps = w.steps;
          ran = visited α.join α.room α.view (adds α v) (α.leaves v c) r e w.ran;
          less = w.less;
          onwards = w.onwards;
        }

    -- an accepted run is a run of the chunk at work, and then goes on from where that settles
    pub chunk-ran : (left steps : ℕ) (f : F) (st : List (Option S)) (q : List ℕ) → Runs left steps f st q → Chunk left f st q
    unfolding run next takes
    chunk-ran zero steps f st q h = absurd (refused≢accepted h)
    chunk-ran (suc left) steps f st [] h = record { facts = f; states = st; room = left; steps = suc steps; ran = stay; less = omega arith; onwards = h }
    chunk-ran (suc left) steps f st (i ∷ q) h =
        from-seen left steps (chunk-ran left (suc steps)) f st i q (visit α.join α.room α.view (adds α v) (α.leaves v c) f st q i) refl h

  -- ---- a pass over the chunks
  -- some chunk is reachable
  busy : List C → Bool
  busy [] = false
  busy (c ∷ cs) = cond (α.reachable c) true (busy cs)

  record Passed (v : Bool) (f : F) (past : List (List (Option S))) (cs : List C) (left : ℕ) (a : Ran R S) : Type 0 where
    facts : F
    states : List (List (Option S))
    room : ℕ
    steps : ℕ
    ran : Sweep v f cs facts states
    most : room ≤ left
    less : busy cs ≡ true → room < left
    onwards : Goes room steps (ending α v facts (past ++ states)) ≡ a

  settled_on : (v : Bool) (n : ℕ) (c : C) (cs : List C) (past : List (List (Option S))) (f : F) (st : List (Option S)) (left steps : ℕ) (x : Final R S) (total : ℕ)
      → Goes left steps (settle α (machine v n c cs past f st []) v) ≡ accepted x total
      → (v ≡ true → α.after c st ≡ none) × (Goes left steps (enter α v (ending α v) (suc n) f (past ++ (st ∷ [])) cs) ≡ accepted x total)
  unfolding settle onward on_next
  settled_on true n c cs past f st left steps x total h = go (α.after c st) refl h
    where
      go : (o : Option (ℕ × ℕ)) → α.after c st ≡ o → Goes left steps (onward α (machine true n c cs past f st []) o) ≡ accepted x total
          → (true ≡ true → α.after c st ≡ none) × (Goes left steps (enter α true (ending α true) (suc n) f (past ++ (st ∷ [])) cs) ≡ accepted x total)
      go (some y) e h = absurd (refused≢accepted h)
      go none e h = (λ u. e, h)
  settled_on false n c cs past f st left steps x total h = (λ e. absurd (true≢false (sym e)), h)

  module _ (v : Bool) (x : Final R S) (total : ℕ) where
    abbrev Enters : ℕ → ℕ → ℕ → F → List (List (Option S)) → List C → Type 0
    Enters left steps n f past cs = Goes left steps (enter α v (ending α v) n f past cs) ≡ accepted x total

    enter_one : (n : ℕ) (f : F) (past : List (List (Option S))) (c : C) (cs : List C) (left steps : ℕ)
        → ((n : ℕ) (f : F) (past : List (List (Option S))) (left steps : ℕ) → Enters left steps n f past cs → Passed v f past cs left (accepted x total))
        → (b : Bool) → α.reachable c ≡ b
        → Goes left steps (cond b (due (machine v n c cs past f (α.start c (α.view f)) (0 ∷ []))) (enter α v (ending α v) (suc n) f (past ++ ([] ∷ [])) cs)) ≡ accepted x total
        → Passed v f past (c ∷ cs) left (accepted x total)
    unfolding on_next busy
    enter_one n f past c cs left steps ih true e h =
        let w = chunk-ran v n c cs past x total left steps f (α.start c (α.view f)) (0 ∷ []) h in
        let (none_after, h₁) = settled_on v n c cs past w.facts w.states w.room w.steps x total w.onwards in
        let p = ih (suc n) w.facts (past ++ (w.states ∷ [])) w.room w.steps h₁ in
        record {
          facts = p.facts;
          states = w.states ∷ p.states;
          room = p.room;
          steps = p.steps;
          ran = work e w.ran none_after p.ran;
          most = omega arith;
          less = λ u. omega arith;
          onwards = rw append_assoc at p.onwards;
        }
    enter_one n f past c cs left steps ih false e h =
        let p = ih (suc n) f (past ++ ([] ∷ [])) left steps h in
        record {
          facts = p.facts;
          states = [] ∷ p.states;
          room = p.room;
          steps = p.steps;
          ran = skip e p.ran;
          most = p.most;
          less = λ u. p.less (rw e at u);
          onwards = rw append_assoc at p.onwards;
        }

    pass-ran : (n : ℕ) (f : F) (past : List (List (Option S))) (cs : List C) (left steps : ℕ) → Enters left steps n f past cs → Passed v f past cs left (accepted x total)
    unfolding enter busy
    pass-ran n f past [] left steps h = record {
      facts = f;
      states = [];
      room = left;
      steps = steps;
      ran = swept;
      most = omega arith;
      less = λ u. absurd (true≢false (sym u));
      onwards = rw append-nil h;
    }
    pass-ran n f past (c ∷ cs) left steps h = enter_one n f past c cs left steps (λ n f past left steps. pass-ran n f past cs left steps) (α.reachable c) refl h

  -- ---- rounds and validation
  -- no chunk is reachable, and none has states
  abbrev pub Idle : List C → List (List (Option S)) → Type 0
  Idle = Each (λ c st. (α.reachable c ≡ false) × (st ≡ []))

  -- the last round, whose facts did not move, and validation
  pub record Apart (x : Final R S) : Type 0 where
    pub from : R
    pub last : F
    pub found : List (List (Option S))
    pub facts : F
    pub round : Sweep false (α.opened from) α.chunks last found
    pub low : α.moved last ≡ false
    pub validation : Sweep true (α.opened (α.closed last)) α.chunks facts x.states
    pub reads : α.view facts ≡ x.facts

  -- where a chunk is reachable the end does not matter yet; where none is it comes at once
  enter-busy : (v : Bool) (end end' : F → List (List (Option S)) → Where C F R S) (n : ℕ) (f : F) (past : List (List (Option S))) (cs : List C) → busy cs ≡ true
      → enter α v end n f past cs ≡ enter α v end' n f past cs
  unfolding enter busy
  enter-busy v end end' n f past [] h = absurd (true≢false (sym h))
  enter-busy v end end' n f past (c ∷ cs) h = go (α.reachable c) h (enter-busy v end end' (suc n) f (past ++ ([] ∷ [])) cs)
    where
      w : Where C F R S
      w = due (machine v n c cs past f (α.start c (α.view f)) (0 ∷ []))

      go : (b : Bool) → cond b true (busy cs) ≡ true
          → (busy cs ≡ true → enter α v end (suc n) f (past ++ ([] ∷ [])) cs ≡ enter α v end' (suc n) f (past ++ ([] ∷ [])) cs)
          → cond b w (enter α v end (suc n) f (past ++ ([] ∷ [])) cs) ≡ cond b w (enter α v end' (suc n) f (past ++ ([] ∷ [])) cs)
      go true h ih = refl
      go false h ih = ih h

  enter-idle : (v : Bool) (end : F → List (List (Option S)) → Where C F R S) (n : ℕ) (f : F) (past : List (List (Option S))) (cs : List C) → busy cs ≡ false
      → (sts : List (List (Option S))) × Idle cs sts × (enter α v end n f past cs ≡ end f (past ++ sts))
  unfolding enter busy
  enter-idle v end n f past [] h = ([], none_left, rw append-nil)
  enter-idle v end n f past (c ∷ cs) h = go (α.reachable c) refl h (enter-idle v end (suc n) f (past ++ ([] ∷ [])) cs)
    where
      w : Where C F R S
      w = due (machine v n c cs past f (α.start c (α.view f)) (0 ∷ []))

      go : (b : Bool) → α.reachable c ≡ b → cond b true (busy cs) ≡ false
          → (busy cs ≡ false → (sts : List (List (Option S))) × Idle cs sts × (enter α v end (suc n) f (past ++ ([] ∷ [])) cs ≡ end f ((past ++ ([] ∷ [])) ++ sts)))
          → (sts : List (List (Option S))) × Idle (c ∷ cs) sts × (cond b w (enter α v end (suc n) f (past ++ ([] ∷ [])) cs) ≡ end f (past ++ sts))
      go true e h ih = absurd (true≢false h)
      go false e h ih = let (sts, a, p) = ih h in ([] ∷ sts, one_more (e, refl) a, rw append_assoc at p)

  apart : (r : R) (f : F) (sts : List (List (Option S))) (f' : F) (sts' : List (List (Option S))) (x : Final R S) → Sweep false (α.opened r) α.chunks f sts → α.moved f ≡ false
      → Sweep true (α.opened (α.closed f)) α.chunks f' sts' → record { facts = α.view f'; states = sts' } ≡ x → Apart x
  apart r f sts f' sts' x s e s' ex = record {
    from = r;
    last = f;
    found = sts;
    facts = f';
    round = s;
    low = e;
    validation = rw (← ex) s';
    reads = ap (λ y. y.facts) ex;
  }

  -- each round takes a step, so the rounds come to an end
  rounds-apart : (bound left steps : ℕ) → left < bound → busy α.chunks ≡ true → (r : R) (x : Final R S) (total : ℕ)
      → Goes left steps (enter α false (ending α false) 0 (α.opened r) [] α.chunks) ≡ accepted x total → Apart x
  unfolding ending end_round finish on_next
  rounds-apart zero left steps l u r x total h = absurd (omega arith)
  rounds-apart (suc bound) left steps l u r x total h =
      let p = pass-ran false x total 0 (α.opened r) [] α.chunks left steps h in
      let m = p.less u in
      go (rounds-apart bound) p.facts p.states p.room p.steps (omega arith) p.ran (α.moved p.facts) refl p.onwards
    where
      go : ((left steps : ℕ) → left < bound → busy α.chunks ≡ true → (r : R) (x : Final R S) (total : ℕ)
          → Goes left steps (enter α false (ending α false) 0 (α.opened r) [] α.chunks) ≡ accepted x total → Apart x)
          → (f : F) (sts : List (List (Option S))) (room steps : ℕ) → room < bound → Sweep false (α.opened r) α.chunks f sts → (b : Bool) → α.moved f ≡ b
          → Goes room steps (enter α (not b) (finish α) 0 (α.opened (α.closed f)) [] α.chunks) ≡ accepted x total → Apart x
      go ih f sts room steps l s true e h = ih room steps l u (α.closed f) x total (rw (enter-busy false (finish α) (ending α false) 0 (α.opened (α.closed f)) [] α.chunks u) at h)
      go ih f sts room steps l s false e h =
          let p = pass-ran true x total 0 (α.opened (α.closed f)) [] α.chunks room steps (rw (enter-busy true (finish α) (ending α true) 0 (α.opened (α.closed f)) [] α.chunks u) at h) in
          apart r f sts p.facts p.states x s e p.ran (accepted-inj p.onwards).0

  -- an accepted check: no chunk is reachable, or a last round and validation
  pub check-apart : (limit : ℕ) (r : R) (x : Final R S) (n : ℕ) → check α limit r ≡ accepted x n → Idle α.chunks x.states ⊎ Apart x
  unfolding check begun finish on_next
  check-apart limit r x n h = go (busy α.chunks) refl
    where
      go : (b : Bool) → busy α.chunks ≡ b → Idle α.chunks x.states ⊎ Apart x
      go true u = inr (rounds-apart (suc limit) limit 0 (omega arith) u r x n (rw (enter-busy false (finish α) (ending α false) 0 (α.opened r) [] α.chunks u) at h))
      go false u =
          let (sts, a, p) = enter-idle false (finish α) 0 (α.opened r) [] α.chunks u in
          let ex : record { facts = α.view (α.opened r); states = sts } ≡ x = (accepted-inj (rw p at h)).0 in
          inl (rw (← ex) a)
