-- THEOREM: a run is refused by 8 exactly where a taking has to put an entry into a full queue; and so is a call, of 7 too.
use Prim.Native.Nat.{ℕ, zero, suc, ◌-◌, ◌<◌, ◌≤◌}
use native.Mathlib.Omega.{arith}
use mathlib.Core.Path.{◌≡◌, refl, sym, ◌∙◌, ap}
use mathlib.Core.Logic.{◌⊎◌, inl, inr, ◌↔◌}
use mathlib.Core.Bool.{Bool, true, false}
use mathlib.Core.Option.{Option, none, some}
use mathlib.Core.List.{List, [], ◌∷◌, ◌++◌}
use lib.Dec.{ltb}
use lib.ListN.{length, get_or}
use borrow.Author.Tests.{ltb-true, ltb-false}
use Rattle.std.specs.Prelude.{Ok, Err}
use Rattle.answers.specs.declared.Refusal.{Refusal}
use Rattle.answers.specs.Answers.{refusal}
use Rattle.definition.specs.Res.{Res, ok, bad, bind}
use Rattle.definition.specs.Machine.{Joined, Effect, Work, Seen, Machine, Where, due, done, stop, Stop, Analysis, refused, halt, put, puts, visit_at, visit, adds, finish, on_seen, takes, next, begun, check}
use Rattle.definition.specs.Module.{Module, module_of}
use Rattle.definition.specs.State.{Facts, join}
use Rattle.definition.specs.Leaves.{Known}
use Rattle.definition.specs.Form.{form_of}
use Rattle.definition.specs.Start.{first_facts, known_of}
use Rattle.definition.specs.Call.{analysis_of, run_of, call}
use Rattle.machine_laws.proofs.Bind.{bad≢ok, bad-inj, ok-inj, bind-use}
use Rattle.machine_laws.specs.Takings.{Due, after-takings, Counted, Spent}
use Rattle.machine_laws.specs.Full.{Full}
use Rattle.machine_laws.proofs.Takings.{done≢due, stop≢due, takings-due, due-before, refused-counted, counted-refused, spent-refused}
use Rattle.machine_laws.proofs.Queued.{due-queued}
use Rattle.machine_laws.proofs.Limits.{full-exactly}
use Rattle.refusal_laws.proofs.Only.{OfRes, OfPlace, OfWhere}
use Rattle.refusal_laws.proofs.Runs.{enter-of, settled-of}
use Rattle.consistent.proofs.Refusals.{seven-exactly}
use Rattle.termination.specs.Full.{FullAt, Filled}
use Rattle.termination.proofs.Late.{join-late, leaves-late, after-late}
use Rattle.termination.proofs.Turned.{Runs, run_for, Stopped, Answered, decided-run, run-decided, call-decided, decided-call}

refusal-eq : (ρ : Refusal) (a b c d : ℕ) → ρ.number ≡ a → ρ.chunk ≡ b → ρ.instruction ≡ c → ρ.steps ≡ d → ρ ≡ refusal a b c d
refusal-eq ρ a b c d p q r s = λ i. refusal (p i) (q i) (r i) (s i)

abbrev Not8 : ℕ → Type 0
Not8 n = n ≡ 8 → ⊥

-- ---- the ways of one visit
module _ {S : Type 0} (join : S → S → Res (Joined S)) (cap : ℕ) (joins : (s x : S) → OfRes Not8 (join s x)) where
  put-exactly : (w : Work S) (o : ℕ × S) → put join cap w o ≡ bad 8 ↔ Full join cap w o
  put-exactly = full-exactly join cap (λ s x e. (rw e at (joins s x)) refl)

  -- the first way that finds the queue full, with what was put before
  pub record FullWay (w : Work S) (os : List (ℕ × S)) : Type 0 where
    pub before : List (ℕ × S)
    pub way : ℕ × S
    pub behind : List (ℕ × S)
    pub ways : os ≡ before ++ (way ∷ behind)
    pub work : Work S
    pub came : puts join cap w before ≡ ok work
    pub full : Full join cap work way

  puts-full : (w : Work S) (os : List (ℕ × S)) → puts join cap w os ≡ bad 8 → FullWay w os
  unfolding puts
  puts-full w [] h = absurd (bad≢ok (sym h))
  puts-full w (o ∷ os) h = go (put join cap w o) refl h (λ v e. puts-full v os e)
    where
      go : (r : Res (Work S)) → put join cap w o ≡ r → bind r (λ v. puts join cap v os) ≡ bad 8 → ((v : Work S) → puts join cap v os ≡ bad 8 → FullWay v os)
          → FullWay w (o ∷ os)
      go (bad n) e h k =
          let z : n ≡ 8 = bad-inj h in
          record { before = []; way = o; behind = os; ways = refl; work = w; came = refl; full = (put-exactly w o).0 (rw z at e) }
      go (ok v) e h k =
          let f = k v h in
          record {
            before = o ∷ f.before;
            way = f.way;
            behind = f.behind;
            ways = ap (λ (l : List (ℕ × S)). o ∷ l) f.ways;
            work = f.work;
            came = rw e f.came;
            full = f.full;
          }

  full-puts : (w v : Work S) (before : List (ℕ × S)) (o : ℕ × S) (behind : List (ℕ × S)) → puts join cap w before ≡ ok v → Full join cap v o
      → puts join cap w (before ++ (o ∷ behind)) ≡ bad 8
  unfolding puts
  full-puts w v [] o behind e f =
      let z : put join cap w o ≡ bad 8 = rw (ok-inj e) ((put-exactly v o).1 f) in
      rw z
  full-puts w v (b ∷ before) o behind e f = bind-use (put join cap w b) _ e λ u p q. rw p (full-puts u v before o behind q f)

-- ---- a run
module _ {C F R S G : Type 0} (α : Analysis C F R S G) where
  -- one more taking
  after_next : (n : ℕ) (w : Where C F R S) (m : Machine C F S) → after-takings α n w ≡ due m → after-takings α (suc n) w ≡ next α m
  unfolding after-takings
  after_next zero (due x) m e = ap (after-takings α 1) e
  after_next zero (done x) m e = absurd (done≢due e)
  after_next zero (stop x) m e = absurd (stop≢due e)
  after_next (suc n) (due x) m e = after_next n (next α x) m e
  after_next (suc n) (done x) m e = absurd (done≢due e)
  after_next (suc n) (stop x) m e = absurd (stop≢due e)

  module _ (joins : (s x : S) → OfRes Not8 (α.join s x)) (follows : (c : C) (st : List (Option S)) → OfPlace Not8 (α.after c st))
      (rules : (v : Bool) (c : C) (r : R) (i : ℕ) (s : S) → OfRes Not8 (α.leaves v c r i s)) where
    stop-inj : {x y : Stop} → ◌≡◌ {A = Where C F R S} (stop x) (stop y) → x ≡ y
    stop-inj h = cc

    not-halt : {w : Where C F R S} {x : Stop} → w ≡ stop x → OfWhere Not8 w → x.number ≡ 8 → ⊥
    not-halt e o z = (rw e at o) z

    -- what a visit that is refused by 8 has met
    visit-full : (m : Machine C F S) (i : ℕ) (q : List ℕ) (o : Option S) → m.queue ≡ i ∷ q → get_or m.states i none ≡ o
        → visit_at α.join α.room α.view (adds α m.validating) (α.leaves m.validating m.chunk) m.facts m.states q i o ≡ bad 8 → (f : FullAt α m) × (f.entry ≡ i)
    unfolding visit_at
    visit-full m i q none z e h = absurd (bad≢ok (sym h))
    visit-full m i q (some s) z e h = ruled (α.leaves m.validating m.chunk (α.view m.facts) i s) refl h
      where
        w : Work S
        w = record { states = m.states; queue = q }

        put_all : (x : Effect S G) → α.leaves m.validating m.chunk (α.view m.facts) i s ≡ ok x → (r : Res (Work S)) → puts α.join α.room w x.ways ≡ r
            → bind {B = Seen F S} r (λ v. ok (record { facts = adds α m.validating m.facts x.gives; work = v })) ≡ bad 8 → (f : FullAt α m) × (f.entry ≡ i)
        put_all x l (ok v) p h = absurd (bad≢ok (sym h))
        put_all x l (bad n) p h =
            let k : n ≡ 8 = bad-inj h in
            let f = puts-full α.join α.room joins w x.ways (rw k at p) in (
              record {
                entry = i;
                others = q;
                queued = z;
                state = s;
                recorded = e;
                effect = x;
                rule = l;
                before = f.before;
                way = f.way;
                behind = f.behind;
                ways = f.ways;
                work = f.work;
                came = f.came;
                full = f.full;
              },
              refl,
            )

        ruled : (r : Res (Effect S G)) → α.leaves m.validating m.chunk (α.view m.facts) i s ≡ r
            → bind {B = Seen F S} r (λ x. bind (puts α.join α.room w x.ways) (λ v. ok (record { facts = adds α m.validating m.facts x.gives; work = v }))) ≡ bad 8
            → (f : FullAt α m) × (f.entry ≡ i)
        ruled (bad n) l h =
            let k : n ≡ 8 = bad-inj h in
            absurd ((rw l at (rules m.validating m.chunk (α.view m.facts) i s)) k)
        ruled (ok x) l h = put_all x l (puts α.join α.room w x.ways) refl h

    full-visit : (m : Machine C F S) (f : FullAt α m)
        → visit α.join α.room α.view (adds α m.validating) (α.leaves m.validating m.chunk) m.facts m.states f.others f.entry ≡ bad 8
    unfolding visit visit_at
    full-visit m f = rw (f.recorded, f.rule, f.ways, full-puts α.join α.room joins _ f.work f.before f.way f.behind f.came f.full)

    next-full : (m : Machine C F S) (i : ℕ) (q : List ℕ) (n c j : ℕ) → m.queue ≡ i ∷ q → next α m ≡ halt n c j → n ≡ 8
        → (f : FullAt α m) × (c ≡ m.number) × (j ≡ f.entry)
    unfolding next takes visit on_seen
    next-full m i q n c j z h e = seen (visit_at α.join α.room α.view (adds α m.validating) (α.leaves m.validating m.chunk) m.facts m.states q i (get_or m.states i none)) refl
        (ap (takes α m) (sym z) ∙ h)
      where
        here : (c ≡ m.number) → (j ≡ i) → (f : FullAt α m) × (f.entry ≡ i) → (f : FullAt α m) × (c ≡ m.number) × (j ≡ f.entry)
        here a b (f, p) = (f, a, b ∙ sym p)

        seen : (o : Res (Seen F S)) → visit_at α.join α.room α.view (adds α m.validating) (α.leaves m.validating m.chunk) m.facts m.states q i (get_or m.states i none) ≡ o
            → on_seen α m i o ≡ halt n c j → (f : FullAt α m) × (c ≡ m.number) × (j ≡ f.entry)
        seen (ok r) p h = absurd (not-halt h (settled-of α Not8 follows _ r.work.queue) e)
        seen (bad k) p h =
            let x = stop-inj h in
            let k8 : k ≡ 8 = ap (λ (y : Stop). y.number) x ∙ e in
            here (sym (ap (λ (y : Stop). y.chunk) x)) (sym (ap (λ (y : Stop). y.instruction) x)) (visit-full m i q _ z refl (rw k8 at p))

    full-next : (m : Machine C F S) (f : FullAt α m) → next α m ≡ halt 8 m.number f.entry
    unfolding next takes on_seen
    full-next m f = rw (f.queued, full-visit m f)

    begun-live : (r : R) → OfWhere Not8 (begun α r)
    unfolding begun finish
    begun-live r = enter-of α Not8 follows false _ (λ f past. tt) 0 (α.opened r) [] α.chunks

    -- THEOREM: 8 only where a taking has to put an entry into a full queue
    pub check-full : (limit : ℕ) (r : R) (ρ : Refusal) → check α limit r ≡ refused ρ → ρ.number ≡ 8 → Filled α limit r ρ
    unfolding after-takings
    check-full limit r ρ h e = go (refused-counted α limit r ρ h)
      where
        counted : (n : ℕ) → ρ.steps ≡ n → Counted α (begun α r) limit n (halt ρ.number ρ.chunk ρ.instruction) → Filled α limit r ρ
        counted zero z c = absurd (not-halt c.ends (begun-live r) e)
        counted (suc n) z c =
            let (m, d) = c.before n (omega arith) in
            let (i, q, k) = due-queued α n r m d in
            let (f, a, b) = next-full m i q ρ.number ρ.chunk ρ.instruction k (sym (after_next n (begun α r) m d) ∙ c.ends) e in
            record { taken = n; within = c.within; machine = m; stands = d; at = f; named = refusal-eq ρ 8 m.number f.entry (suc n) e a b z }

        go : Spent α limit r ρ ⊎ Counted α (begun α r) limit ρ.steps (halt ρ.number ρ.chunk ρ.instruction) → Filled α limit r ρ
        go (inl (m, d, p)) = let z : ρ.number ≡ 7 = ap (λ (x : Refusal). x.number) p in absurd (omega arith)
        go (inr c) = counted ρ.steps refl c

    -- THEOREM: and there it comes
    pub full-check : (limit : ℕ) (r : R) (ρ : Refusal) → Filled α limit r ρ → check α limit r ≡ refused ρ
    full-check limit r ρ f =
        let m = f.machine in
        let all : (k : ℕ) → k < suc f.taken → Due (after-takings α k (begun α r)) = λ k l. earlier k (ltb k f.taken) refl l in
        let c : Counted α (begun α r) limit (suc f.taken) (halt 8 m.number f.at.entry) = record {
          within = f.within;
          ends = after_next f.taken (begun α r) m f.stands ∙ full-next m f.at;
          before = all;
        } in
        rw f.named (counted-refused α limit r _ (suc f.taken) c)
      where
        earlier : (k : ℕ) (b : Bool) → ltb k f.taken ≡ b → k < suc f.taken → Due (after-takings α k (begun α r))
        earlier k true e l =
            due-before α f.taken k (begun α r)
            (rw (takings-due α f.taken (begun α r) f.machine f.stands) (ltb-true k f.taken e))
        earlier k false e l =
            let z : k ≡ f.taken = let u = ltb-false k f.taken e in omega arith in
            (f.machine, rw z f.stands)

-- ---- the definition
module _ (k : Known) (cap limit : ℕ) (f : Facts) (ρ : Refusal) where
  abbrev pub FilledRun : Type 0
  FilledRun = Filled (analysis_of k cap) limit f ρ

  abbrev pub SpentRun : Type 0
  SpentRun = Spent (analysis_of k cap) limit f ρ

  late : (n : ℕ) → 13 ≤ n → Not8 n
  late n l = λ e. omega arith

  -- THEOREM: a run is refused by 8 exactly where a taking has to put an entry into a full queue
  pub run-eight : ((run_of k cap limit f ≡ refused ρ) × (ρ.number ≡ 8)) ↔ FilledRun
  unfolding run_of
  run-eight = (
    λ (e, z). check-full (analysis_of k cap) (join-late Not8 late) (after-late Not8 late) (leaves-late Not8 late k) limit f ρ e z,
    λ h. (
      full-check (analysis_of k cap) (join-late Not8 late) (after-late Not8 late) (leaves-late Not8 late k) limit f ρ h,
      ap (λ (x : Refusal). x.number) h.named,
    ),
  )

  -- THEOREM: and by 7 exactly where an entry is due and the limit is used up
  pub run-seven : ((run_of k cap limit f ≡ refused ρ) × (ρ.number ≡ 7)) ↔ SpentRun
  unfolding run_of
  run-seven = (
    λ (e, z). seven-exactly k cap limit f ρ e z,
    λ (m, e, p). (
      rw p (spent-refused (analysis_of k cap) limit f m e),
      ap (λ (x : Refusal). x.number) p,
    ),
  )

-- ---- the call
module _ (s : List ℕ) (w : ℕ) (fine : form_of s ≡ Ok w) (ws buf : List ℕ) (limit : ℕ) (r : Refusal) where
  abbrev m : Module
  m = module_of s

  -- the call comes to its run
  abbrev Comes : Type 0
  Comes = (w < length ws) × Runs m (length ws - w) limit

  -- a number that only a run refuses by
  by-run : (n : ℕ) → 7 ≤ n → n ≤ 8 → (call s ws buf limit).answer ≡ Err r → r.number ≡ n → Comes × (run_for m (length ws - w) limit ≡ refused r)
  by-run n a b e z = answered (call-decided s w fine ws buf limit r e)
    where
      stopped : w < length ws → Stopped m (length ws - w) limit r → Comes × (run_for m (length ws - w) limit ≡ refused r)
      stopped l (inl p) = absurd (omega arith)
      stopped l (inr (c, q)) = ((l, c), q)

      answered : Answered s w fine ws buf limit r → Comes × (run_for m (length ws - w) limit ≡ refused r)
      answered (inl p) = absurd (omega arith)
      answered (inr (inl p)) = absurd (omega arith)
      answered (inr (inr (l, p))) = stopped l (decided-run m (length ws - w) limit r p)

  run_by : Comes → run_for m (length ws - w) limit ≡ refused r → (call s ws buf limit).answer ≡ Err r
  run_by (l, c) e = decided-call s w fine ws buf limit r l (run-decided m (length ws - w) limit r c e)

  -- THEOREM: a call is refused by 8 exactly where its run has to put an entry into a full queue; the queue has the words beyond W
  pub call-eight : (((call s ws buf limit).answer ≡ Err r) × (r.number ≡ 8))
      ↔ (Comes × FilledRun (known_of m (first_facts m)) (length ws - w) limit (first_facts m) r)
  call-eight = (
    λ (e, z). let (c, q) = by-run 8 (omega arith) (omega arith) e z in (c, (run-eight _ (length ws - w) limit _ r).0 (q, z)),
    λ (c, f). let (q, z) = (run-eight _ (length ws - w) limit _ r).1 f in (run_by c q, z),
  )

  -- THEOREM: and by 7 exactly where in its run an entry is due and the limit is used up
  pub call-seven : (((call s ws buf limit).answer ≡ Err r) × (r.number ≡ 7))
      ↔ (Comes × SpentRun (known_of m (first_facts m)) (length ws - w) limit (first_facts m) r)
  call-seven = (
    λ (e, z). let (c, q) = by-run 7 (omega arith) (omega arith) e z in (c, (run-seven _ (length ws - w) limit _ r).0 (q, z)),
    λ (c, f). let (q, z) = (run-seven _ (length ws - w) limit _ r).1 f in (run_by c q, z),
  )
