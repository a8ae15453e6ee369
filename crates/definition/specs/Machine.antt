-- The worklist as a flat machine, over any state, facts, join and rule: one taking after another, through rounds and validation.
-- Of types.rs: the loops without the rules: rounds (lines 540 to 553), chunks (569 to 595), the queue (596, 1256 to 1279); what follows a
-- chunk's validation (1281 to 1329) is `after` of `Analysis`. Of document 01: "Steps and passes", but not which passes there are; 7 and 8
-- with their places.
-- Where it differs: the three loops are one, so that steps, limit and queue have one place each; 7 and 8 are not in types.rs. Readings: B1
-- the queue, B3 steps, B4 7 against 16 and 17, D11 validation goes through everything once more and adds nothing to the facts.
-- How it ends: `run` counts the takings that are left; `enter` goes along the chunks, `puts` along the ways. Left open: state, facts, join
-- and rule (`analysis_of` in Call.antt has them). Some room and limit are enough for every description of good form: crate termination.
use Rattle.std.specs.Prelude.{ℕ, zero, suc, Bool, true, false, cond, not, List, [], ◌∷◌, ◌++◌, length, get_or, set, ltb}
use Rattle.std.proofs.Math.Option.{Option, none, some}
use Rattle.answers.specs.declared.Refusal.{Refusal}
use Rattle.answers.specs.Answers.{refusal}
use Rattle.definition.specs.Res.{Res, ok, bad, bind}

pub record Joined (S : Type 0) : Type 0 where
  pub value : S
  pub changed : Bool

-- what an instruction makes of a state: the ways that leave it, with what goes along each, and what it gives to the facts
pub record Effect (S G : Type 0) : Type 0 where
  pub ways : List (ℕ × S)
  pub gives : G

-- the states of a chunk, and its queue
pub record Work (S : Type 0) : Type 0 where
  pub states : List (Option S)
  pub queue : List ℕ

pub record Seen (F S : Type 0) : Type 0 where
  pub facts : F
  pub work : Work S

-- 8: an entry to be put into a full queue
unfoldable pub push : {S : Type 0} → List (Option S) → List ℕ → ℕ → Bool → Res (Work S)
push st q t true = ok (record { states = st; queue = q ++ (t ∷ []) })
push st q t false = bad 8

-- one way: what comes is joined into its target's state, and the target is queued if that changed, also where it is queued already. A target
-- past the end is dropped
module _ {S : Type 0} (join : S → S → Res (Joined S)) (cap : ℕ) where
  unfoldable pub put_joined : Work S → ℕ → Joined S → Bool → Res (Work S)
  put_joined w t j true = push (set w.states t (some j.value)) w.queue t (ltb (length w.queue) cap)
  put_joined w t j false = ok w

  unfoldable pub put_at : Work S → ℕ → S → Option S → Res (Work S)
  put_at w t x none = push (set w.states t (some x)) w.queue t (ltb (length w.queue) cap)
  put_at w t x (some old) = bind (join old x) (λ j. put_joined w t j j.changed)

  unfoldable pub put_in : Work S → ℕ → S → Bool → Res (Work S)
  put_in w t x true = put_at w t x (get_or w.states t none)
  put_in w t x false = ok w

  unfoldable pub put : Work S → ℕ × S → Res (Work S)
  put w o = put_in w o.0 o.1 (ltb o.0 (length w.states))

  unfoldable pub puts : Work S → List (ℕ × S) → Res (Work S)
  puts w [] = ok w
  puts w (o ∷ os) = bind (put w o) (λ v. puts v os)

-- a visit of the instruction i: `view` is what the rules read of the facts
module _ {F R S G : Type 0} (join : S → S → Res (Joined S)) (cap : ℕ) (view : F → R) (absorb : F → G → F) (leaves : R → ℕ → S → Res (Effect S G)) where
  unfoldable pub visit_at : F → List (Option S) → List ℕ → ℕ → Option S → Res (Seen F S)
  visit_at f st q i none = ok (record { facts = f; work = record { states = st; queue = q } })
  visit_at f st q i (some s) =
      bind (leaves (view f) i s) (λ e.
      bind (puts join cap (record { states = st; queue = q }) e.ways) (λ w.
      ok (record { facts = absorb f e.gives; work = w })))

  unfoldable pub visit : F → List (Option S) → List ℕ → ℕ → Res (Seen F S)
  visit f st q i = visit_at f st q i (get_or st i none)

-- where a run stands between two takings
pub record Machine (C F S : Type 0) : Type 0 where
  pub validating : Bool
  -- the chunk at work, those still to come in this pass, and the states of those before
  pub number : ℕ
  pub chunk : C
  pub rest : List C
  pub past : List (List (Option S))
  pub states : List (Option S)
  pub queue : List ℕ
  pub facts : F

-- what an accepted run leaves: the facts, and the states of each chunk
pub record Final (R S : Type 0) : Type 0 where
  pub facts : R
  pub states : List (List (Option S))

pub record Stop : Type 0 where
  pub number : ℕ
  pub chunk : ℕ
  pub instruction : ℕ

pub data Where (C F R S : Type 0) : Type 0 where
  due : Machine C F S → Where C F R S
  done : Final R S → Where C F R S
  stop : Stop → Where C F R S

pub data Ran (R S : Type 0) : Type 0 where
  accepted : Final R S → ℕ → Ran R S
  refused : Refusal → Ran R S

abbrev pub halt : {C F R S : Type 0} → ℕ → ℕ → ℕ → Where C F R S
halt n c i = stop (record { number = n; chunk = c; instruction = i })

-- what is analysed, and by which rules
pub record Analysis (C F R S G : Type 0) : Type 0 where
  -- a state with what comes, refused where the heights differ; the queue's room; the chunks, and which are reachable
  pub join : S → S → Res (Joined S)
  pub room : ℕ
  pub chunks : List C
  pub reachable : C → Bool
  -- the states that a chunk begins with; what follows its validation: a refusal with its place
  pub start : C → R → List (Option S)
  pub after : C → List (Option S) → Option (ℕ × ℕ)
  -- a round's facts: begun, read, added to, whether they moved, and closed
  pub opened : R → F
  pub view : F → R
  pub absorb : F → G → F
  pub moved : F → Bool
  pub closed : F → R
  -- the rule; the first argument says whether it validates
  pub leaves : Bool → C → R → ℕ → S → Res (Effect S G)

-- the entry due
unfoldable pub entry_due : List ℕ → ℕ
entry_due [] = 65535
entry_due (i ∷ q) = i

unfoldable pub on_next : {C F R S : Type 0} → (Machine C F S → Ran R S) → ℕ → Where C F R S → Ran R S
on_next more steps (due m) = more m
on_next more steps (done x) = accepted x steps
on_next more steps (stop x) = refused (refusal x.number x.chunk x.instruction steps)

module _ {C F R S G : Type 0} (α : Analysis C F R S G) where
  -- only the rounds add to the facts
  unfoldable pub adds : Bool → F → G → F
  adds true f g = f
  adds false f g = α.absorb f g

  -- on to the next reachable chunk; an unreachable one has no states
  unfoldable pub enter : Bool → (F → List (List (Option S)) → Where C F R S) → ℕ → F → List (List (Option S)) → List C → Where C F R S
  enter v end n f past [] = end f past
  enter v end n f past (c ∷ cs) =
      cond (α.reachable c)
      (due (record { validating = v; number = n; chunk = c; rest = cs; past = past; states = α.start c (α.view f); queue = 0 ∷ []; facts = f }))
      (enter v end (suc n) f (past ++ ([] ∷ [])) cs)

  unfoldable pub finish : F → List (List (Option S)) → Where C F R S
  finish f past = done (record { facts = α.view f; states = past })

  -- the end of a round: another where the facts moved, else validation
  unfoldable pub end_round : F → List (List (Option S)) → Where C F R S
  end_round f past = enter (not (α.moved f)) finish 0 (α.opened (α.closed f)) [] α.chunks

  unfoldable pub ending : Bool → F → List (List (Option S)) → Where C F R S
  ending true f past = finish f past
  ending false f past = end_round f past

  unfoldable pub onward : Machine C F S → Option (ℕ × ℕ) → Where C F R S
  onward m (some x) = halt x.0 m.number x.1
  onward m none = enter m.validating (ending m.validating) (suc m.number) m.facts (m.past ++ (m.states ∷ [])) m.rest

  -- the queue is empty: on to the next chunk, the next round, validation or the end; it takes no step
  unfoldable pub settle : Machine C F S → Bool → Where C F R S
  settle m true = onward m (α.after m.chunk m.states)
  settle m false = onward m none

  unfoldable pub settled : Machine C F S → List ℕ → Where C F R S
  settled m [] = settle m m.validating
  settled m (i ∷ q) = due m

  unfoldable pub on_seen : Machine C F S → ℕ → Res (Seen F S) → Where C F R S
  on_seen m i (bad n) = halt n m.number i
  on_seen m i (ok r) =
      settled
      (record {
        validating = m.validating;
        number = m.number;
        chunk = m.chunk;
        rest = m.rest;
        past = m.past;
        states = r.work.states;
        queue = r.work.queue;
        facts = r.facts;
      })
      r.work.queue

  unfoldable pub takes : Machine C F S → List ℕ → Where C F R S
  takes m [] = settle m m.validating
  takes m (i ∷ q) =
      on_seen m i (visit α.join α.room α.view (adds m.validating) (α.leaves m.validating m.chunk) m.facts m.states q i)

  -- one taking, and on to where an entry is due again
  unfoldable pub next : Machine C F S → Where C F R S
  next m = takes m m.queue

  -- at most `left` more takings, after `steps`; 7 where an entry is due and none is left
  unfoldable pub run : ℕ → ℕ → Machine C F S → Ran R S
  run zero steps m = refused (refusal 7 m.number (entry_due m.queue) steps)
  run (suc left) steps m = on_next (λ n. run left (suc steps) n) (suc steps) (next m)

  -- rounds from these facts, then validation
  unfoldable pub begun : R → Where C F R S
  begun r = enter false finish 0 (α.opened r) [] α.chunks

  unfoldable pub check : ℕ → R → Ran R S
  check limit r = on_next (λ m. run limit 0 m) 0 (begun r)
