-- What one way and all ways of a visit do to states and queue: nothing recorded is lost, and what is new is queued.
use Prim.Native.Nat.{ℕ, ◌<◌}
use native.Mathlib.Decide.{ℕ_discrete}
use mathlib.Core.Path.{◌≡◌, refl, sym, ◌∙◌, Σ_path}
use mathlib.Core.Logic.{◌⊎◌, inl, inr}
use mathlib.Core.Bool.{Bool, true, false}
use mathlib.Core.Option.{Option, none, some}
use mathlib.Core.List.Memᴰ
use mathlib.Core.List.{List, [], ◌∷◌, ◌++◌, Memᴰ}
use lib.ListN.{length, get_or, set, length-set}
use lib.Seq.{get_or-set_same, get_or-set_other}
use lib.Dec.{ltb, ltb→lt, lt→ltb}
use Rattle.definition.specs.Res.{Res, ok}
use Rattle.definition.specs.Machine.{Joined, Work, push, put_joined, put_at, put_in, put, puts}
use Rattle.machine_laws.proofs.Bind.{bad≢ok, ok-inj, none≢some, some_inj, bind-use}
pub use Rattle.machine_laws.proofs.Asked.{Takes, Laws, Recorded, TakenIn}

-- the recorded stays recorded, by what takes in all that it took in
pub record Grown {S : Type 0} (join : S → S → Res (Joined S)) (st st' : List (Option S)) : Type 0 where
  pub size : length st' ≡ length st
  pub grows : (i : ℕ) (s : S) → Recorded st i s → (s' : S) × Recorded st' i s' × ((y : S) → Takes join s y → Takes join s' y)

-- a change of states and queue that loses nothing: what is new is in the queue. `Via` says where the new can stand
pub record Moved {S : Type 0} (join : S → S → Res (Joined S)) (Via : ℕ → Type 0) (w w' : Work S) : Type 0 where
  pub grown : Grown join w.states w'.states
  pub keeps : (j : ℕ) → Memᴰ j w.queue → Memᴰ j w'.queue
  pub fresh : (j : ℕ) (s : S) → Recorded w'.states j s → Recorded w.states j s ⊎ (Memᴰ j w'.queue × Via j)

-- some way goes there
abbrev pub Via : {S : Type 0} → List (ℕ × S) → ℕ → Type 0
Via {S} os j = (x : S) × Memᴰ {A = ℕ × S} (j, x) os

module _ {S : Type 0} (join : S → S → Res (Joined S)) where
  pub grown-refl : (st : List (Option S)) → Grown join st st
  grown-refl st = record { size = refl; grows = λ i s h. (s, h, λ y t. t) }

  pub grown-trans : {a b c : List (Option S)} → Grown join a b → Grown join b c → Grown join a c
  grown-trans g h = record {
    size = h.size ∙ g.size;
    grows = λ i s r.
        let (s', r', f) = g.grows i s r in
        let (s'', r'', f') = h.grows i s' r' in
        (s'', r'', λ y t. f' y (f y t));
  }

  moved-refl : (X : ℕ → Type 0) (w : Work S) → Moved join X w w
  moved-refl X w = record { grown = grown-refl w.states; keeps = λ j m. m; fresh = λ j s r. inl r }

  -- two moves; where the new can stand is widened on the way
  moved-trans : {U W X : ℕ → Type 0} {a b c : Work S} → ((j : ℕ) → U j → X j) → ((j : ℕ) → W j → X j) → Moved join U a b → Moved join W b c → Moved join X a c
  moved-trans {U} {W} {X} {a} {b} {c} u v g h = record {
    grown = grown-trans g.grown h.grown;
    keeps = λ j m. h.keeps j (g.keeps j m);
    fresh = λ j s r. then j s (h.fresh j s r);
  }
    where
      then : (j : ℕ) (s : S) → Recorded b.states j s ⊎ (Memᴰ j c.queue × W j) → Recorded a.states j s ⊎ (Memᴰ j c.queue × X j)
      then j s (inr m) = inr (m.0, v j m.1)
      then j s (inl r) = elim (g.fresh j s r) [ inl q ↦ inl q | inr m ↦ inr (h.keeps j m.0, u j m.1) ]

  pub taken-grown : {a b : List (Option S)} (t : ℕ) (x : S) → Grown join a b → TakenIn join a t x → TakenIn join b t x
  taken-grown t x g h l =
      let (s, r, k) = h (rw (← g.size) l) in
      let (s', r', f) = g.grows t s r in
      (s', r', f x k)

  -- all the ways of a visit
  abbrev pub AllIn : List (Option S) → List (ℕ × S) → Type 0
  AllIn st os = (o : ℕ × S) → Memᴰ o os → TakenIn join st o.0 o.1

  all_cons : (st : List (Option S)) (o : ℕ × S) (os : List (ℕ × S)) → TakenIn join st o.0 o.1 → AllIn st os → AllIn st (o ∷ os)
  all_cons st o os t a p q = elim (Memᴰ.cases_cons q) [ inl e ↦ rw e t | inr m ↦ a p m ]

  -- what one way does: nothing is lost, and its place takes in what comes
  abbrev Put : Work S → ℕ → S → Work S → Type 0
  Put w t x w' = Moved join (λ j. j ≡ t) w w' × TakenIn join w'.states t x

  set-moved : (w : Work S) (t : ℕ) (x : S) → t < length w.states
      → ((s : S) → Recorded w.states t s → (y : S) → Takes join s y → Takes join x y)
      → Moved join (λ j. j ≡ t) w (record { states = set w.states t (some x); queue = w.queue ++ (t ∷ []) })
  set-moved w t x l k = record {
    grown = record { size = length-set w.states t (some x); grows = λ i s r. old i s r (ℕ_discrete i t) };
    keeps = λ j m. Memᴰ.append_left (t ∷ []) m;
    fresh = λ j s r. new j s r (ℕ_discrete j t);
  }
    where
      old : (i : ℕ) (s : S) → Recorded w.states i s → Dec (i ≡ t)
          → (s' : S) × Recorded (set w.states t (some x)) i s' × ((y : S) → Takes join s y → Takes join s' y)
      old i s r (yes e) = (x, rw (e, get_or-set_same w.states t (some x) none l), k s (rw e at r))
      old i s r (no n) = (s, rw (get_or-set_other w.states t i (some x) none n) r, λ y h. h)

      new : (j : ℕ) (s : S) → Recorded (set w.states t (some x)) j s → Dec (j ≡ t)
          → Recorded w.states j s ⊎ (Memᴰ j (w.queue ++ (t ∷ [])) × (j ≡ t))
      new j s r (yes e) = inr (Memᴰ.append_right w.queue (Memᴰ.head e), e)
      new j s r (no n) = inl (rw (get_or-set_other w.states t j (some x) none n) at r)

  module _ (laws : Laws join) (cap : ℕ) where
    push-inv : (w w' : Work S) (t : ℕ) (x : S) (b : Bool) → push (set w.states t (some x)) w.queue t b ≡ ok w' → t < length w.states
        → ((s : S) → Recorded w.states t s → (y : S) → Takes join s y → Takes join x y)
        → Moved join (λ j. j ≡ t) w w' × Recorded w'.states t x
    unfolding push
    push-inv w w' t x true h l k = rw (← ok-inj h) (set-moved w t x l k, get_or-set_same w.states t (some x) none l)
    push-inv w w' t x false h l k = absurd (bad≢ok h)

    joined-inv : (w w' : Work S) (t : ℕ) (s x : S) (j : Joined S) (b : Bool) → join s x ≡ ok j → j.changed ≡ b → Recorded w.states t s
        → put_joined join cap w t j b ≡ ok w' → t < length w.states → Put w t x w'
    unfolding put_joined
    joined-inv w w' t s x j true e c r h l =
        let p =
        push-inv w w' t j.value (ltb (length w.queue) cap) h l (λ s' r' y. rw (← some_inj (sym r ∙ r')) (laws.keeps s x y j e)) in
        (p.0, λ l'. (j.value, p.1, laws.takes s x j e))
    joined-inv w w' t s x j false e c r h l = rw (← ok-inj h) (moved-refl (λ j. j ≡ t) w, λ l'. (s, r, laws.same s x j e c))

    at-inv : (w w' : Work S) (t : ℕ) (x : S) (o : Option S) → get_or w.states t none ≡ o → put_at join cap w t x o ≡ ok w' → t < length w.states → Put w t x w'
    unfolding put_at
    at-inv w w' t x none r h l =
        let p = push-inv w w' t x (ltb (length w.queue) cap) h l (λ s r'. absurd (none≢some (sym r ∙ r'))) in
        (p.0, λ l'. (x, p.1, laws.self x))
    at-inv w w' t x (some s) r h l = bind-use (join s x) _ h λ j e p. joined-inv w w' t s x j j.changed e refl r p l

    in-inv : (w w' : Work S) (t : ℕ) (x : S) (b : Bool) → ltb t (length w.states) ≡ b → put_in join cap w t x b ≡ ok w' → Put w t x w'
    unfolding put_in
    in-inv w w' t x true e h = at-inv w w' t x (get_or w.states t none) refl h (ltb→lt t (length w.states) (rw e tt))
    in-inv w w' t x false e h = rw (← ok-inj h) (moved-refl (λ j. j ≡ t) w, λ l. absurd (rw e at (lt→ltb t (length w.states) l)))

    put_inv : (w w' : Work S) (o : ℕ × S) → put join cap w o ≡ ok w' → Put w o.0 o.1 w'
    unfolding put
    put_inv w w' o h = in-inv w w' o.0 o.1 (ltb o.0 (length w.states)) refl h

    pub puts-inv : (w w' : Work S) (os : List (ℕ × S)) → puts join cap w os ≡ ok w' → Moved join (Via os) w w' × AllIn w'.states os
    unfolding puts
    puts-inv w w' [] h = rw (← ok-inj h) (moved-refl (Via []) w, λ o m. absurd (Memᴰ.not-nil m))
    puts-inv w w' (o ∷ os) h =
        bind-use (put join cap w o) _ h λ v e k.
        let (m, t) = put_inv w v o e in
        let (m', a) = puts-inv v w' os k in (
          moved-trans (λ j e. (o.1, Memᴰ.head (Σ_path e refl))) (λ j u. (u.0, Memᴰ.tail u.1)) m m',
          all_cons w'.states o os (taken-grown o.0 o.1 m'.grown t) a,
        )
