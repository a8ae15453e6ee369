-- One chunk at work: putting a way never raises what is left, and where that fits the queue's room the queue is never full. Over any state
-- and join.
use Prim.Native.Nat.{ℕ, ◌+◌, ◌<◌, ◌≤◌}
use native.Mathlib.Omega.{arith}
use mathlib.Core.Path.{◌≡◌, refl}
use mathlib.Core.Bool.{Bool, true, false}
use mathlib.Core.Option.{Option, none, some}
use mathlib.Core.List.{List, [], ◌∷◌}
use lib.ListN.{length, get_or, set, length-append}
use lib.Dec.{ltb}
use borrow.Author.Tests.{ltb-true, ltb-false}
use Rattle.definition.specs.Res.{Res, ok, bad, bind}
use Rattle.definition.specs.Machine.{Joined, Work, push, put_joined, put_at, put_in, put, puts}
use Rattle.machine_laws.proofs.All.{All, cons, all_set, all-get, Opt}
use Rattle.refusal_laws.proofs.Only.{OfRes}
use Rattle.termination.specs.Left.{total, place_left, work_left}
use Rattle.termination.specs.Enough.{Otherwise}
use Rattle.termination.proofs.Totals.{total-set}

-- an answer that has something, or refuses neither by 7 nor by 8
abbrev pub Fares : {A : Type 0} → (A → Type 0) → Res A → Type 0
Fares K (ok a) = K a
Fares K (bad n) = Otherwise n

pub fares-bind : {A B : Type 0} (K : A → Type 0) (H : B → Type 0) (r : Res A) (f : A → Res B) → Fares K r → ((a : A) → r ≡ ok a → K a → Fares H (f a)) → Fares H (bind r f)
fares-bind K H (ok a) f p q = q a refl p
fares-bind K H (bad n) f p q = p

pub fares-of : {A : Type 0} (r : Res A) → OfRes Otherwise r → Fares (λ a. Unit {0}) r
fares-of (ok a) p = tt
fares-of (bad n) p = p

module _ {S : Type 0} (P : S → Type 0) (left : S → ℕ) (most : ℕ) where
  -- proper states, with no more left than this
  pub record WorkOk (k : ℕ) (w : Work S) : Type 0 where
    pub states : All (Opt P) w.states
    pub within : work_left left most w.states w.queue ≤ k

  module _ (join : S → S → Res (Joined S)) (cap : ℕ)
      (joined : (s x : S) (j : Joined S) → join s x ≡ ok j → P s → P x → P j.value)
      (falls : (s x : S) (j : Joined S) → join s x ≡ ok j → P s → P x → j.changed ≡ true → left j.value < left s)
      (small : (s : S) → P s → left s ≤ most) (joins : (s x : S) → OfRes Otherwise (join s x)) (k : ℕ) (room : k ≤ cap) where
    -- an entry is put where a place has given up one
    push-fares : (st : List (Option S)) (q : List ℕ) (t : ℕ) → All (Opt P) st → total (place_left left most) st + length q < k
        → Fares (WorkOk k) (push st q t (ltb (length q) cap))
    unfolding push work_left
    push-fares st q t a l = go (ltb (length q) cap) refl
      where
        go : (b : Bool) → ltb (length q) cap ≡ b → Fares (WorkOk k) (push st q t b)
        go true e = record { states = a; within = omega (arith, length-append q (t ∷ [])) }
        go false e = let h : cap ≤ length q = ltb-false (length q) cap e in absurd (omega arith)

    set-fares : (w : Work S) (t : ℕ) (x : S) → t < length w.states → WorkOk k w → P x
        → left x < place_left left most (get_or w.states t none)
        → Fares (WorkOk k) (push (set w.states t (some x)) w.queue t (ltb (length w.queue) cap))
    unfolding work_left place_left
    set-fares w t x l h p less =
        let e = total-set (place_left left most) w.states t (some x) none l in
        let u = h.within in
        push-fares _ w.queue t (all_set (Opt P) t {x = some x} p h.states) (omega arith)

    joined-fares : (w : Work S) (t : ℕ) (j : Joined S) (b : Bool) → t < length w.states → WorkOk k w → P j.value
        → (b ≡ true → left j.value < place_left left most (get_or w.states t none)) → Fares (WorkOk k) (put_joined join cap w t j b)
    unfolding put_joined
    joined-fares w t j true l h p less = set-fares w t j.value l h p (less refl)
    joined-fares w t j false l h p less = h

    at-fares : (w : Work S) (t : ℕ) (x : S) (o : Option S) → get_or w.states t none ≡ o → Opt P o → t < length w.states → WorkOk k w → P x
        → Fares (WorkOk k) (put_at join cap w t x o)
    unfolding put_at place_left
    at-fares w t x none e q l h p = set-fares w t x l h p (let u = small x p in rw e (omega arith))
    at-fares w t x (some old) e q l h p =
        fares-bind (λ j. Unit {0}) (WorkOk k) (join old x) _ (fares-of (join old x) (joins old x))
        (λ j a u. joined-fares w t j j.changed l h (joined old x j a q p) (λ c. rw e (falls old x j a q p c)))

    put-fares : (w : Work S) (o : ℕ × S) → WorkOk k w → P o.1 → Fares (WorkOk k) (put join cap w o)
    unfolding put put_in
    put-fares w o h p = go (ltb o.0 (length w.states)) refl
      where
        go : (b : Bool) → ltb o.0 (length w.states) ≡ b → Fares (WorkOk k) (put_in join cap w o.0 o.1 b)
        go true e =
            at-fares w o.0 o.1 (get_or w.states o.0 none) refl (all-get (Opt P) o.0 {d = none} tt h.states)
            (ltb-true o.0 (length w.states) e) h p
        go false e = h

    pub puts-fares : (w : Work S) (os : List (ℕ × S)) → WorkOk k w → All (λ o. P o.1) os → Fares (WorkOk k) (puts join cap w os)
    unfolding puts
    puts-fares w [] h ps = h
    puts-fares w (o ∷ os) h (cons p ps) = fares-bind (WorkOk k) (WorkOk k) (put join cap w o) _ (put-fares w o h p) (λ v e u. puts-fares v os u ps)
