-- What is asked: of a join, of facts, of the rules, and of what is kept. And what an accepted check leaves at one instruction.
use Prim.Native.Nat.{ℕ, ◌<◌}
use mathlib.Core.Path.{◌≡◌}
use mathlib.Core.Bool.{Bool, true, false}
use mathlib.Core.Option.{Option, none, some}
use mathlib.Core.List.{List, Memᴰ}
use lib.ListN.{length, get_or}
use Rattle.definition.specs.Res.{Res, ok}
use Rattle.definition.specs.Machine.{Joined, Effect, Analysis}
use Rattle.machine_laws.proofs.All.{All, Opt}

module _ {S : Type 0} (join : S → S → Res (Joined S)) where
  -- joining `x` changes nothing
  abbrev pub Takes : S → S → Type 0
  Takes s x = join s x ≡ ok (record { value = s; changed = false })

  -- what is asked of a join
  pub record Laws : Type 0 where
    pub self : (x : S) → Takes x x
    pub same : (s x : S) (j : Joined S) → join s x ≡ ok j → j.changed ≡ false → Takes s x
    pub takes : (s x : S) (j : Joined S) → join s x ≡ ok j → Takes j.value x
    pub keeps : (s x y : S) (j : Joined S) → join s x ≡ ok j → Takes s y → Takes j.value y

abbrev pub Recorded : {S : Type 0} → List (Option S) → ℕ → S → Type 0
Recorded st i s = get_or st i none ≡ some s

module _ {S : Type 0} (join : S → S → Res (Joined S)) where
  -- the place of a way takes in what comes along it
  abbrev pub TakenIn : List (Option S) → ℕ → S → Type 0
  TakenIn st t x = t < length st → (s : S) × Recorded st t s × Takes join s x

-- facts of which what the rules read does not change if the end is quiet
pub record Frame {F R G : Type 0} (view : F → R) (absorb : F → G → F) : Type 1 where
  pub Quiet : F → Type 0
  pub still : (f : F) (g : G) → Quiet (absorb f g) → Quiet f × (view (absorb f g) ≡ view f)
  -- the facts have taken in what was given
  pub Has : F → G → Type 0
  pub has : (f : F) (g : G) → Has (absorb f g) g
  pub keeps : (f : F) (g h : G) → Has f g → Has (absorb f h) g
  -- what holds of the facts throughout
  pub Good : F → Type 0
  pub good : (f : F) (g : G) → Good f → Good (absorb f g)

-- one recorded instruction: its rule accepts the recorded state, each way's place takes in what comes, the facts what it gives
pub record Held {R S G : Type 0} (join : S → S → Res (Joined S)) (leaves : R → ℕ → S → Res (Effect S G)) (Fits : R → G → Type 0)
    (r : R) (st : List (Option S)) (i : ℕ) (s : S) : Type 0 where
  pub out : Effect S G
  pub leaving : leaves r i s ≡ ok out
  pub taken : (o : ℕ × S) → Memᴰ o out.ways → TakenIn join st o.0 o.1
  pub fits : Fits r out.gives

-- ---- what is asked of the rules
pub record Rules {C F R S G : Type 0} (α : Analysis C F R S G) (frame : Frame α.view α.absorb) (Fits : R → G → Type 0) (Pass : C → ℕ → ℕ → Type 0) : Type 0 where
  -- validation makes of a state what the rounds make of it, where it accepts
  pub agree : (c : C) (r : R) (i : ℕ) (s : S) (e e' : Effect S G) → α.leaves true c r i s ≡ ok e → α.leaves false c r i s ≡ ok e' → e ≡ e'
  pub passes : (v : Bool) (c : C) (r : R) (i : ℕ) (s : S) (e : Effect S G) → α.leaves v c r i s ≡ ok e → (t : ℕ) (x : S) → Memᴰ (t, x) e.ways → Pass c i t
  -- facts that are not moved are quiet, are read the same when opened again, and what they have fits what the rules read
  pub calm : (f : F) → α.moved f ≡ false → frame.Quiet f
  pub reopened : (f : F) → α.moved f ≡ false → α.view (α.opened (α.closed f)) ≡ α.view f
  pub fitting : (f : F) (g : G) → frame.Good f → α.moved f ≡ false → frame.Has f g → Fits (α.view f) g
  pub good_start : (r : R) → frame.Good (α.opened r)
  -- only the first instruction starts
  pub first-only : (c : C) (r : R) (i : ℕ) (s : S) → Recorded (α.start c r) i s → i ≡ 0

-- what is kept: of states, of facts between chunks, of a round's facts, of gifts; C is what holds of the chunks. Only reachable ones are visited
module _ {C F R S G : Type 0} (α : Analysis C F R S G) where
  pub record Keeps (P : S → Type 0) (Q : R → Type 0) (L : F → Type 0) (T : G → Type 0) (K : C → Type 0) : Type 0 where
    pub joined : (s x : S) (j : Joined S) → α.join s x ≡ ok j → P s → P x → P j.value
    pub starts : (c : C) (r : R) → K c → Q r → All (Opt P) (α.start c r)
    pub opened : (r : R) → Q r → L (α.opened r)
    pub viewed : (f : F) → L f → Q (α.view f)
    pub closes : (f : F) → L f → Q (α.closed f)
    pub absorbs : (f : F) (g : G) → L f → T g → L (α.absorb f g)
    pub left : (v : Bool) (c : C) (r : R) (i : ℕ) (s : S) (e : Effect S G) → α.leaves v c r i s ≡ ok e → α.reachable c ≡ true → K c → Q r → P s → All (λ o. P o.1) e.ways × T e.gives
