-- T3: what is recorded is reached from the first instruction by a chain of passes.
use Prim.Native.Nat.{ℕ}
use mathlib.Core.Path.{◌≡◌}
use mathlib.Core.Logic.{inl, inr}
use mathlib.Core.Option.{Option}
use mathlib.Core.List.{List, Memᴰ}
use Rattle.definition.specs.Res.{Res, ok}
use Rattle.definition.specs.Machine.{Joined, Effect, Work}
use Rattle.machine_laws.proofs.Moves.{Laws, Recorded, Grown, Moved, Via, puts-inv}
use Rattle.machine_laws.proofs.Steps.{Steps, stay, drop, step}

-- each pass leaves an instruction that is recorded
pub data Chain {S : Type 0} (Pass : ℕ → ℕ → Type 0) (st : List (Option S)) : ℕ → Type 0 where
  first : Chain Pass st 0
  onto : {i t : ℕ} {s : S} → Chain Pass st i → Recorded st i s → Pass i t → Chain Pass st t

module _ {S : Type 0} (join : S → S → Res (Joined S)) (Pass : ℕ → ℕ → Type 0) where
  abbrev pub Reached : List (Option S) → Type 0
  Reached st = (i : ℕ) (s : S) → Recorded st i s → Chain Pass st i

  chain-grown : {a b : List (Option S)} {i : ℕ} → Grown join a b → Chain Pass a i → Chain Pass b i
  chain-grown g first = first
  chain-grown g (onto {i = i} {s = s} c r p) = onto (chain-grown g c) (g.grows i s r).1 p

  move-reached : (a b : Work S) (os : List (ℕ × S)) (i : ℕ) (s : S) → Moved join (Via os) a b → Recorded a.states i s
      → ((t : ℕ) (x : S) → Memᴰ (t, x) os → Pass i t) → Reached a.states → Reached b.states
  move-reached a b os i s m r pass h j y e =
      elim (m.fresh j y e) [
        | inl e' ↦ chain-grown m.grown (h j y e')
        | inr (_, v) ↦ onto (chain-grown m.grown (h i s r)) (m.grown.grows i s r).1 (pass j v.0 v.1)
      ]

module _ {F R S G : Type 0} (join : S → S → Res (Joined S)) (laws : Laws join) (cap : ℕ) (view : F → R) (absorb : F → G → F)
    (leaves : R → ℕ → S → Res (Effect S G)) (Pass : ℕ → ℕ → Type 0)
    (passes : (r : R) (i : ℕ) (s : S) (e : Effect S G) → leaves r i s ≡ ok e → (t : ℕ) (x : S) → Memᴰ (t, x) e.ways → Pass i t) where
  pub steps-reach : {f f' : F} {st st' : List (Option S)} {q q' : List ℕ} → Steps join cap view absorb leaves f st q f' st' q'
      → Reached join Pass st → Reached join Pass st'
  steps-reach stay h = h
  steps-reach (drop e a) h = steps-reach a h
  steps-reach (step {f = f} {st = st} {i = i} {q = q} {s = s} {e = e} {w = w} r l p a) h =
      let (m, _) = puts-inv join laws cap (record { states = st; queue = q }) w e.ways p in
      steps-reach a (move-reached join Pass (record { states = st; queue = q }) w e.ways i s m r (passes (view f) i s e l) h)
