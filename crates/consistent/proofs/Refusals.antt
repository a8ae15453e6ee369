-- 7 and 8 come exactly under their conditions: no rule refuses by these numbers.
use Prim.Native.Nat.{ℕ, zero, suc, ◌<◌}
use native.Mathlib.Omega.{arith}
use mathlib.Core.Path.{◌≡◌, refl}
use mathlib.Core.Logic.{◌⊎◌, inl, inr, ◌↔◌}
use mathlib.Core.Bool.{Bool, false}
use mathlib.Core.Option.{Option}
use mathlib.Core.List.{List, []}
use Rattle.answers.specs.declared.Refusal.{Refusal}
use Rattle.definition.specs.Res.{bad}
use Rattle.definition.specs.Machine.{Work, Where, due, done, stop, refused, halt, put, finish, next, begun}
use Rattle.definition.specs.Module.{Chunk}
use Rattle.definition.specs.State.{State, Facts, Live, join}
use Rattle.definition.specs.Leaves.{Known, leaves}
use Rattle.definition.specs.Start.{after_chunk}
use Rattle.definition.specs.Call.{analysis_of, run_of}
use Rattle.machine_laws.specs.Takings.{after-takings, Counted, Spent}
use Rattle.machine_laws.proofs.Takings.{refused-counted}
use Rattle.machine_laws.specs.Full.{Full}
use Rattle.machine_laws.proofs.Limits.{full-exactly}
use Rattle.refusal_laws.proofs.Only.{OfRes, OfPlace, OfWhere}
use Rattle.refusal_laws.proofs.Visits.{leaves_of, join-of, after-of}
use Rattle.refusal_laws.proofs.Runs.{enter-of, takes-only}

-- ---- what a visit, a join and the end of a chunk refuse by is no number below 13
abbrev Not : ℕ → ℕ → Type 0
Not k n = n ≡ k → ⊥

module _ (k : ℕ) (low : k < 13) where
  leaves-not : (x : Known) (b : Bool) (c : Chunk) (f : Facts) (i : ℕ) (s : State) → OfRes (Not k) (leaves x b c f i s)
  leaves-not = leaves_of (Not k) (λ e. omega arith) (λ e. omega arith) (λ e. omega arith) (λ e. omega arith) (λ e. omega arith) (λ e. omega arith)

  join-not : (x y : State) → OfRes (Not k) (join x y)
  join-not = join-of (Not k) (λ e. omega arith) (λ e. omega arith) (λ e. omega arith) (λ e. omega arith) (λ e. omega arith) (λ e. omega arith)

  after-not : (c : Chunk) (ss : List (Option State)) → OfPlace (Not k) (after_chunk c ss)
  after-not = after-of (Not k) (λ e. omega arith) (λ e. omega arith) (λ e. omega arith) (λ e. omega arith) (λ e. omega arith) (λ e. omega arith)

-- THEOREM: a way is refused 8 exactly where its target is there, new or changed, and the queue has no room
pub eight-exactly : (cap : ℕ) (w : Work State) (o : ℕ × State) → put join cap w o ≡ bad 8 ↔ Full join cap w o
eight-exactly cap w o = full-exactly join cap (λ s x e. (rw e at (join-not 8 (omega arith) s x)) refl) w o

-- ---- the machine of the definition never stops with 7 by itself
module _ (k : Known) (cap : ℕ) where
  abbrev W : Type 0
  W = Where Chunk Live Facts State

  after-takings-not : (n : ℕ) (w : W) → OfWhere (Not 7) w → OfWhere (Not 7) (after-takings (analysis_of k cap) n w)
  unfolding after-takings next
  after-takings-not zero w h = h
  after-takings-not (suc n) (due m) h =
      after-takings-not n _
      (takes-only (analysis_of k cap) (Not 7) (λ e. omega arith) (join-not 7 (omega arith)) (after-not 7 (omega arith)) (leaves-not 7 (omega arith) k) m m.queue)
  after-takings-not (suc n) (done x) h = tt
  after-takings-not (suc n) (stop x) h = h

  begun-not : (f : Facts) → OfWhere (Not 7) (begun (analysis_of k cap) f)
  unfolding begun finish
  begun-not f = enter-of (analysis_of k cap) (Not 7) (after-not 7 (omega arith)) false _ (λ g p. tt) 0 _ [] k.code.chunks

  -- THEOREM: 7 is refused only where an entry is due and the limit is used up
  pub seven-exactly : (limit : ℕ) (f : Facts) (ρ : Refusal) → run_of k cap limit f ≡ refused ρ → ρ.number ≡ 7
      → Spent (analysis_of k cap) limit f ρ
  unfolding run_of
  seven-exactly limit f ρ e z = go (refused-counted (analysis_of k cap) limit f ρ e)
    where
      go : Spent (analysis_of k cap) limit f ρ
          ⊎ Counted (analysis_of k cap) (begun (analysis_of k cap) f) limit ρ.steps (halt ρ.number ρ.chunk ρ.instruction)
          → Spent (analysis_of k cap) limit f ρ
      go (inl s) = s
      go (inr c) =
          let w : W = begun (analysis_of k cap) f in
          let u = after-takings-not ρ.steps w (begun-not f) in
          absurd ((rw c.ends at u) z)
