-- Behind a branch to the very next instruction, in a consistent report (document 02, Four): that instruction is recorded, it takes in all that
-- leaves the branch, every local as the branch had it, and control passes nowhere else.
use Prim.Native.Nat.{ℕ, suc, ◌<◌}
use mathlib.Core.Path.{◌≡◌, refl, ap}
use mathlib.Core.Bool.{true}
use mathlib.Core.List.Memᴰ
use mathlib.Core.List.{[], ◌∷◌, Memᴰ}
use lib.ListN.{length}
use Rattle.ops.specs.Ops.{rule_of}
use Rattle.definition.specs.Module.{Module, Chunk}
use Rattle.definition.specs.State.{State}
use Rattle.definition.specs.Outputs.{Visit}
use Rattle.definition.specs.Ways.{after, leaving}
use Rattle.definition.specs.Leaves.{visit_of, line_at}
use Rattle.definition.specs.Report.{Report, is_test}
use Rattle.definition.proofs.Next.{single-way}
use Rattle.rule_laws.proofs.Tests.{test-rule}
use Rattle.consistent.specs.Consistent.{Recorded, TakesIn, Leaves, ArrivesChunk, visit_at}
use Rattle.consistent.proofs.Wider.{still-locals}

module _ (m : Module) (r : Report) (c : Chunk) (i : ℕ) (s : State) (test : is_test (rule_of (line_at c i).instr.op).exit ≡ true) (target : (line_at c i).instr.a ≡ suc i) where
  abbrev v : Visit
  v = visit_at m r c i s

  one : leaving v ≡ (suc i, after v) ∷ []
  unfolding visit_at visit_of
  one = single-way v test target

  -- THEOREM: the next instruction is recorded and takes in all that leaves the branch
  pub next-taken : ArrivesChunk m r c → Recorded r c.number i s → suc i < length c.code
      → (t : State) × Recorded r c.number (suc i) t × TakesIn t (after v)
  next-taken h d l = h.passes i s d (suc i) (after v) (rw one (Memᴰ.head refl)) l

  -- THEOREM: no local is narrowed
  pub next-locals : (after v).locals ≡ s.locals
  unfolding visit_at visit_of
  next-locals = still-locals v (test-rule (line_at c i).instr.op test).acts

  -- THEOREM: there is no other way
  pub next-only : (to : ℕ) (x : State) → Leaves m r c i s to x → (to ≡ suc i) × (x ≡ after v)
  next-only to x h =
      let e = Memᴰ.eq_of_singleton (rw one at h) in
      (ap (λ (o : ℕ × State). o.0) e, ap (λ (o : ℕ × State). o.1) e)
