-- What refuses a visit, found test by test.
use Prim.Native.Nat.{ℕ, zero, suc, ◌+◌, ◌<◌, ◌≤◌}
use native.Mathlib.Omega.{arith}
use mathlib.Core.Path.{◌≡◌, refl, sym, ap, ap₂, ◌∙◌}
use mathlib.Core.Bool.{Bool, true, false, cond}
use mathlib.Core.List.{List}
use lib.ListN.{length}
use lib.Dec.{eqb, ltb}
use borrow.Author.Tests.{lt-ltb, le-ltb}
use Rattle.definition.specs.Outputs.{Visit}
use Rattle.definition.specs.Ways.{is_reset, after}
use Rattle.definition.specs.Wants.{is_entry, unfit}
use Rattle.definition.specs.Leaves.{always, height_fault, visit_of}
use Rattle.layout.specs.declared.Chunk.{Chunk}
use Rattle.layout.specs.declared.Tables.{Tables}
use Rattle.layout.specs.Indexed.{tables_of, chunk_at}
use Rattle.visit.specs.declared.RowVisit.{RowVisit}
use Rattle.visit.specs.Held.{known_in, Looking, visit_in}
use Rattle.visit.proofs.Visits.{below-long}
use Rattle.step.proofs.Alike.{after-high}
use Rattle.step.specs.Taking.{first, fault_of}
use Rattle.visit.proofs.operands.Parts.{ins-is, rule-is}
use Rattle.layout.proofs.Read.{stack_is}

there : (m n k : ℕ) → k ≡ m → (k ≡ 0 → ⊥) → k ≡ first m n
there zero n k e d = absurd (d e)
there (suc m) n k e d = e

nothing : (m n : ℕ) → m ≡ 0 → n ≡ first m n
nothing zero n e = refl
nothing (suc m) n e = absurd (omega arith)

module _ (s ws : List ℕ) (v : RowVisit) (look : Looking s ws v) where
  pub start_small : v.start < 4294967296
  start_small = omega (arith, look.start, look.low, (look.indexed.good.each_chunk v.chunk look.chunk).stack)

  pub place-small : (v.chunk < 65536) × (v.at < 65536)
  place-small =
      (omega (arith, look.chunk, look.indexed.good.chunks_most), omega (arith, look.at, (look.indexed.good.each_chunk v.chunk look.chunk).code))

  -- the entry's instructions
  pub entry-is : (t : Tables) → t ≡ tables_of s → eqb v.chunk t.entry ≡ is_entry (visit_in s ws v)
  unfolding tables_of visit_in visit_of known_in
  entry-is t e = λ i. eqb (sym (look.indexed.good.each_chunk v.chunk look.chunk).number i) (e i).entry

  module _ (b : Bool) where
    pub fault-always : (n : ℕ) → n ≡ always (visit_in s ws v) → (n ≡ 0 → ⊥) → n ≡ fault_of b (visit_in s ws v)
    unfolding fault_of
    fault-always n e d = there (always (visit_in s ws v)) _ n e d

    module _ (fine : always (visit_in s ws v) ≡ 0) where
      pub fault-unfit : (n : ℕ) → n ≡ cond b (unfit (visit_in s ws v)) 0 → (n ≡ 0 → ⊥) → n ≡ fault_of b (visit_in s ws v)
      unfolding fault_of
      fault-unfit n e d = there (cond b (unfit (visit_in s ws v)) 0) _ n e d ∙ nothing (always (visit_in s ws v)) _ fine

      module _ (fit : cond b (unfit (visit_in s ws v)) 0 ≡ 0) (ch : Chunk) (e : ch ≡ chunk_at s ws v.chunk) where
        high_is : cond (is_reset v.rule.acts) v.ins.given (v.start + v.ins.given) ≡ length (after (visit_in s ws v)).stack
        high_is =
            (λ i. cond (is_reset (rule-is s ws v look i).acts) (ins-is s ws v look i).given (sym (below-long s ws v look) i + (ins-is s ws v look i).given))
            ∙ sym (after-high (visit_in s ws v))

        chunk-stack : ch.stack ≡ (visit_in s ws v).chunk.stack
        unfolding visit_in visit_of
        chunk-stack = stack_is s ws v.chunk ch e

        by_height : (c : Bool) → ltb ch.stack (cond (is_reset v.rule.acts) v.ins.given (v.start + v.ins.given)) ≡ c → cond c 18 0 ≡ fault_of b (visit_in s ws v)
        unfolding fault_of
        by_height c h =
            ap (λ (d : Bool). cond d 18 0) (sym h ∙ ap₂ ltb chunk-stack high_is)
            ∙ nothing (cond b (unfit (visit_in s ws v)) 0) _ fit
            ∙ nothing (always (visit_in s ws v)) _ fine

        pub fault-high : ch.stack < cond (is_reset v.rule.acts) v.ins.given (v.start + v.ins.given) → 18 ≡ fault_of b (visit_in s ws v)
        fault-high l = by_height true (lt-ltb _ _ l)

        pub fault-none : cond (is_reset v.rule.acts) v.ins.given (v.start + v.ins.given) ≤ ch.stack → 0 ≡ fault_of b (visit_in s ws v)
        fault-none l = by_height false (le-ltb _ _ l)

-- and what no fault says
first-zero : (m n : ℕ) → first m n ≡ 0 → (m ≡ 0) × (n ≡ 0)
first-zero zero n e = (refl, e)
first-zero (suc m) n e = absurd (omega arith)

pub faultless : (b : Bool) (x : Visit) → fault_of b x ≡ 0 → (always x ≡ 0) × (height_fault x ≡ 0)
unfolding fault_of
faultless b x e =
    let (p, q) = first-zero (always x) _ e in
    (p, (first-zero (cond b (unfit x) 0) (height_fault x) q).1)
