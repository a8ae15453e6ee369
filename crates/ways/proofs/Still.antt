-- An instruction that narrows a local on one of its ways is a test, and does nothing else to the locals. What goes on as one that tests
-- nothing narrows nothing.
use Prim.Native.Nat.{ℕ}
use mathlib.Core.Path.{◌≡◌, refl, ap, ◌∙◌}
use mathlib.Core.Bool.{true}
use mathlib.Core.Option.{none, some}
use Rattle.flows.specs.declared.Predicate.{Predicate}
use Rattle.ops.specs.declared.Exit.{Exit}
use Rattle.ops.specs.declared.Exit.TheVariants.{Next, Stops, Jumps, Ifs, Breaks, Restarts}
use Rattle.ops.specs.declared.Acts.TheVariants.{Still}
use Rattle.ops.specs.declared.Rule.{Rule}
use Rattle.ops.specs.Ops.{rule_of}
use Rattle.definition.specs.Outputs.{Visit, instr, outputs, setting}
use Rattle.definition.specs.Ways.{exit_of, narrowing, kept, is_reset, after, narrowed_on, set_locals}
use Rattle.definition.specs.Report.{is_test}
use Rattle.definition.proofs.Next.{exit-test}
use Rattle.rule_laws.proofs.Tests.{Testing, test-rule}

narrows-tests : (x : Exit) (p : Predicate) (target to r : ℕ) → narrowing x p target to ≡ some r → is_test x ≡ true
unfolding narrowing is_test
narrows-tests Next p target to r h = cc
narrows-tests Stops p target to r h = cc
narrows-tests Jumps p target to r h = cc
narrows-tests Ifs p target to r h = refl
narrows-tests Breaks p target to r h = refl
narrows-tests Restarts p target to r h = cc

-- only a test narrows
pub narrowed-test : (op i : ℕ) (p : Predicate) (target to r : ℕ) → narrowing (exit_of (rule_of op).exit i target) p target to ≡ some r
    → Testing (rule_of op)
narrowed-test op i p target to r h =
    test-rule op (exit-test (rule_of op).exit i target (narrows-tests (exit_of (rule_of op).exit i target) p target to r h))

pub narrowed-still : (op i : ℕ) (p : Predicate) (target to r : ℕ) → narrowing (exit_of (rule_of op).exit i target) p target to ≡ some r
    → (rule_of op).acts ≡ Still
narrowed-still op i p target to r h = (narrowed-test op i p target to r h).acts

-- so the locals leave as they came, and what is below the operands too
pub narrowed-after : (v : Visit) (to r : ℕ) → v.rule ≡ rule_of (instr v).op
    → narrowed_on v to ≡ some r
    → after v ≡ kept v (outputs v) none
unfolding after is_reset setting
narrowed-after v to r e h =
    let a : v.rule.acts ≡ Still = ap (λ (x : Rule). x.acts) e ∙ narrowed-still (instr v).op _ _ _ _ _ (rw e at h) in
    rw a

pub narrowed-locals : (v : Visit) (to r : ℕ) → v.rule ≡ rule_of (instr v).op
    → narrowed_on v to ≡ some r
    → (after v).locals ≡ v.locals
unfolding kept set_locals
narrowed-locals v to r e h = rw (narrowed-after v to r e h)
