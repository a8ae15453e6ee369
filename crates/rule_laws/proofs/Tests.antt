-- A test asks for kinds of its first operand, does nothing besides and makes nothing of its own: seen at each line of the table.
use Prim.Native.Nat.{ℕ}
use mathlib.Core.Path.{◌≡◌, refl}
use mathlib.Core.Logic.{◌⊎◌, inl, inr}
use mathlib.Core.Bool.{Bool, true, false, cond, ◌||◌}
use lib.Dec.{eqb}
use borrow.Author.Tests.{eqb-true}
use Rattle.masks.proofs.Both.{never}
use Rattle.masks.specs.declared.Mask.{Mask}
use Rattle.masks.specs.Names.{BOOL}
use Rattle.ops.specs.declared.Asks.TheVariants.{First}
use Rattle.ops.specs.declared.Acts.TheVariants.{Still}
use Rattle.ops.specs.declared.Makes.TheVariants.{Anything}
use Rattle.ops.specs.declared.Others.TheVariants.{Unknowns}
use Rattle.ops.specs.declared.Rule.{Rule}
use Rattle.ops.specs.Numbers.{op_if, op_break_if}
use Rattle.ops.specs.Ops.{rules, rule_of}
use Rattle.definition.specs.Report.{is_test}
use Rattle.rule_laws.proofs.Table.{every-rule}

pub record Testing (r : Rule) : Type 0 where
  pub asks : (m : Mask) × (r.asks ≡ First m)
  pub acts : r.acts ≡ Still
  pub makes : r.makes ≡ Anything
  pub others : r.others ≡ Unknowns

-- the two tests
abbrev tester : ℕ → Bool
tester op = eqb op op_if || eqb op op_break_if

abbrev tests_alone : ℕ → Rule → Bool
tests_alone op r = cond (is_test r.exit) (tester op) true

tests-alone : (op : ℕ) → tests_alone op (rule_of op) ≡ true
unfolding rules is_test
tests-alone = every-rule tests_alone (λ n l. refl) refl

picked : (a b : Bool) → a ≡ true → cond a b true ≡ true → b ≡ true
picked true b e h = h
picked false b e h = never e

either-test : (a b : Bool) → (a || b) ≡ true → (a ≡ true) ⊎ (b ≡ true)
either-test true b h = inl refl
either-test false b h = inr h

if-rule : Testing (rule_of op_if)
unfolding rule_of rules
if-rule = record { asks = (BOOL, refl); acts = refl; makes = refl; others = refl }

break-rule : Testing (rule_of op_break_if)
unfolding rule_of rules
break-rule = record { asks = (BOOL, refl); acts = refl; makes = refl; others = refl }

-- THEOREM
pub test-rule : (op : ℕ) → is_test (rule_of op).exit ≡ true → Testing (rule_of op)
test-rule op h = go (either-test (eqb op op_if) (eqb op op_break_if) (picked (is_test (rule_of op).exit) _ h (tests-alone op)))
  where
    go : (eqb op op_if ≡ true) ⊎ (eqb op op_break_if ≡ true) → Testing (rule_of op)
    go (inl e) = rw (eqb-true op op_if e) if-rule
    go (inr e) = rw (eqb-true op op_break_if e) break-rule
