-- Which instructions inspect and which test: seen at each rule of the table.
use Prim.Native.Nat.{ℕ, ◌≤◌}
use native.Mathlib.Omega.{arith}
use mathlib.Core.Path.{◌≡◌, refl, ap, ◌∙◌}
use mathlib.Core.Bool.{Bool, true, false, not, cond, ◌&&◌, ◌||◌}
use lib.Dec.{eqb}
use borrow.Author.Tests.{eqb-true, ne_eqb}
use Rattle.masks.proofs.Both.{both}
use Rattle.masks.specs.declared.Mask.{Mask}
use Rattle.masks.specs.Mask.{has}
use Rattle.masks.specs.Names.{ENUM, STRUCT}
use Rattle.flows.specs.Flow.{same_bool}
use Rattle.cells.specs.declared.Cell.{Cell}
use Rattle.ops.specs.declared.Others.{Others}
use Rattle.ops.specs.declared.Others.TheVariants.{Unknowns, Words, Checked, Copies, Tested, Status}
use Rattle.ops.specs.declared.Rule.{Rule}
use Rattle.ops.specs.Ops.{rules, no_rule, rule_of}
use Rattle.definition.specs.Report.{says_false, is_test}
use Rattle.join_laws.proofs.Flows.{bool-sound}
use Rattle.rule_laws.proofs.Table.{every-rule}
use Rattle.ops.specs.Numbers.{op_break_if, op_if, op_is_enum, op_is_struct}

abbrev inspects : Others → Bool
inspects (Tested k) = true
inspects Unknowns = false
inspects Words = false
inspects Checked = false
inspects Copies = false
inspects Status = false

-- 40 and 41 inspect, 21 and 27 test
abbrev pub inspector : ℕ → Bool
inspector op = eqb op op_is_enum || eqb op op_is_struct

abbrev pub tester : ℕ → Bool
tester op = eqb op op_if || eqb op op_break_if

abbrev told : ℕ → Rule → Bool
told op r = same_bool (inspects r.others) (inspector op) && same_bool (is_test r.exit) (tester op)

none_told : (op : ℕ) → 66 ≤ op → told op no_rule ≡ true
unfolding is_test
none_told op h =
    rw (ne_eqb op op_is_enum (λ e. omega arith), ne_eqb op op_is_struct (λ e. omega arith), ne_eqb op op_if (λ e. omega arith), ne_eqb op op_break_if (λ e. omega arith)) refl

table-told : (op : ℕ) → told op (rule_of op) ≡ true
unfolding rules is_test
table-told = every-rule told none_told refl

pub tests_by : (op : ℕ) → is_test (rule_of op).exit ≡ tester op
tests_by op = bool-sound _ _ (both (same_bool (inspects (rule_of op).others) (inspector op)) _ (table-told op)).1

inspects-by : (op : ℕ) → inspects (rule_of op).others ≡ inspector op
inspects-by op = bool-sound _ _ (both (same_bool (inspects (rule_of op).others) (inspector op)) _ (table-told op)).0

silent : (o : Others) (c : Cell) → inspects o ≡ false → says_false o c ≡ false
unfolding says_false
silent (Tested k) c h = cc
silent Unknowns c h = refl
silent Words c h = refl
silent Checked c h = refl
silent Copies c h = refl
silent Status c h = refl

-- what 40 and 41 ask for
abbrev pub inspected : ℕ → Mask
inspected op = cond (eqb op op_is_enum) ENUM STRUCT

pub says-false-by : (op : ℕ) (c : Cell) → says_false (rule_of op).others c ≡ (inspector op && not (has c.mask (inspected op)))
unfolding says_false rule_of rules
says-false-by op c = go (eqb op op_is_enum) (eqb op op_is_struct) refl refl
  where
    go : (a b : Bool) → eqb op op_is_enum ≡ a → eqb op op_is_struct ≡ b
        → says_false (rule_of op).others c ≡ ((a || b) && not (has c.mask (cond a ENUM STRUCT)))
    go true b p q = ap (λ (k : ℕ). says_false (rule_of k).others c) (eqb-true op op_is_enum p)
    go false true p q = ap (λ (k : ℕ). says_false (rule_of k).others c) (eqb-true op op_is_struct q)
    go false false p q = silent (rule_of op).others c (inspects-by op ∙ rw (p, q))
