-- What is seen at each line of the table holds of the rule of each instruction.
use Prim.Native.Nat.{ℕ, zero, suc, ◌+◌, ◌≤◌}
use native.Mathlib.Nat.{add-zero, zero-add}
use native.Mathlib.Omega.{arith}
use mathlib.Core.Path.{◌≡◌}
use mathlib.Core.Bool.{Bool, true, ◌&&◌}
use mathlib.Core.List.{List, [], ◌∷◌}
use lib.ListN.{length, get_or}
use Rattle.masks.proofs.Both.{both}
use Rattle.ops.specs.declared.Rule.{Rule}
use Rattle.ops.specs.Ops.{rules, no_rule, rule_of}

-- lines numbered from n on
abbrev pub all_from : (ℕ → Rule → Bool) → ℕ → List Rule → Bool
all_from p n [] = true
all_from p n (r ∷ rs) = p n r && all_from p (suc n) rs

module _ (p : ℕ → Rule → Bool) (past : (n : ℕ) → 66 ≤ n → p n no_rule ≡ true) where
  from_at : (k : ℕ) (rs : List Rule) → 66 ≤ k + length rs → all_from p k rs ≡ true → (n : ℕ) → p (k + n) (get_or rs n no_rule) ≡ true
  from_at k [] l h n = past (k + n) (omega arith)
  from_at k (r ∷ rs) l h zero = rw (add-zero k) (both (p k r) (all_from p (suc k) rs) h).0
  from_at k (r ∷ rs) l h (suc n) =
      let e : k + suc n ≡ suc k + n = omega arith in
      rw e (from_at (suc k) rs (omega arith) (both (p k r) (all_from p (suc k) rs) h).1 n)

  -- THEOREM
  pub every-rule : all_from p 0 rules ≡ true → (op : ℕ) → p op (rule_of op) ≡ true
  unfolding rule_of rules
  every-rule h op = rw (zero-add op) at (from_at 0 rules (omega arith) h op)
