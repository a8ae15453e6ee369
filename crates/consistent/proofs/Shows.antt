-- What a test and an inspection show, and what of it the report lists.
use Prim.Native.Nat.{ℕ}
use mathlib.Core.Path.{◌≡◌, refl, ap}
use mathlib.Core.Logic.{◌⊎◌, inl, inr}
use mathlib.Core.Bool.{Bool, true, false, cond}
use mathlib.Core.List.Memᴰ
use mathlib.Core.List.{[], ◌∷◌, Memᴰ}
use Rattle.masks.specs.Mask.{same}
use Rattle.masks.specs.Names.{FALSE, TRUE}
use Rattle.ops.specs.Ops.{rule_of}
use Rattle.join_laws.proofs.Masks.{mask-equals}
use Rattle.definition.specs.Module.{Chunk}
use Rattle.definition.specs.State.{State}
use Rattle.definition.specs.Start.{last}
use Rattle.definition.specs.Report.{Branch, Inspection, branch_of, inspection_of, is_test, says_false}
use Rattle.definition.specs.Leaves.{line_at}

abbrev pub Told : State → Branch → Type 0
Told s b = ((b.value ≡ 0) × ((last s.stack).mask ≡ FALSE)) ⊎ ((b.value ≡ 1) × ((last s.stack).mask ≡ TRUE))

pub record Branches (c : Chunk) (i : ℕ) (s : State) (b : Branch) : Type 0 where
  pub of-chunk : b.chunk ≡ c.number
  pub at : b.instruction ≡ i
  pub tests : is_test (rule_of (line_at c i).instr.op).exit ≡ true
  pub told : Told s b

pub branch-shows : (c : Chunk) (i : ℕ) (s : State) (b : Branch) → Memᴰ b (branch_of c i s) → Branches c i s b
unfolding branch_of
branch-shows c i s b m =
    go (is_test (rule_of (line_at c i).instr.op).exit) (same (last s.stack).mask FALSE) (same (last s.stack).mask TRUE) refl refl refl m
  where
    shows : (v : ℕ) → is_test (rule_of (line_at c i).instr.op).exit ≡ true → ((b.value ≡ v) → Told s b)
        → b ≡ record { chunk = c.number; instruction = i; value = v } → Branches c i s b
    shows v t k e =
        record { of-chunk = ap (λ (z : Branch). z.chunk) e; at = ap (λ (z : Branch). z.instruction) e; tests = t; told = k (ap (λ (z : Branch). z.value) e) }

    go : (t x y : Bool) → is_test (rule_of (line_at c i).instr.op).exit ≡ t → same (last s.stack).mask FALSE ≡ x → same (last s.stack).mask TRUE ≡ y
        → Memᴰ b
        (cond t
        (cond x (record { chunk = c.number; instruction = i; value = 0 } ∷ []) (cond y (record { chunk = c.number; instruction = i; value = 1 } ∷ []) []))
        [])
        → Branches c i s b
    go false x y p q r m = absurd (Memᴰ.not-nil m)
    go true true y p q r m = shows 0 p (λ e. inl (e, mask-equals.sound _ _ q)) (Memᴰ.eq_of_singleton m)
    go true false true p q r m = shows 1 p (λ e. inr (e, mask-equals.sound _ _ r)) (Memᴰ.eq_of_singleton m)
    go true false false p q r m = absurd (Memᴰ.not-nil m)

pub record Inspects (c : Chunk) (i : ℕ) (s : State) (y : Inspection) : Type 0 where
  pub of-chunk : y.chunk ≡ c.number
  pub at : y.instruction ≡ i
  pub told : says_false (rule_of (line_at c i).instr.op).others (last s.stack) ≡ true

pub inspection-shows : (c : Chunk) (i : ℕ) (s : State) (y : Inspection) → Memᴰ y (inspection_of c i s) → Inspects c i s y
unfolding inspection_of
inspection-shows c i s y m = go (says_false (rule_of (line_at c i).instr.op).others (last s.stack)) refl m
  where
    go : (t : Bool) → says_false (rule_of (line_at c i).instr.op).others (last s.stack) ≡ t
        → Memᴰ y (cond t (record { chunk = c.number; instruction = i } ∷ []) []) → Inspects c i s y
    go false p m = absurd (Memᴰ.not-nil m)
    go true p m =
        let e = Memᴰ.eq_of_singleton m in
        record { of-chunk = ap (λ (z : Inspection). z.chunk) e; at = ap (λ (z : Inspection). z.instruction) e; told = p }

-- ---- and back
pub shown-branch : (c : Chunk) (i : ℕ) (s : State) (b : Branch) → Branches c i s b → Memᴰ b (branch_of c i s)
unfolding branch_of
shown-branch c i s b t = rw t.tests (go t.told)
  where
    is : (v : ℕ) → b.value ≡ v → b ≡ record { chunk = c.number; instruction = i; value = v }
    is v e = λ k. record { chunk = t.of-chunk k; instruction = t.at k; value = e k }

    go : Told s b
        → Memᴰ b
        (cond (same (last s.stack).mask FALSE) (record { chunk = c.number; instruction = i; value = 0 } ∷ [])
        (cond (same (last s.stack).mask TRUE) (record { chunk = c.number; instruction = i; value = 1 } ∷ []) []))
    go (inl (e, m)) = rw m (Memᴰ.head (is 0 e))
    go (inr (e, m)) = rw m (Memᴰ.head (is 1 e))

pub shown-inspection : (c : Chunk) (i : ℕ) (s : State) (y : Inspection) → Inspects c i s y → Memᴰ y (inspection_of c i s)
unfolding inspection_of
shown-inspection c i s y t = rw t.told (Memᴰ.head (λ k. record { chunk = t.of-chunk k; instruction = t.at k }))
