-- What each recorded state adds to a report rises by chunk and instruction: records, known branches, false inspections.
use Prim.Native.Nat.{ℕ, suc, ◌+◌, ◌≤◌}
use native.Mathlib.Omega.{arith}
use mathlib.Core.Path.{◌≡◌, refl, sym, ◌∙◌}
use mathlib.Core.Logic.{inl, inr}
use mathlib.Core.Bool.{Bool, true, false, cond}
use mathlib.Core.Option.{Option, none, some}
use mathlib.Core.List.Memᴰ
use mathlib.Core.List.{List, [], ◌∷◌, ◌++◌, Memᴰ}
use Rattle.masks.specs.Mask.{same}
use Rattle.masks.specs.Names.{FALSE, TRUE}
use Rattle.ops.specs.Ops.{rule_of}
use Rattle.definition.specs.Module.{Chunk}
use Rattle.definition.specs.State.{State}
use Rattle.definition.specs.Leaves.{line_at}
use Rattle.definition.specs.Start.{last}
use Rattle.definition.specs.Report.{Branch, Inspection, is_test, says_false, branch_of, inspection_of, from_state, from_states, from_chunks}
use Rattle.consistent.specs.Rising.{Before, RisingBy}
use Rattle.consistent.proofs.Records.{Numbered, after, in-states, in-chunks}
use Rattle.consistent.proofs.Shows.{branch-shows, inspection-shows}

module _ {A : Type 0} (chunk at : A → ℕ) where
  rising-append : (xs ys : List A) → RisingBy chunk at xs → RisingBy chunk at ys
      → ((x y : A) → Memᴰ x xs → Memᴰ y ys → Before chunk at x y) → RisingBy chunk at (xs ++ ys)
  rising-append [] ys h k a = k
  rising-append (x ∷ xs) ys h k a = (
    λ y m. elim (Memᴰ.append_cases xs m) [
      | inl p ↦ h.0 y p
      | inr q ↦ a x y (Memᴰ.head refl) q
    ],
    rising-append xs ys h.1 k (λ u v p q. a u v (Memᴰ.tail p) q),
  )

  -- what stands alone rises
  pub one-rises : (x : A) → RisingBy chunk at (x ∷ [])
  one-rises x = (λ y m. absurd (Memᴰ.not-nil m), tt)

  pub if-rises : (b : Bool) (xs ys : List A) → RisingBy chunk at xs → RisingBy chunk at ys → RisingBy chunk at (cond b xs ys)
  if-rises true xs ys h k = h
  if-rises false xs ys h k = k

  -- each state adds what names its own chunk and instruction
  module _ (g : Chunk → ℕ → State → List A) (own : (c : Chunk) (i : ℕ) (s : State) (y : A) → Memᴰ y (g c i s) → (chunk y ≡ c.number) × (at y ≡ i))
      (rise : (c : Chunk) (i : ℕ) (s : State) → RisingBy chunk at (g c i s)) where
    state-own : (c : Chunk) (i : ℕ) (o : Option State) (y : A) → Memᴰ y (from_state (g c) i o) → (chunk y ≡ c.number) × (at y ≡ i)
    unfolding from_state
    state-own c i none y m = absurd (Memᴰ.not-nil m)
    state-own c i (some s) y m = own c i s y m

    state-rises : (c : Chunk) (i : ℕ) (o : Option State) → RisingBy chunk at (from_state (g c) i o)
    unfolding from_state
    state-rises c i none = tt
    state-rises c i (some s) = rise c i s

    -- of this chunk, from this instruction on
    states-from : (c : Chunk) (i : ℕ) (ss : List (Option State)) (y : A) → Memᴰ y (from_states (g c) i ss) → (chunk y ≡ c.number) × (i ≤ at y)
    states-from c i ss y m =
        let (j, s, r, h) = in-states y (g c) i ss m in
        let (p, q) = own c (i + j) s y h in
        (p, omega (arith, q))

    states-rise : (c : Chunk) (i : ℕ) (ss : List (Option State)) → RisingBy chunk at (from_states (g c) i ss)
    unfolding from_states
    states-rise c i [] = tt
    states-rise c i (o ∷ ss) =
        rising-append (from_state (g c) i o) (from_states (g c) (suc i) ss) (state-rises c i o) (states-rise c (suc i) ss)
        (λ u v p q.
        let (a, b) = state-own c i o u p in
        let (d, e) = states-from c (suc i) ss v q in
        inr (a ∙ sym d, omega (arith, b, e)))

    chunks-from : (n : ℕ) (cs : List Chunk) (sss : List (List (Option State))) → Numbered n cs → (y : A) → Memᴰ y (from_chunks g cs sss) → n ≤ chunk y
    chunks-from n cs sss k y m =
        let (c, st, i, s, b, r, h) = in-chunks y g cs sss m in
        omega (arith, (own c i s y h).0, after n c st cs sss k b)

    pub chunks-rise : (n : ℕ) (cs : List Chunk) (sss : List (List (Option State))) → Numbered n cs → RisingBy chunk at (from_chunks g cs sss)
    unfolding from_chunks
    chunks-rise n [] sss k = tt
    chunks-rise n (c ∷ cs) [] k = tt
    chunks-rise n (c ∷ cs) (ss ∷ sss) k =
        rising-append (from_states (g c) 0 ss) (from_chunks g cs sss) (states-rise c 0 ss) (chunks-rise (suc n) cs sss k.1)
        (λ u v p q. inl (omega (arith, (states-from c 0 ss u p).0, k.0, chunks-from (suc n) cs sss k.1 v q)))

-- a test adds one branch at most, its own; an inspection itself
pub branch-named : (c : Chunk) (i : ℕ) (s : State) (b : Branch) → Memᴰ b (branch_of c i s) → (b.chunk ≡ c.number) × (b.instruction ≡ i)
branch-named c i s b m = let w = branch-shows c i s b m in (w.of-chunk, w.at)

pub inspection-named : (c : Chunk) (i : ℕ) (s : State) (x : Inspection) → Memᴰ x (inspection_of c i s) → (x.chunk ≡ c.number) × (x.instruction ≡ i)
inspection-named c i s x m = let w = inspection-shows c i s x m in (w.of-chunk, w.at)

pub branch-rises : (c : Chunk) (i : ℕ) (s : State) → RisingBy (λ b. b.chunk) (λ b. b.instruction) (branch_of c i s)
unfolding branch_of
branch-rises c i s =
    if-rises _ _ (is_test (rule_of (line_at c i).instr.op).exit) _ _
    (if-rises _ _ (same (last s.stack).mask FALSE) _ _ (alone 0) (if-rises _ _ (same (last s.stack).mask TRUE) _ _ (alone 1) tt))
    tt
  where
    alone : (v : ℕ) → RisingBy (λ (b : Branch). b.chunk) (λ b. b.instruction) (record { chunk = c.number; instruction = i; value = v } ∷ [])
    alone v = one-rises _ _ (record { chunk = c.number; instruction = i; value = v })

pub inspection-rises : (c : Chunk) (i : ℕ) (s : State) → RisingBy (λ x. x.chunk) (λ x. x.instruction) (inspection_of c i s)
unfolding inspection_of
inspection-rises c i s = if-rises _ _ (says_false (rule_of (line_at c i).instr.op).others (last s.stack)) _ _ (one-rises _ _ _) tt
