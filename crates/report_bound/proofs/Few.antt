-- A visit has no more guards than its rule has places to ask about.
use Prim.Native.Nat.{ℕ, suc, ◌+◌, ◌-◌, ◌≤◌}
use native.Mathlib.Omega.{arith}
use mathlib.Core.Path.{◌≡◌, refl}
use mathlib.Core.Bool.{Bool, true, false, cond}
use mathlib.Core.List.{List, [], ◌∷◌}
use lib.Dec.{eqb, ltb}
use lib.ListN.{length}
use borrow.Author.Tests.{ne_eqb, ltb-true, ltb-false}
use Rattle.masks.specs.declared.Mask.{Mask}
use Rattle.masks.specs.Mask.{one_kind, common}
use Rattle.masks.specs.Names.{NONE}
use Rattle.cells.specs.declared.Cell.{Cell}
use Rattle.description.specs.declared.Instr.{Instr}
use Rattle.ops.specs.declared.Asks.{Asks}
use Rattle.ops.specs.declared.Asks.TheVariants.{Free, First as OneWithin, Both as TwoWithin, Yielded, Returned, Every as EachWithin, Ordered, Same, Stored, PartOf, Never as NotProven}
use Rattle.ops.specs.declared.Data.{Data}
use Rattle.ops.specs.declared.Data.TheVariants.{NoSlot, OneSlot, ManySlots}
use Rattle.definition.specs.declared.Ask.{Ask}
use Rattle.definition.specs.declared.Ask.TheVariants.{Nothing, First, Both, Every, Below, Writes, WritesIndexed, Never}
use Rattle.definition.specs.declared.Want.{Want}
use Rattle.definition.specs.declared.Check.{Check}
use Rattle.definition.specs.declared.Check.TheVariants.{Fine, Guard, Unproven}
use Rattle.definition.specs.Outputs.{Visit, instr, shared}
use Rattle.definition.specs.Wants.{Guarded, require, returned, meet, wants, never, every, same, stored, returned_want, part_want, want_by, want_of, is_entry, pair_kinds, declared_mask, at_index, operand_check, operand_checks, checks_by, checks, guard_of, guards_in, guards}
use Rattle.report_bound.specs.Most.{least, written_guards, most_guards}

-- at most one more
one_more : (p : ℕ) (c : Check) (gs : List Guarded) → length (guard_of p c gs) ≤ suc (length gs)
unfolding guard_of
one_more p Fine gs = omega arith
one_more p (Guard m) gs = omega arith
one_more p Unproven gs = omega arith

pub least-both : (n a b : ℕ) → n ≤ a → n ≤ b → n ≤ least a b
least-both n a b h k = go (ltb a b)
  where
    go : (x : Bool) → n ≤ cond x a b
    go true = h
    go false = k

-- ---- by what is asked
module _ (v : Visit) (w : Want) where
  each-few : (k : ℕ) (cs : List Cell) → length (guards_in (operand_checks v w k cs)) ≤ length cs
  unfolding guards_in operand_checks
  each-few k [] = omega arith
  each-few k (c ∷ cs) = omega (arith, one_more (length v.below + k) (operand_check v w w.ask k c.mask) (guards_in (operand_checks v w (suc k) cs)), each-few (suc k) cs)

  -- nothing is asked from the operand n on
  first-few : (n : ℕ) → ((j : ℕ) (m : Mask) → n ≤ j → operand_check v w w.ask j m ≡ Fine) → (k : ℕ) (cs : List Cell)
      → length (guards_in (operand_checks v w k cs)) ≤ n - k
  unfolding guards_in operand_checks guard_of
  first-few n h k [] = omega arith
  first-few n h k (c ∷ cs) = go (ltb k n) refl (first-few n h (suc k) cs)
    where
      rest : List Guarded
      rest = guards_in (operand_checks v w (suc k) cs)

      go : (b : Bool) → ltb k n ≡ b → length rest ≤ n - suc k → length (guard_of (length v.below + k) (operand_check v w w.ask k c.mask) rest) ≤ n - k
      go true e l = omega (arith, ltb-true k n e, one_more (length v.below + k) (operand_check v w w.ask k c.mask) rest)
      go false e l = rw (h k c.mask (ltb-false k n e)) (omega (arith, ltb-false k n e))

-- the most that an ask has guards for, of so many operands
unfoldable ask_most : Ask → ℕ → ℕ
ask_most Nothing n = 0
ask_most First n = 1
ask_most Both n = least 2 n
ask_most Every n = n
ask_most Below n = 1
ask_most Writes n = 1
ask_most WritesIndexed n = least 2 n
ask_most Never n = 0

index-other : (j n : ℕ) (c : Check) → suc n ≤ j → at_index j n c ≡ Fine
unfolding at_index
index-other j n c h = rw (ne_eqb j n (λ e. omega arith))

module _ (v : Visit) (w : Want) where
  none-asked : w.ask ≡ Nothing → (j : ℕ) (m : Mask) → 0 ≤ j → operand_check v w w.ask j m ≡ Fine
  unfolding operand_check
  none-asked e j m h = rw e

  one-asked : w.ask ≡ First → (j : ℕ) (m : Mask) → 1 ≤ j → operand_check v w w.ask j m ≡ Fine
  unfolding operand_check
  one-asked e j m h = rw e (index-other j 0 _ h)

  two-asked : w.ask ≡ Both → (j : ℕ) (m : Mask) → 2 ≤ j → operand_check v w w.ask j m ≡ Fine
  unfolding operand_check meet
  two-asked e j m h = rw (e, index-other j 0 _ (omega arith), index-other j 1 _ h)

  one_written : w.ask ≡ Writes → (j : ℕ) (m : Mask) → 1 ≤ j → operand_check v w w.ask j m ≡ Fine
  unfolding operand_check
  one_written e j m h = rw e (index-other j 0 _ h)

  two-written : w.ask ≡ WritesIndexed → (j : ℕ) (m : Mask) → 2 ≤ j → operand_check v w w.ask j m ≡ Fine
  unfolding operand_check meet
  two-written e j m h = rw (e, index-other j 0 _ (omega arith), index-other j 1 _ h)

  ask-few : (a : Ask) → w.ask ≡ a → length (guards_in (checks_by v w a)) ≤ ask_most a (length v.args)
  unfolding checks_by ask_most guards_in guard_of
  ask-few Nothing e = omega (arith, first-few v w 0 (none-asked e) 0 v.args)
  ask-few First e = omega (arith, first-few v w 1 (one-asked e) 0 v.args)
  ask-few Both e = least-both _ 2 _ (omega (arith, first-few v w 2 (two-asked e) 0 v.args)) (each-few v w 0 v.args)
  ask-few Every e = each-few v w 0 v.args
  ask-few Below e = one_more (length v.below - 1) (require (returned v).mask w.first) []
  ask-few Writes e = omega (arith, first-few v w 1 (one_written e) 0 v.args)
  ask-few WritesIndexed e = least-both _ 2 _ (omega (arith, first-few v w 2 (two-written e) 0 v.args)) (each-few v w 0 v.args)
  ask-few Never e = omega arith

-- ---- by the rule
module _ (t : ℕ) where
  -- what is asked if a test holds, or else nothing is proven
  unless-never : (b : Bool) (x : Want) (n : ℕ) → ask_most x.ask t ≤ n → ask_most (cond b never x).ask t ≤ n
  unfolding ask_most
  unless-never true x n h = omega arith
  unless-never false x n h = h

  every-few : (m : Mask) → ask_most (every m).ask t ≤ t
  unfolding every ask_most
  every-few m = unless-never (eqb m.bits 0) (wants Every m NONE) t (omega arith)

  same-few : (all k : Mask) → ask_most (same all k).ask t ≤ t
  unfolding same ask_most
  same-few all k = go (one_kind (common all k))
    where
      go : (b : Bool) → ask_most (cond b (every (common all k)) never).ask t ≤ t
      go true = every-few (common all k)
      go false = omega arith

  part-few : (i : Instr) (k : Mask) → ask_most (part_want i k).ask t ≤ 1
  unfolding part_want ask_most
  part-few i k = unless-never (ltb 1 i.a) (wants First k NONE) 1 (omega arith)

  stored-few : (d : Data) → ask_most (stored d).ask t ≤ written_guards d t
  unfolding stored ask_most
  stored-few NoSlot = omega arith
  stored-few OneSlot = omega arith
  stored-few ManySlots = omega arith

  returned-few : (entry : Bool) (k : Mask) → ask_most (returned_want entry k).ask t ≤ cond entry 1 0
  unfolding returned_want ask_most
  returned-few true k = omega arith
  returned-few false k = omega arith

  want-few : (a : Asks) (d : Data) (i : Instr) (all pair declared : Mask) (entry : Bool) → ask_most (want_by a d i all pair declared entry).ask t ≤ most_guards a d t entry
  unfolding want_by ask_most
  want-few Free d i all pair declared entry = omega arith
  want-few (OneWithin m) d i all pair declared entry = omega arith
  want-few (TwoWithin m n) d i all pair declared entry = omega arith
  want-few Yielded d i all pair declared entry = omega arith
  want-few Returned d i all pair declared entry = returned-few entry declared
  want-few (EachWithin m) d i all pair declared entry = every-few _
  want-few Ordered d i all pair declared entry = every-few _
  want-few (Same k) d i all pair declared entry = same-few all k
  want-few Stored d i all pair declared entry = stored-few d
  want-few (PartOf k) d i all pair declared entry = part-few i k
  want-few NotProven d i all pair declared entry = omega arith

pub guards-few : (v : Visit) → length (guards v) ≤ most_guards v.rule.asks v.rule.slots (length v.args) (is_entry v)
unfolding guards checks want_of
guards-few v =
    omega (
      arith,
      ask-few v (want_of v) (want_of v).ask refl,
      want-few (length v.args) v.rule.asks v.rule.slots (instr v) (shared v) (pair_kinds v) (declared_mask v) (is_entry v),
    )
