-- A test whose target is the very next instruction has a single way, taken without narrowing and never cut; every other instruction leaves as
-- its rule says; a known branch is listed either way (document 02, Four).
use Prim.Native.Nat.{ℕ, suc}
use mathlib.Core.Path.{◌≡◌, refl, ap, ◌∙◌}
use mathlib.Core.Logic.{◌≢◌}
use mathlib.Core.Bool.{Bool, true, cond}
use mathlib.Core.List.{[], ◌∷◌}
use borrow.Author.Tests.{eq-eqb, ne_eqb}
use Rattle.masks.specs.Names.{FALSE, TRUE}
use Rattle.ops.specs.declared.Exit.{Exit}
use Rattle.ops.specs.declared.Exit.TheVariants.{Next, Stops, Jumps, Ifs, Breaks, Restarts}
use Rattle.ops.specs.Ops.{rule_of}
use Rattle.definition.specs.Module.{Chunk}
use Rattle.definition.specs.State.{State}
use Rattle.definition.specs.Outputs.{Visit, arg, instr}
use Rattle.definition.specs.Ways.{exit_of, exit_from, ways_of, narrowing, along, after, on_way, leaving_by, leaving}
use Rattle.definition.specs.Start.{last}
use Rattle.definition.specs.Report.{is_test, op_at, branch_of}

exit-next : (x : Exit) (i target : ℕ) → is_test x ≡ true → target ≡ suc i → exit_of x i target ≡ Next
unfolding exit_of is_test
exit-next Next i target t e = refl
exit-next Stops i target t e = cc
exit-next Jumps i target t e = cc
exit-next Ifs i target t e = ap (λ (b : Bool). cond b Next Ifs) (eq-eqb target (suc i) e)
exit-next Breaks i target t e = ap (λ (b : Bool). cond b Next Breaks) (eq-eqb target (suc i) e)
exit-next Restarts i target t e = cc

exit-other : (x : Exit) (i target : ℕ) → (is_test x ≡ true → target ≢ suc i) → exit_of x i target ≡ x
unfolding exit_of is_test
exit-other Next i target n = refl
exit-other Stops i target n = refl
exit-other Jumps i target n = refl
exit-other Ifs i target n = ap (λ (b : Bool). cond b Next Ifs) (ne_eqb target (suc i) (n refl))
exit-other Breaks i target n = ap (λ (b : Bool). cond b Next Breaks) (ne_eqb target (suc i) (n refl))
exit-other Restarts i target n = refl

-- what leaves as a test is one
pub exit-test : (x : Exit) (i target : ℕ) → is_test (exit_of x i target) ≡ true → is_test x ≡ true
unfolding exit_of is_test
exit-test Next i target h = h
exit-test Stops i target h = h
exit-test Jumps i target h = h
exit-test Ifs i target h = refl
exit-test Breaks i target h = refl
exit-test Restarts i target h = h

module _ (v : Visit) where
  by_next : exit_from v ≡ Next → leaving v ≡ (suc v.at, after v) ∷ []
  unfolding leaving leaving_by ways_of narrowing along on_way
  by_next e =
      ap (λ (x : Exit). leaving_by v (after v) (ways_of x v.at (instr v).a (arg v 0).mask)) e
      ∙ ap (λ (x : Exit). on_way (suc v.at) (along (after v) (narrowing x (arg v 0).flow.predicate (instr v).a (suc v.at))) []) e

  -- THEOREM: where target and next agree there is a single way, with all that leaves the visit
  pub single-way : is_test v.rule.exit ≡ true → (instr v).a ≡ suc v.at → leaving v ≡ (suc v.at, after v) ∷ []
  single-way t e = by_next (exit-next v.rule.exit v.at (instr v).a t e)

  -- THEOREM: every other visit leaves as its rule says
  pub rule-exit : (is_test v.rule.exit ≡ true → (instr v).a ≢ suc v.at) → exit_from v ≡ v.rule.exit
  rule-exit n = exit-other v.rule.exit v.at (instr v).a n

-- THEOREM: a test whose condition is exactly one Bool is listed, wherever its target is: tag 21 is said of masks, not of ways
module _ (c : Chunk) (i : ℕ) (s : State) (t : is_test (rule_of (op_at c i)).exit ≡ true) where
  pub false-listed : (last s.stack).mask ≡ FALSE → branch_of c i s ≡ record { chunk = c.number; instruction = i; value = 0 } ∷ []
  unfolding branch_of
  false-listed e = rw (t, e)

  pub true-listed : (last s.stack).mask ≡ TRUE → branch_of c i s ≡ record { chunk = c.number; instruction = i; value = 1 } ∷ []
  unfolding branch_of
  true-listed e = rw (t, e)
