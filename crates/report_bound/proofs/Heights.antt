-- No recorded state is higher than the bound has it: from a chunk's first instruction on, as long as control only goes on, every instruction is
-- recorded, and its height follows from the one before.
use Prim.Native.Nat.{ℕ, zero, suc, ◌+◌, ◌-◌, ◌<◌, ◌≤◌}
use native.Mathlib.Omega.{arith}
use native.Mathlib.Nat.{add-zero, zero-add}
use mathlib.Core.Path.{◌≡◌, refl, sym, ap, ◌∙◌}
use mathlib.Core.Bool.{Bool, true, false, not, ◌&&◌}
use mathlib.Core.Option.{Option, none, some}
use mathlib.Core.List.{List, [], ◌∷◌, Memᴰ}
use lib.ListN.{length, get_or}
use borrow.Author.Tests.{le-ltb}
use Rattle.masks.proofs.Both.{never, both}
use Rattle.ops.specs.declared.Exit.{Exit}
use Rattle.ops.specs.declared.Exit.TheVariants.{Next, Stops, Jumps, Ifs, Breaks, Restarts}
use Rattle.ops.specs.Ops.{rule_of}
use Rattle.definition.specs.Module.{Module, Chunk, Line}
use Rattle.definition.specs.State.{State}
use Rattle.definition.specs.Outputs.{Visit}
use Rattle.definition.specs.Ways.{exit_of, ways_of, narrowing, along, after, on_way, leaving_by, leaving, is_reset}
use Rattle.definition.specs.Leaves.{no_line, line_at, visit_of}
use Rattle.definition.specs.Start.{first_facts, known_of}
use Rattle.definition.specs.Report.{Report}
use Rattle.form_laws.proofs.Each.{suc-out}
use Rattle.machine_laws.proofs.Bind.{some_inj}
use Rattle.consistent.specs.Consistent.{ArrivesChunk, Recorded, visit_at, facts_of}
use Rattle.report_bound.specs.Most.{is_next, goes_on, height_after}
use Rattle.report_bound.proofs.States.{height-then}

-- the height that the bound has before the instruction j of this code
unfoldable pub height_at : ℕ → Bool → ℕ → List Line → ℕ → ℕ
height_at d on b [] j = d
height_at d on b (x ∷ xs) zero = b
height_at d on b (x ∷ xs) (suc j) =
    let on = on && goes_on x.instr in
    height_at d on (height_after on d b x.instr) xs j

-- ---- a visit that only goes on
next-exit : (x : Exit) → is_next x ≡ true → x ≡ Next
next-exit Next e = refl
next-exit Stops e = never e
next-exit Jumps e = never e
next-exit Ifs e = never e
next-exit Breaks e = never e
next-exit Restarts e = never e

not-true : (b : Bool) → not b ≡ true → b ≡ false
not-true true e = never e
not-true false e = refl

next-only : (v : Visit) → v.rule.exit ≡ Next → leaving v ≡ (suc v.at, after v) ∷ []
unfolding leaving leaving_by exit_of ways_of narrowing along on_way
next-only v e = rw e

module _ (m : Module) (r : Report) (c : Chunk) (st : List (Option State)) (a : ArrivesChunk m r c)
    (there : (i : ℕ) (s : State) → get_or st i none ≡ some s → Recorded r c.number i s)
    (back : (i : ℕ) (s : State) → Recorded r c.number i s → get_or st i none ≡ some s) where
  -- recorded at this height
  abbrev At : ℕ → ℕ → Type 0
  At i b = (s : State) × (get_or st i none ≡ some s) × (length s.stack ≡ b)

  -- what is known before the instruction i: the height, or only that the bound has D
  abbrev Before : Bool → ℕ → ℕ → Type 0
  Before true b i = i < length c.code → At i b
  Before false b i = b ≡ c.stack

  first-height : Before true 0 0
  first-height l =
      let (s, x, t) = a.begins in
      (s, back 0 s x, t.stack.long)

  step-height : (i b : ℕ) (s : State) → get_or st i none ≡ some s → length s.stack ≡ b → is_reset (rule_of (line_at c i).instr.op).acts ≡ false
      → length (after (visit_at m r c i s)).stack ≡ height_after true c.stack b (line_at c i).instr
  unfolding visit_at visit_of
  step-height i b s x e k =
      let y = (line_at c i).instr in
      let p : length (after (visit_at m r c i s)).stack ≡ b - y.taken + y.given = omega (arith, e, rw k at (height-then (known_of m (first_facts m)) c (facts_of r) i s)) in
      rw (le-ltb c.stack (b - y.taken + y.given) (omega (arith, p, (a.fine i s (there i s x)).height))) p

  step-on : (i b : ℕ) → goes_on (line_at c i).instr ≡ true → At i b → Before true (height_after true c.stack b (line_at c i).instr) (suc i)
  unfolding goes_on visit_at visit_of
  step-on i b g (s, x, e) k =
      let (n, z) = both (is_next (rule_of (line_at c i).instr.op).exit) (not (is_reset (rule_of (line_at c i).instr.op).acts)) g in
      let v = visit_at m r c i s in
      let on : Memᴰ {A = ℕ × State} (suc i, after v) (leaving v) = rw (next-only v (next-exit _ n)) (mathlib.Core.List.Memᴰ.head refl) in
      let (t, y, w) = a.passes i s (there i s x) (suc i) (after v) on k in
      (t, back (suc i) t y, w.stack.long ∙ step-height i b s x e (not-true _ z))

  next-height : (i b : ℕ) (on : Bool) (x : Line) → x ≡ line_at c i → i < length c.code → Before on b i
      → Before (on && goes_on x.instr) (height_after (on && goes_on x.instr) c.stack b x.instr) (suc i)
  next-height i b false x e l k = refl
  next-height i b true x e l k = go (goes_on x.instr) refl
    where
      go : (g : Bool) → goes_on x.instr ≡ g → Before g (height_after g c.stack b x.instr) (suc i)
      go true h = rw e (step-on i b (rw e at h) (k l))
      go false h = refl

  here-within : (on : Bool) (b i : ℕ) (s : State) → get_or st i none ≡ some s → Before on b i → length s.stack ≤ b
  here-within true b i s x k =
      let (t, y, e) = k (a.inside i s (there i s x)) in
      omega (arith, e, ap (λ (z : State). length z.stack) (some_inj (sym x ∙ y)))
  here-within false b i s x k = omega (arith, (a.sized i s (there i s x)).stack)

  heights-from : (code : List Line) (on : Bool) (b i : ℕ) → i + length code ≡ length c.code → ((j : ℕ) → get_or code j no_line ≡ line_at c (i + j)) → Before on b i
      → (j : ℕ) (s : State) → get_or st (i + j) none ≡ some s → length s.stack ≤ height_at c.stack on b code j
  unfolding height_at
  heights-from [] on b i n q k j s x = (a.sized (i + j) s (there (i + j) s x)).stack
  heights-from (y ∷ ys) on b i n q k zero s x = here-within on b i s (rw (add-zero i) at x) k
  heights-from (y ∷ ys) on b i n q k (suc j) s x =
      heights-from ys _ _ (suc i) (omega arith) (λ h. rw (← suc-out i h) (q (suc h))) (next-height i b on y (rw (add-zero i) at (q 0)) (omega arith) k) j s (rw (← suc-out i j) x)

  -- THEOREM: no recorded state is higher
  pub within-heights : (j : ℕ) (s : State) → get_or st j none ≡ some s → length s.stack ≤ height_at c.stack true 0 c.code j
  unfolding line_at
  within-heights j s x = heights-from c.code true 0 0 (zero-add (length c.code)) (λ h. rw (zero-add h)) first-height j s (rw (zero-add j) x)
