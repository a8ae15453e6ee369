-- A state that takes in another keeps the ways that validation found for it: a test's condition is never of no kind there.
use Prim.Native.Nat.{ℕ, suc, ◌+◌, ◌-◌, ◌<◌, ◌≤◌, ◌%◌}
use native.Mathlib.Omega.{arith}
use native.Mathlib.Decide.{dec_lt}
use mathlib.Core.Path.{◌≡◌, refl, sym, ◌∙◌, ap}
use mathlib.Core.Logic.{◌⊎◌, inl, inr, ◌≢◌}
use mathlib.Core.Bool.{Bool, true, false, not, cond, true≢false}
use mathlib.Core.Option.{Option, none, some}
use mathlib.Core.List.{List, [], ◌∷◌, Memᴰ}
use lib.Bits.{bit_or, bit_and, or_mod, and_comm}
use lib.Dec.{eqb}
use lib.ListN.{length, get_or, drop, length-drop, get_or-eq_default}
use lib.Seq.{get_or-drop}
use borrow.Author.Tests.{eqb-true}
use Rattle.masks.proofs.Both.{both}
use Rattle.masks.specs.declared.Mask.{Mask}
use Rattle.masks.specs.Mask.{of, union, has}
use Rattle.masks.specs.Mask.{same as same_mask}
use Rattle.masks.specs.Names.{NONE, FALSE, TRUE, ENUM}
use Rattle.flows.specs.declared.Predicate.{Predicate}
use Rattle.flows.specs.declared.Predicate.TheVariants.{Nothing as Untested}
use Rattle.flows.specs.Flow.{join_predicate, same_predicate, join_flow}
use Rattle.cells.specs.declared.Cell.{Cell}
use Rattle.cells.specs.Cell.{join_cell}
use Rattle.ops.specs.declared.Exit.{Exit}
use Rattle.ops.specs.declared.Exit.TheVariants.{Next, Stops, Jumps, Ifs, Breaks, Restarts}
use Rattle.ops.specs.declared.Asks.{Asks}
use Rattle.ops.specs.declared.Asks.TheVariants.{First}
use Rattle.ops.specs.declared.Acts.TheVariants.{Still}
use Rattle.join_laws.proofs.Masks.{or-le-r, none-of-or, mask-equals}
use Rattle.join_laws.proofs.Flat.{flat-kept}
use Rattle.join_laws.proofs.Flows.{predicate-equals}
use Rattle.join_laws.proofs.Cells.{cell-joins, cell-mask}
use Rattle.definition.specs.declared.Ask.TheVariants.{First as AskFirst}
use Rattle.definition.specs.declared.Want.{Want}
use Rattle.definition.specs.Res.{ok}
use Rattle.definition.specs.Machine.{Effect}
use Rattle.definition.specs.Module.{Chunk}
use Rattle.definition.specs.State.{State, Facts, Gift}
use Rattle.definition.specs.Outputs.{Visit, arg, instr, shared, no_cell, setting}
use Rattle.definition.specs.Wants.{require, wants, is_entry, pair_kinds, want_by, declared_mask, want_of, at_index, operand_check, operand_checks, checks_by, checks, is_proven, all_proven, unpacked, unfit}
use Rattle.definition.specs.Ways.{branch, exit_of, exit_from, ways_of, receiver_on, narrowing, along, narrowed, set_locals, kept, is_reset, after, leaving}
use Rattle.definition.specs.Leaves.{Known, visit_of, leaves, line_at}
use Rattle.definition.specs.Report.{is_test}
use Rattle.definition.proofs.Next.{exit-test}
use Rattle.machine_laws.proofs.Bind.{none≢some}
use Rattle.rule_laws.proofs.Tests.{test-rule}
use Rattle.consistent.specs.Consistent.{TakesAll, TakesIn}
use Rattle.consistent.proofs.Visits.{accepted, branch_in, leaving-in, in-leaving}

-- ---- a proven operand is of some kind
no_kind : (allowed : Mask) → is_proven (require (of 0) allowed) ≡ true → ⊥
unfolding require is_proven
no_kind allowed h = true≢false (sym h)

-- of no kind at all
abbrev Nothing : Mask → Type 0
Nothing m = m.bits ≡ 0

proven-some : (m allowed : Mask) → is_proven (require m allowed) ≡ true → Nothing m → ⊥
proven-some m allowed h e = no_kind allowed (rw (ap of e) at h)

-- the operand of a test that validation accepts
operand-some : (v : Visit) (m : Mask) (l : List Cell) → all_proven (operand_checks v (wants AskFirst m NONE) 0 l) ≡ true
    → (l ≡ []) ⊎ (Nothing (get_or l 0 no_cell).mask → ⊥)
unfolding all_proven operand_checks operand_check at_index
operand-some v m [] h = inl refl
operand-some v m (c ∷ cs) h = inr (proven-some c.mask m (both (is_proven (require c.mask m)) _ h).0)

want-first : (v : Visit) (m : Mask) → v.rule.asks ≡ First m → want_of v ≡ wants AskFirst m NONE
unfolding want_of want_by
want-first v m e = ap (λ (a : Asks). want_by a v.rule.slots (instr v) (shared v) (pair_kinds v) (declared_mask v) (is_entry v)) e

checked-first : (v : Visit) (m : Mask) → v.rule.asks ≡ First m → all_proven (checks v) ≡ true
    → all_proven (operand_checks v (wants AskFirst m NONE) 0 v.args) ≡ true
unfolding checks checks_by
checked-first v m e h = ap (λ (w : Want). all_proven (checks_by v w w.ask)) (sym (want-first v m e)) ∙ h

test-some : (v : Visit) (m : Mask) → v.rule.asks ≡ First m → unfit v ≡ 0 → (v.args ≡ []) ⊎ (Nothing (arg v 0).mask → ⊥)
unfolding unfit
test-some v m e h = operand-some v m v.args (checked-first v m e (go (all_proven (checks v)) (unpacked v v.rule.makes) h))
  where
    go : (a b : Bool) → ◌≡◌ {A = ℕ} (cond a (cond b 15 0) 13) 0 → a ≡ true
    go true b h = refl
    go false b h = absurd (omega arith)

-- ---- the ways
-- a mask of one kind takes in nothing, or itself
abbrev Single : Mask → Type 0
Single b = (m : Mask) → union b m ≡ b → (Nothing m → ⊥) → m ≡ b

in_two : (m : ℕ) → bit_or 2 m ≡ 2 → m ≢ 0 → m ≡ 2
in_two m e n = omega (arith, rw e at (or_mod 2 m 1), rw e at (or-le-r 2 m))

of_parts : (m : ℕ) → m % 4096 ≡ 0 → m ≤ 4096 → m ≢ 0 → m ≡ 4096
of_parts m a b c = omega arith

in-4096 : (m : ℕ) → bit_or 4096 m ≡ 4096 → m ≢ 0 → m ≡ 4096
in-4096 m e n = of_parts m (sym (rw e at (or_mod 4096 m 12))) (rw e at (or-le-r 4096 m)) n

single-false : Single FALSE
single-false m e n = ap of (in_two m.bits (ap (λ (z : Mask). z.bits) e) n)

single-true : Single TRUE
single-true m e n = ap of (in-4096 m.bits (ap (λ (z : Mask). z.bits) e) n)

-- the wider condition is the same, or the other is of some kind
abbrev Known' : Mask → Mask → Type 0
Known' wide was = (wide ≡ was) ⊎ (Nothing was → ⊥)

branch-wider : (wide was jumps stays : Mask) (next target to : ℕ) → Single jumps → Single stays → union wide was ≡ wide → Known' wide was
    → Memᴰ to (branch was jumps stays next target) → Memᴰ to (branch wide jumps stays next target)
unfolding branch
branch-wider wide was jumps stays next target to sj ss e (inl p) h = rw p h
branch-wider wide was jumps stays next target to sj ss e (inr n) h = go (same_mask wide jumps) (same_mask wide stays) refl refl
  where
    single : (b : Mask) → Single b → same_mask wide b ≡ true → Memᴰ to (branch wide jumps stays next target)
    single b s q =
        let w : wide ≡ b = mask-equals.sound wide b q in
        rw (s was (rw w at e) n ∙ sym w) at h

    either : (to ≡ next) ⊎ (to ≡ target) → Memᴰ to (next ∷ target ∷ [])
    either (inl p) = Memᴰ.head p
    either (inr p) = Memᴰ.tail (Memᴰ.head p)

    go : (a b : Bool) → same_mask wide jumps ≡ a → same_mask wide stays ≡ b → Memᴰ to (branch wide jumps stays next target)
    go true b p q = single jumps sj p
    go false true p q = single stays ss q
    go false false p q = rw (p, q) (either (branch_in was jumps stays next target to h))

ways-wider : (x : Exit) (i target : ℕ) (wide was : Mask) (to : ℕ) → union wide was ≡ wide → (is_test x ≡ true → Known' wide was)
    → Memᴰ to (ways_of x i target was) → Memᴰ to (ways_of x i target wide)
unfolding ways_of is_test
ways-wider Next i target wide was to e n h = h
ways-wider Stops i target wide was to e n h = h
ways-wider Jumps i target wide was to e n h = h
ways-wider Restarts i target wide was to e n h = h
ways-wider Ifs i target wide was to e n h = branch-wider wide was FALSE TRUE (suc i) target to single-false single-true e (n refl) h
ways-wider Breaks i target wide was to e n h = branch-wider wide was TRUE FALSE (suc i) target to single-true single-false e (n refl) h

-- ---- what is narrowed on a way
has-up : (wide was k : Mask) → union wide was ≡ wide → has was k ≡ true → has wide k ≡ true
has-up wide was k e h = go (eqb (bit_and wide.bits k.bits) 0) refl
  where
    go : (b : Bool) → eqb (bit_and wide.bits k.bits) 0 ≡ b → not b ≡ true
    go false p = refl
    go true p =
        let z : bit_and k.bits (bit_or wide.bits was.bits) ≡ 0 = rw (ap (λ (m : Mask). m.bits) e, and_comm k.bits wide.bits) (eqb-true _ 0 p) in
        let y : bit_and was.bits k.bits ≡ 0 = and_comm was.bits k.bits ∙ (none-of-or k.bits wide.bits was.bits z).1 in
        rw (ap (λ (n : ℕ). not (eqb n 0)) y) at h

-- every local may be an enum where it might before
abbrev Enums : State → State → Type 0
Enums y y₀ = (r : ℕ) → has (get_or y₀.locals r no_cell).mask ENUM ≡ true → has (get_or y.locals r no_cell).mask ENUM ≡ true

along-wider : (y y₀ z₀ : State) (o : Option ℕ) → Enums y y₀ → along y₀ o ≡ some z₀ → (z : State) × (along y o ≡ some z)
unfolding along
along-wider y y₀ z₀ none up h = (y, refl)
along-wider y y₀ z₀ (some r) up h = go (has (get_or y₀.locals r no_cell).mask ENUM) refl h
  where
    go : (b : Bool) → has (get_or y₀.locals r no_cell).mask ENUM ≡ b → cond b (some (narrowed y₀ r)) none ≡ some z₀ → (z : State) × (along y (some r) ≡ some z)
    go true p h = (narrowed y r, rw (up r p))
    go false p h = absurd (none≢some h)

-- the predicate stays or is dropped
kept-predicate : (p q : Predicate) → join_predicate p q ≡ p → (p ≡ Untested) ⊎ (q ≡ p)
kept-predicate p q h = flat-kept same_predicate Untested predicate-equals p q h

narrow-wider : (x : Exit) (p q : Predicate) (target to : ℕ) (y y₀ z₀ : State) → (p ≡ Untested) ⊎ (q ≡ p) → (is_test x ≡ true → Enums y y₀)
    → along y₀ (narrowing x q target to) ≡ some z₀ → (z : State) × (along y (narrowing x p target to) ≡ some z)
unfolding narrowing is_test along receiver_on
narrow-wider x p q target to y y₀ z₀ k up h = go x up h
  where
    -- on a way of a test
    on : (b : Bool) → Enums y y₀ → along y₀ (receiver_on q b) ≡ some z₀ → (p ≡ Untested) ⊎ (q ≡ p) → (z : State) × (along y (receiver_on p b) ≡ some z)
    on b up h (inl e) = (y, rw e refl)
    on b up h (inr e) = along-wider y y₀ z₀ (receiver_on p b) up (rw e at h)

    go : (x : Exit) → (is_test x ≡ true → Enums y y₀) → along y₀ (narrowing x q target to) ≡ some z₀ → (z : State) × (along y (narrowing x p target to) ≡ some z)
    go Next up h = (y, refl)
    go Stops up h = (y, refl)
    go Jumps up h = (y, refl)
    go Restarts up h = (y, refl)
    go Ifs up h = on _ (up refl) h k
    go Breaks up h = on _ (up refl) h k

-- ---- a state that takes in another
all-at : (xs ys : List Cell) → TakesAll xs ys → (n : ℕ) → join_cell (get_or xs n no_cell) (get_or ys n no_cell) ≡ get_or xs n no_cell
all-at xs ys t n = go (dec_lt n (length ys))
  where
    go : Dec (n < length ys) → join_cell (get_or xs n no_cell) (get_or ys n no_cell) ≡ get_or xs n no_cell
    go (yes h) = t.each n h
    go (no h) =
        let l : length ys ≤ n = omega arith in
        let l' : length xs ≤ n = omega (arith, t.long) in
        rw (get_or-eq_default ys no_cell l, get_or-eq_default xs no_cell l') (cell-joins.idem no_cell)

-- the local masks of a test's visit are its state's
pub still-locals : (v : Visit) → v.rule.acts ≡ Still → (after v).locals ≡ v.locals
unfolding after is_reset kept setting set_locals
still-locals v e = rw e

-- the operands on top of two stacks of one height
top-takes : (xs ys : List Cell) (n : ℕ) → TakesAll xs ys
    → join_cell (get_or (drop (length xs - n) xs) 0 no_cell) (get_or (drop (length ys - n) ys) 0 no_cell) ≡ get_or (drop (length xs - n) xs) 0 no_cell
top-takes xs ys n t =
    rw (← t.long, get_or-drop (length xs - n) xs 0 no_cell, get_or-drop (length xs - n) ys 0 no_cell) (all-at xs ys t (length xs - n + 0))

empty-list : (l : List Cell) → length l ≡ 0 → l ≡ []
empty-list [] h = refl
empty-list (x ∷ xs) h = absurd (omega arith)

top-empty : (xs ys : List Cell) (n : ℕ) → length xs ≡ length ys → drop (length ys - n) ys ≡ [] → drop (length xs - n) xs ≡ []
top-empty xs ys n e h =
    empty-list (drop (length xs - n) xs)
    (omega (arith, length-drop (length xs - n) xs, length-drop (length ys - n) ys, ap (λ (l : List Cell). length l) h))

module _ (k : Known) (c : Chunk) (f : Facts) (i : ℕ) (s was : State) (t : TakesIn s was) where
  abbrev v : Visit
  v = visit_of k c f i s

  abbrev v₀ : Visit
  v₀ = visit_of k c f i was

  operand : join_cell (arg v 0) (arg v₀ 0) ≡ arg v 0
  unfolding visit_of
  operand = top-takes s.stack was.stack (line_at c i).instr.taken t.stack

  test : is_test (exit_from v) ≡ true → is_test v₀.rule.exit ≡ true
  unfolding visit_of
  test u = exit-test v.rule.exit v.at (instr v).a u

  condition : is_test v₀.rule.exit ≡ true → unfit v₀ ≡ 0 → Known' (arg v 0).mask (arg v₀ 0).mask
  unfolding visit_of
  condition u h =
      let a = (test-rule (line_at c i).instr.op u).asks in
      elim (test-some v₀ a.0 a.1 h) [
        | inl e ↦ inl (rw (e, top-empty s.stack was.stack (line_at c i).instr.taken t.stack.long e))
        | inr n ↦ inr n
      ]

  enums : is_test v₀.rule.exit ≡ true → Enums (after v) (after v₀)
  unfolding visit_of
  enums u r h =
      let e = (test-rule (line_at c i).instr.op u).acts in
      let l : (after v).locals ≡ s.locals = still-locals v e in
      let l₀ : (after v₀).locals ≡ was.locals = still-locals v₀ e in
      rw l (has-up _ _ ENUM (cell-mask _ _ (all-at s.locals was.locals t.locals r)) (rw l₀ at h))

  -- what leaves the smaller state goes a way of the wider one
  pub wider : (e : Effect State Gift) → leaves k true c f i was ≡ ok e → (to : ℕ) (x : State) → Memᴰ {A = ℕ × State} (to, x) e.ways
      → (y : State) × Memᴰ {A = ℕ × State} (to, y) (leaving (visit_of k c f i s))
  unfolding leaving visit_of join_cell join_flow
  wider e h to x m =
      let a = accepted k true c f i was e h in
      let (w₀, g₀) = leaving-in v₀ (after v₀) _ to x (rw (← a.is) at m) in
      let w = ways-wider (exit_from v) i (instr v).a (arg v 0).mask (arg v₀ 0).mask to (cell-mask _ _ operand) (λ u. condition (test u) a.proven) w₀ in
      let (y, g) =
      narrow-wider (exit_from v) (arg v 0).flow.predicate (arg v₀ 0).flow.predicate (instr v).a to (after v) (after v₀) x
      (kept-predicate _ _ (ap (λ (z : Cell). z.flow.predicate) operand)) (λ u. enums (test u)) g₀ in
      (y, in-leaving v (after v) _ to y g w)
