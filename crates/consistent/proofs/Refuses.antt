-- Demand 3 refuses what is wrong: closed theorems on the reports of specs/Examples.antt. Each clause has a test that it passes, for every report;
-- a wrong report fails one, by computation. Beside each module stands that the definition accepts it, with the report that the others
-- differ from.
use Rattle.std.specs.Prelude.{Option as Maybe, None, Some}
use Prim.Native.Nat.{ℕ, zero, suc, ◌<◌, ◌≤◌}
use native.Mathlib.Omega.{arith}
use mathlib.Core.Path.{◌≡◌, refl, sym, ◌∙◌, ap, ap₂}
use mathlib.Core.Logic.{◌⊎◌, inl, inr}
use mathlib.Core.Bool.{Bool, true, false, cond, not, ◌&&◌, ◌||◌, true≢false}
use mathlib.Core.Option.{Option, none, some}
use mathlib.Core.List.{List, [], ◌∷◌, ◌++◌, Memᴰ}
use lib.Dec.{eqb, ltb, leb}
use lib.ListN.{length, get_or}
use borrow.Author.Tests.{eq-eqb, eqb-true, lt-ltb, ltb-true, le-leb}
use Rattle.masks.proofs.Both.{both}
use Rattle.masks.specs.declared.Mask.{Mask}
use Rattle.masks.specs.Mask.{within}
use Rattle.masks.specs.Names.{NONE}
use Rattle.flows.specs.Flow.{join_flow, no_flow, same_origin}
use Rattle.cells.specs.declared.Cell.{Cell}
use Rattle.cells.specs.Cell.{join_cell}
use Rattle.cases.specs.Computed.{computed}
use Rattle.join_laws.proofs.Masks.{takes-within}
use Rattle.join_laws.proofs.Cells.{cell-within}
use Rattle.join_laws.proofs.Flat.{flat-kept}
use Rattle.join_laws.proofs.Flows.{origin-equals}
use Rattle.definition.specs.Module.{Module, Chunk}
use Rattle.definition.specs.State.{State, Facts, Gift, nothing, arguments, returned, written}
use Rattle.definition.specs.Data.{is_body}
use Rattle.definition.specs.Outputs.{no_cell}
use Rattle.definition.specs.Ways.{leaving}
use Rattle.definition.specs.Leaves.{gives}
use Rattle.definition.specs.Start.{admitted, overfull, first_facts, init_mask, reply_maximum, known_of}
use Rattle.definition.specs.Report.{Report, Record, record_of, report_bytes}
use Rattle.definition.specs.Call.{reported, decided}
use Rattle.report_laws.specs.Names.{NamesLocal}
use Rattle.report_laws.specs.Read.{row_at, read_width, read_extent, read_owned, read_origin, read_predicate, read_cell, read_cells, inputs_in, read_signature, read_output, read_guard, read_record, read_inspection, read_branch, read_from, read_report}
use Rattle.consistent.specs.Rising.{Before, RisingBy}
use Rattle.consistent.specs.Consistent.{Consistent, Arrives, Recorded, Reached, first, then, TakesCell, WrittenIn, fresh_slot, facts_of, state_of, visit_at, GivenIn}
use Rattle.consistent.specs.Examples.{right, no_record, testing, tests, missing, twice, unreached, too_high, too_wide, other_local, guarded, other_reply, caller, callee, calls, first_round, no_return, writer, writes, unwritten, named_slot, decides, branch_twice, inspection_twice, unsigned, overflowing, garbage}

failed : (b : Bool) → b ≡ true → b ≡ false → ⊥
failed b p q = true≢false (sym p ∙ q)

at_mem : {A : Type 0} (d : A) (l : List A) (i : ℕ) → i < length l → Memᴰ (get_or l i d) l
at_mem d [] i h = absurd (omega arith)
at_mem d (x ∷ xs) zero h = Memᴰ.head refl
at_mem d (x ∷ xs) (suc i) h = Memᴰ.tail (at_mem d xs i (omega arith))

or-true : (a b : Bool) → b ≡ true → (a || b) ≡ true
or-true true b h = refl
or-true false b h = h

-- ---- what rises by chunk and instruction
module _ {A : Type 0} (chunk at : A → ℕ) where
  abbrev is_before : A → A → Bool
  is_before x y = ltb (chunk x) (chunk y) || (eqb (chunk x) (chunk y) && ltb (at x) (at y))

  abbrev rise : List A → Bool
  rise [] = true
  rise (x ∷ []) = true
  rise (x ∷ (y ∷ ys)) = is_before x y && rise (y ∷ ys)

  before-is : (x y : A) → Before chunk at x y → is_before x y ≡ true
  before-is x y (inl l) = rw (lt-ltb (chunk x) (chunk y) l)
  before-is x y (inr l) = or-true (ltb (chunk x) (chunk y)) _ (rw (eq-eqb (chunk x) (chunk y) l.0) (lt-ltb (at x) (at y) l.1))

  rising-is : (xs : List A) → RisingBy chunk at xs → rise xs ≡ true
  rising-is [] h = refl
  rising-is (x ∷ []) h = refl
  rising-is (x ∷ (y ∷ ys)) h = rw (before-is x y (h.0 y (Memᴰ.head refl))) (rising-is (y ∷ ys) h.1)

  falls : (xs : List A) → rise xs ≡ false → RisingBy chunk at xs → ⊥
  falls xs e h = failed (rise xs) (rising-is xs h) e

-- ---- whether an instruction is recorded
abbrev is_recorded : ℕ → ℕ → List Record → Bool
is_recorded c i [] = false
is_recorded c i (x ∷ xs) = (eqb x.chunk c && eqb x.instruction i) || is_recorded c i xs

listed-is : (c i : ℕ) (x : Record) (xs : List Record) → Memᴰ x xs → x.chunk ≡ c → x.instruction ≡ i → is_recorded c i xs ≡ true
listed-is c i x (y ∷ ys) (Memᴰ.head e) p q = rw (← e, eq-eqb x.chunk c p, eq-eqb x.instruction i q)
listed-is c i x (y ∷ ys) (Memᴰ.tail m) p q = or-true (eqb y.chunk c && eqb y.instruction i) _ (listed-is c i x ys m p q)
listed-is c i x [] x4 p q = elim x4 [ ]

-- ---- what is given, by kinds
abbrev take_in : List Cell → List Cell → Bool
take_in ins [] = true
take_in [] (c ∷ cs) = false
take_in (i ∷ ins) (c ∷ cs) = within c.mask i.mask && take_in ins cs

abbrev slots_take_in : Module → Facts → Cell → List ℕ → Bool
slots_take_in m f c [] = true
slots_take_in m f c (n ∷ ns) = (not (is_body m n || leb (length m.shared) n) || within c.mask (get_or f.masks n NONE)) && slots_take_in m f c ns

abbrev takes_gift : Module → Facts → Gift → Bool
takes_gift m f nothing = true
takes_gift m f (arguments n cs) = take_in (get_or f.inputs n []) cs
takes_gift m f (returned n c) = within c.mask (get_or f.results n no_cell).mask
takes_gift m f (written ns c) = slots_take_in m f c ns

inputs-take : (ins cs : List Cell) → length cs ≤ length ins → ((i : ℕ) → i < length cs → TakesCell (get_or ins i no_cell) (get_or cs i no_cell)) → take_in ins cs ≡ true
inputs-take ins [] l h = refl
inputs-take [] (c ∷ cs) l h = absurd (omega arith)
inputs-take (i ∷ ins) (c ∷ cs) l h = rw (cell-within i c (h 0 (omega arith))) (inputs-take ins cs (omega arith) (λ k q. h (suc k) (omega arith)))

slots-take : (m : Module) (f : Facts) (ns : List ℕ) (c : Cell) → ((n : ℕ) → Memᴰ n ns → WrittenIn m f n c) → slots_take_in m f c ns ≡ true
slots-take m f [] c h = refl
slots-take m f (n ∷ ns) c h =
    rw (private (is_body m n || leb (length m.shared) n) refl) (slots-take m f ns c (λ k q. h k (Memᴰ.tail q)))
  where
    private : (b : Bool) → (is_body m n || leb (length m.shared) n) ≡ b → (not b || within c.mask (get_or f.masks n NONE)) ≡ true
    private false e = refl
    private true e = takes-within c.mask (get_or f.masks n NONE) ((h n (Memᴰ.head refl)).mask e)

given_is : (m : Module) (f : Facts) (g : Gift) → GivenIn m f g → takes_gift m f g ≡ true
unfolding GivenIn
given_is m f nothing h = refl
given_is m f (arguments n cs) h = inputs-take (get_or f.inputs n []) cs h.0 h.1
given_is m f (returned n c) h = cell-within (get_or f.results n no_cell) c h.1
given_is m f (written ns c) h = slots-take m f ns c (λ n k. (h n k).1)

-- ---- locals that are named
abbrev origin_under : ℕ → Maybe ℕ → Bool
origin_under n None = true
origin_under n (Some l) = ltb l n

origin-is : (n : ℕ) (o : Maybe ℕ) → NamesLocal (λ l. l < n) o → origin_under n o ≡ true
unfolding NamesLocal
origin-is n None h = refl
origin-is n (Some l) h = lt-ltb l n h

abbrev is_nowhere : Maybe ℕ → Bool
is_nowhere None = true
is_nowhere (Some l) = false

fresh-origin : (x : Cell) (k : Mask) → TakesCell x (fresh_slot k) → is_nowhere x.flow.origin ≡ true
unfolding join_cell join_flow no_flow
fresh-origin x k t = go (flat-kept same_origin None origin-equals x.flow.origin None (ap (λ (z : Cell). z.flow.origin) t))
  where
    go : (x.flow.origin ≡ None) ⊎ (None ≡ x.flow.origin) → is_nowhere x.flow.origin ≡ true
    go (inl e) = rw e
    go (inr e) = rw (← e)

-- ---- a record at the place n, of the chunk c
module _ (m : Module) (r : Report) (c : Chunk) (k : Memᴰ c m.chunks) (u : c.reachable ≡ true) (n : ℕ) where
  abbrev x : Record
  x = get_or r.records n no_record

  abbrev here : Bool
  here = ltb n (length r.records) && eqb x.chunk c.number

  recorded : here ≡ true → Recorded r c.number x.instruction (state_of x)
  recorded e =
      let (p, q) = both (ltb n (length r.records)) (eqb x.chunk c.number) e in
      record {
        entry = x;
        listed = at_mem no_record r.records n (ltb-true n (length r.records) p);
        of-chunk = eqb-true x.chunk c.number q;
        at = refl;
        says = refl;
      }

  abbrev ways : List (ℕ × State)
  ways = leaving (visit_at m r c x.instruction (state_of x))

  abbrev way : ℕ → ℕ × State
  way j = get_or ways j (0, state_of x)

  -- the way j leads to an instruction that isn't recorded
  passes_on : (j : ℕ) → here ≡ true → (ltb j (length ways) && ltb (way j).0 (length c.code)) ≡ true
      → is_recorded c.number (way j).0 r.records ≡ false → Arrives m r → ⊥
  passes_on j e w o h =
      let (p, q) = both (ltb j (length ways)) (ltb (way j).0 (length c.code)) w in
      let (t, d, _) =
      (h.chunks c k u).passes x.instruction (state_of x) (recorded e) (way j).0 (way j).1 (at_mem (0, state_of x) ways j (ltb-true j (length ways) p))
      (ltb-true (way j).0 (length c.code) q) in
      failed _ (listed-is c.number (way j).0 d.entry r.records d.listed d.of-chunk d.at) o

  -- what it gives isn't taken in
  gives_more : here ≡ true → takes_gift m (facts_of r) (gives (visit_at m r c x.instruction (state_of x))) ≡ false → Arrives m r → ⊥
  gives_more e o h = failed _ (given_is m (facts_of r) _ ((h.chunks c k u).given x.instruction (state_of x) (recorded e))) o

  -- another number of locals, a stack above D, a local named in its first cell that the chunk hasn't
  other-locals : here ≡ true → eqb (length (state_of x).locals) c.locals ≡ false → Arrives m r → ⊥
  other-locals e o h = failed _ (eq-eqb _ _ ((h.chunks c k u).sized x.instruction (state_of x) (recorded e)).locals) o

  too-high : here ≡ true → leb (length (state_of x).stack) c.stack ≡ false → Arrives m r → ⊥
  too-high e o h = failed _ (le-leb _ _ ((h.chunks c k u).sized x.instruction (state_of x) (recorded e)).stack) o

  names-other : here ≡ true → ltb 0 (length ((state_of x).stack ++ (state_of x).locals)) ≡ true
      → origin_under c.locals (get_or ((state_of x).stack ++ (state_of x).locals) 0 no_cell).flow.origin ≡ false → Arrives m r → ⊥
  names-other e l o h =
      let z = ((h.chunks c k u).sized x.instruction (state_of x) (recorded e)).names _ (at_mem no_cell ((state_of x).stack ++ (state_of x).locals) 0 (ltb-true 0 _ l)) in
      failed _ (origin-is c.locals _ z.origin) o

  -- guards that don't follow
  other-guards : here ≡ true
      → eqb (length x.guards) (length (record_of (known_of m (first_facts m)) c (facts_of r) x.instruction (state_of x)).guards) ≡ false → Arrives m r → ⊥
  other-guards e o h =
      let (p, q) = both (ltb n (length r.records)) (eqb x.chunk c.number) e in
      let y = (h.chunks c k u).follows x (at_mem no_record r.records n (ltb-true n (length r.records) p)) (eqb-true x.chunk c.number q) in
      failed _ (eq-eqb _ _ (ap (λ (z : Record). length z.guards) y)) o

-- ---- instructions that passes from the first stay among
module _ (m : Module) (r : Report) (c : Chunk) (among : ℕ → Bool) where
  abbrev all_among : List (ℕ × State) → Bool
  all_among [] = true
  all_among (w ∷ ws) = among w.0 && all_among ws

  abbrev stays : Record → Bool
  stays x = cond (eqb x.chunk c.number && among x.instruction) (all_among (leaving (visit_at m r c x.instruction (state_of x)))) true

  abbrev all_stay : List Record → Bool
  all_stay [] = true
  all_stay (x ∷ xs) = stays x && all_stay xs

  way-among : (ws : List (ℕ × State)) (w : ℕ × State) → all_among ws ≡ true → Memᴰ w ws → among w.0 ≡ true
  way-among (y ∷ ys) w h (Memᴰ.head e) = rw e (both (among y.0) (all_among ys) h).0
  way-among (y ∷ ys) w h (Memᴰ.tail k) = way-among ys w (both (among y.0) (all_among ys) h).1 k
  way-among [] w h x3 = elim x3 [ ]

  record-stays : (xs : List Record) (x : Record) → all_stay xs ≡ true → Memᴰ x xs → stays x ≡ true
  record-stays (y ∷ ys) x h (Memᴰ.head e) = rw e (both (stays y) (all_stay ys) h).0
  record-stays (y ∷ ys) x h (Memᴰ.tail k) = record-stays ys x (both (stays y) (all_stay ys) h).1 k
  record-stays [] x h x4 = elim x4 [ ]

  same-ways : (i j : ℕ) (s t : State) → i ≡ j → s ≡ t → all_among (leaving (visit_at m r c i s)) ≡ true → all_among (leaving (visit_at m r c j t)) ≡ true
  same-ways i j s t p q h = ap₂ (λ (k : ℕ) (u : State). all_among (leaving (visit_at m r c k u))) (sym p) (sym q) ∙ h

  reached-among : among 0 ≡ true → all_stay r.records ≡ true → {i : ℕ} → Reached m r c i → among i ≡ true
  reached-among z h first = z
  reached-among z h (then {i = i} to s y q d l) =
      let x = d.entry in
      let a : (eqb x.chunk c.number && among x.instruction) ≡ true = rw (eq-eqb x.chunk c.number d.of-chunk, d.at) (reached-among z h q) in
      let w : all_among (leaving (visit_at m r c x.instruction (state_of x))) ≡ true = rw a at (record-stays r.records x h d.listed) in
      way-among (leaving (visit_at m r c i s)) (to, y) (same-ways x.instruction i (state_of x) s d.at d.says w) l

-- ======== the reports
-- ---- a test
tests-right : decided tests 8 100 ≡ reported (right tests) 12
unfolding right computed
tests-right = refl

abbrev its : Memᴰ testing tests.chunks
its = Memᴰ.head refl

pub missing-refused : Consistent tests missing → ⊥
unfolding right computed visit_at facts_of state_of
missing-refused h = passes_on tests missing testing its refl 1 0 refl refl refl h.arrives

pub twice-refused : Consistent tests twice → ⊥
unfolding right computed
twice-refused h = falls _ _ twice.records refl h.arrives.rising

pub high-refused : Consistent tests too_high → ⊥
unfolding right computed state_of
high-refused h = too-high tests too_high testing its refl 6 refl refl h.arrives

pub wide-refused : Consistent tests too_wide → ⊥
unfolding right computed state_of
wide-refused h = other-locals tests too_wide testing its refl 6 refl refl h.arrives

pub local-refused : Consistent tests other_local → ⊥
unfolding right computed state_of
local-refused h = names-other tests other_local testing its refl 6 refl refl refl h.arrives

pub guard-refused : Consistent tests guarded → ⊥
unfolding right computed facts_of state_of
guard-refused h = other-guards tests guarded testing its refl 0 refl refl h.arrives

abbrev maximum_is : Option ℕ → ℕ → Bool
maximum_is none n = false
maximum_is (some k) n = eqb k n

reply-is : (o : Option ℕ) (n : ℕ) → o ≡ some n → maximum_is o n ≡ true
reply-is o n e = rw e (eq-eqb n n refl)

pub reply-refused : Consistent tests other_reply → ⊥
unfolding right computed
reply-refused h = failed (maximum_is (reply_maximum (known_of tests (first_facts tests)).reply) other_reply.reply) (reply-is _ _ h.arrives.reply) refl

pub unreached-refused : Consistent tests unreached → ⊥
unfolding right computed visit_at facts_of state_of
unreached-refused h =
    let d = recorded tests unreached testing its refl 6 refl in
    failed (ltb 6 6) (reached-among tests unreached testing (λ i. ltb i 6) refl refl (h.reached testing its refl 6 _ d)) refl

-- ---- a call
calls-right : decided calls 8 100 ≡ reported (right calls) 15
unfolding right computed
calls-right = refl

pub first-round-refused : Consistent calls first_round → ⊥
unfolding right computed visit_at facts_of state_of
first-round-refused h = gives_more calls first_round caller (Memᴰ.head refl) refl 1 refl refl h.arrives

pub return_refused : Consistent calls no_return → ⊥
unfolding right computed visit_at facts_of state_of
return_refused h = gives_more calls no_return callee (Memᴰ.tail (Memᴰ.head refl)) refl 4 refl refl h.arrives

-- ---- a private slot
writes-right : decided writes 8 100 ≡ reported (right writes) 12
unfolding right computed
writes-right = refl

pub mask-refused : Consistent writes unwritten → ⊥
unfolding right computed visit_at facts_of state_of
mask-refused h = gives_more writes unwritten writer (Memᴰ.head refl) refl 1 refl refl h.arrives

pub slot-refused : Consistent writes named_slot → ⊥
unfolding right computed
slot-refused h = failed (is_nowhere (get_or named_slot.slots 0 no_cell).flow.origin) (fresh-origin _ (init_mask writes 0) (h.arrives.slots 0 (ltb-true 0 1 refl))) refl

-- ---- listed twice
decides-right : decided decides 8 100 ≡ reported (right decides) 8
unfolding right computed
decides-right = refl

pub branch-refused : Consistent decides branch_twice → ⊥
unfolding right computed
branch-refused h = falls _ _ branch_twice.branches refl h.arrives.branches_rise

pub inspection-refused : Consistent decides inspection_twice → ⊥
unfolding right computed
inspection-refused h = falls _ _ inspection_twice.inspections refl h.arrives.inspections_rise

-- ---- refused before the run
is_none : Option (ℕ × ℕ) → Bool
is_none none = true
is_none (some x) = false

pub unsigned-refused : (r : Report) → Consistent unsigned r → ⊥
unfolding computed is_none
unsigned-refused r h = failed (is_none (admitted unsigned unsigned.chunks)) (ap is_none h.arrives.admits) refl

pub overflow-refused : (r : Report) → Consistent overflowing r → ⊥
unfolding computed
overflow-refused r h = failed (overfull overflowing) refl h.arrives.room

-- ---- read strictly: the report that is read from these bytes is the right one, but they aren't its bytes
garbage-reads : read_report garbage ≡ right tests
unfolding right computed garbage read_report read_from read_signature read_output read_guard read_record read_inspection read_branch read_cells read_cell read_width read_extent read_owned read_origin read_predicate row_at inputs_in
garbage-reads = refl

pub garbage-refused : report_bytes (read_report garbage) ≡ garbage → ⊥
unfolding right computed garbage
garbage-refused h =
    failed (eqb (length (report_bytes (read_report garbage))) (length garbage)) (eq-eqb _ _ (ap length h))
    (ap (λ (r : Report). eqb (length (report_bytes r)) (length garbage)) garbage-reads)
