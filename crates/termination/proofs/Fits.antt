-- The definition's states and facts stay within bounds: small cells, stacks and locals of bounded length, results and flows as many as at the
-- start; a visit gives only to places that are there.
use Prim.Native.Nat.{ℕ, zero, suc, ◌+◌, ◌<◌, ◌≤◌}
use native.Mathlib.Omega.{arith}
use mathlib.Core.Path.{◌≡◌, refl, sym, ◌∙◌, ap}
use mathlib.Core.Bool.{Bool, true, false, cond, ◌||◌}
use mathlib.Core.Option.{Option, none, some}
use mathlib.Core.List.{List, [], ◌∷◌}
use lib.Dec.{ltb}
use lib.ListN.{length, get_or, length-set, length-map}
use borrow.Author.Tests.{ltb-false}
use Rattle.masks.specs.Mask.{has}
use Rattle.masks.specs.Names.{ENUM}
use Rattle.cells.specs.declared.Cell.{Cell}
use Rattle.cells.specs.Cell.{bare_cell}
use Rattle.description.specs.declared.Instr.{Instr}
use Rattle.ops.specs.declared.Acts.{Acts}
use Rattle.ops.specs.declared.Acts.TheVariants.{Still, SetsLocal, Yields, Calls, Returns, Resets, Stores}
use Rattle.ops.specs.declared.Data.{Data}
use Rattle.ops.specs.declared.Data.TheVariants.{NoSlot, OneSlot, ManySlots}
use Rattle.machine_laws.proofs.All.{All, nil, cons, all_set, all_replicate, Opt}
use Rattle.machine_laws.proofs.Bind.{bad≢ok, ok-inj}
use Rattle.machine_laws.proofs.Carry.{Keeps}
use Rattle.definition.specs.Res.{ok}
use Rattle.definition.specs.Machine.{Joined, Effect}
use Rattle.definition.specs.Module.{Module, Chunk, row}
use Rattle.definition.specs.State.{State, Facts, Live, Gift, nothing, arguments, returned, written, join_cells, join_states, join_if, join}
use Rattle.definition.specs.Data.{slot_count, slots_from, crossed, data_fault}
use Rattle.definition.specs.Outputs.{Visit, Setting, instr, no_cell, outputs, setting}
use Rattle.definition.specs.Ways.{narrowed, along, set_locals, kept, reset_first, is_reset, reset, after, on_way, leaving_by, leaving}
use Rattle.definition.specs.Wants.{unfit, is_entry}
use Rattle.definition.specs.Wants.{returned as below}
use Rattle.definition.specs.Leaves.{Known, visit_of, height_fault, visited, leaves, always, hopeless, nothing_below, gives_by, gives, join_at, write_slot, write_slots, absorb, opened, closed}
use Rattle.definition.specs.Start.{filled, start}
use Rattle.definition.specs.Call.{analysis_of}
use Rattle.report_laws.proofs.Carried.{unless-use, ModuleHas, ChunkHas, StateHas, FactsHave, LiveHas, GiftHas}
use Rattle.report_laws.proofs.Carried.{keeps as all_keep}
use Rattle.termination.proofs.Small.{SmallMask, SmallWidth, SmallFlow, SmallCell, small-from, small-laws}
use Rattle.termination.proofs.Fades.{Inside, slot-long, slot-results}

-- ---- heights
pub record Long (height width : ℕ) (s : State) : Type 0 where
  pub stack : length s.stack ≤ height
  pub locals : length s.locals ≤ width

along-long : (h l : ℕ) (x : State) (o : Option ℕ) → Long h l x → Opt (Long h l) (along x o)
unfolding along narrowed
along-long h l x none p = p
along-long h l x (some r) p = go (has (get_or x.locals r no_cell).mask ENUM)
  where
    narrow : Long h l (narrowed x r)
    narrow = record { stack = let q = p.stack in simp length-map (omega arith); locals = let q = p.locals in simp length-set (omega arith) }

    go : (b : Bool) → Opt (Long h l) (cond b (some (narrowed x r)) none)
    go true = narrow
    go false = tt

way_long : (h l to : ℕ) (o : Option State) (ws : List (ℕ × State)) → Opt (Long h l) o → All (λ w. Long h l w.1) ws → All (λ w. Long h l w.1) (on_way to o ws)
unfolding on_way
way_long h l to none ws p a = a
way_long h l to (some x) ws p a = cons p a

ways-long : (h l : ℕ) (v : Visit) (x : State) (tos : List ℕ) → Long h l x → All (λ w. Long h l w.1) (leaving_by v x tos)
unfolding leaving_by
ways-long h l v x [] p = nil
ways-long h l v x (to ∷ tos) p = way_long h l to _ _ (along-long h l x _ p) (ways-long h l v x tos p)

set_long : (o : Option Setting) (ls : List Cell) → length (set_locals o ls) ≡ length ls
unfolding set_locals
set_long none ls = refl
set_long (some x) ls = simp (length-set, length-map)

reset-long : (b : Bool) (c : Cell) (ls : List Cell) → length (reset_first b c ls) ≡ length ls
unfolding reset_first
reset-long b c [] = refl
reset-long b c (x ∷ xs) = simp length-map

after-long : (v : Visit) → length (after v).locals ≡ length v.locals
unfolding after reset kept
after-long v = go (is_reset v.rule.acts)
  where
    go : (b : Bool) → length (cond b (reset v (outputs v)) (kept v (outputs v) (setting v v.rule.acts))).locals ≡ length v.locals
    go true = reset-long v.streams v.reply v.locals
    go false = set_long (setting v v.rule.acts) v.locals

cells-long : (xs ys : List Cell) → length (join_cells xs ys) ≡ length xs
unfolding join_cells
cells-long [] ys = refl
cells-long (x ∷ xs) [] = refl
cells-long (x ∷ xs) (y ∷ ys) = let h = cells-long xs ys in omega arith

filled-long : (n : ℕ) (cs : List Cell) → length (filled n cs) ≡ n
unfolding filled
filled-long zero cs = refl
filled-long (suc n) [] = let h = filled-long n [] in omega arith
filled-long (suc n) (c ∷ cs) = let h = filled-long n cs in omega arith

-- ---- the slots that a visit writes are there
row_inside : (n i k : ℕ) → i + k ≤ n → All (λ m. m < n) (row (λ j. j) i k)
unfolding row
row_inside n i zero l = nil
row_inside n i (suc k) l = cons {x = i} (omega arith) (row_inside n (suc i) k (omega arith))

-- a choice that is 0 where the first is not
second-zero : (b : Bool) (k n : ℕ) → (k ≡ 0 → ⊥) → cond b k n ≡ 0 → (b ≡ false) × (n ≡ 0)
second-zero true k n h e = absurd (h e)
second-zero false k n h e = (refl, e)

slots-inside : (m : Module) (i : Instr) (d : Data) → data_fault m i d ≡ 0 → All (λ n. n < m.slots) (slots_from i d)
unfolding data_fault slots_from slot_count row
slots-inside m i NoSlot e = nil
slots-inside m i OneSlot e =
    let t = (second-zero (ltb m.slots (i.a + 1)) 13 (cond (crossed m i OneSlot) 14 0) (λ h. omega arith) e).0 in
    row_inside m.slots i.a 1 (ltb-false m.slots (i.a + 1) t)
slots-inside m i ManySlots e =
    let t = (second-zero (ltb m.slots (i.a + i.b)) 13 _ (λ h. omega arith) e).0 in
    row_inside m.slots i.a i.b (ltb-false m.slots (i.a + i.b) t)

-- ---- all together
module _ (most height width results slots : ℕ) where
  pub record StateFits (s : State) : Type 0 where
    pub cells : StateHas (SmallCell most) (SmallFlow most) SmallMask (SmallWidth most) s
    pub long : Long height width s

  pub record FactsFit (f : Facts) : Type 0 where
    pub cells : FactsHave (SmallCell most) (SmallFlow most) SmallMask (SmallWidth most) f
    pub results-are : length f.results ≡ results
    pub flows-are : length f.flows ≡ slots

  pub record LiveFits (f : Live) : Type 0 where
    pub cells : LiveHas (SmallCell most) (SmallFlow most) SmallMask (SmallWidth most) f
    pub results-are : length f.known.results ≡ results
    pub flows-are : length f.known.flows ≡ slots

  abbrev pub GiftFits : Gift → Type 0
  GiftFits nothing = Unit {0}
  GiftFits (arguments n cs) = All (SmallCell most) cs
  GiftFits (returned n c) = (n < results) × SmallCell most c
  GiftFits (written ns c) = All (λ n. n < slots) ns × SmallCell most c

  pub record ChunkFits (c : Chunk) : Type 0 where
    pub cells : ChunkHas (SmallCell most) (SmallFlow most) SmallMask (SmallWidth most) c
    pub stack : c.stack ≤ height
    pub locals : c.locals ≤ width
    pub number : c.reachable ≡ true → c.number < results

  gift-cells : (g : Gift) → GiftFits g → GiftHas (SmallCell most) (SmallFlow most) SmallMask (SmallWidth most) g
  gift-cells nothing p = tt
  gift-cells (arguments n cs) p = p
  gift-cells (returned n c) p = p.1
  gift-cells (written ns c) p = p.1

  -- what a gift is to the facts that take it in
  pub gift-inside : (f : Live) (g : Gift) → LiveFits f → GiftFits g → Inside most f g
  gift-inside f nothing p q = tt
  gift-inside f (arguments n cs) p q = q
  gift-inside f (returned n c) p q = (rw p.results-are q.0, q.1)
  gift-inside f (written ns c) p q = (rw p.flows-are q.0, q.1)

  both-fit : {os : List (Option State)} → All (Opt (StateHas (SmallCell most) (SmallFlow most) SmallMask (SmallWidth most))) os → All (Opt (Long height width)) os
      → All (Opt StateFits) os
  both-fit nil nil = nil
  both-fit (cons {x = none} p a) (cons q b) = cons {x = none} tt (both-fit a b)
  both-fit (cons {x = some s} p a) (cons q b) = cons {x = some s} (record { cells = p; long = q }) (both-fit a b)

  ways-fit : {ws : List (ℕ × State)} → All (λ w. StateHas (SmallCell most) (SmallFlow most) SmallMask (SmallWidth most) w.1) ws → All (λ w. Long height width w.1) ws
      → All (λ w. StateFits w.1) ws
  ways-fit nil nil = nil
  ways-fit (cons p a) (cons q b) = cons (record { cells = p; long = q }) (ways-fit a b)

  join-long : (b : Bool) (s x : State) (j : Joined State) → join_if b s x ≡ ok j → Long height width s → Long height width j.value
  unfolding join_if join_states
  join-long true s x j e p =
      let a = cells-long s.stack x.stack in
      let b = cells-long s.locals x.locals in
      let c = p.stack in
      let d = p.locals in
      rw (← ok-inj e) (record { stack = omega arith; locals = omega arith })
  join-long false s x j e p = absurd (bad≢ok e)

  start-long : (c : Chunk) (f : Facts) → c.locals ≤ width → All (Opt (Long height width)) (start c f)
  unfolding start
  start-long c f l =
      all_set (Opt (Long height width)) 0 {x = some (record { stack = []; locals = filled c.locals (get_or f.inputs c.number []) })}
      (record { stack = omega arith; locals = let h = filled-long c.locals (get_or f.inputs c.number []) in omega arith })
      (all_replicate (Opt (Long height width)) (length c.code) {x = none} tt)

  flows_long : (m : Module) (f : Live) (ns : List ℕ) (c : Cell)
      → (length (write_slots m f ns c).known.results ≡ length f.known.results) × (length (write_slots m f ns c).known.flows ≡ length f.known.flows)
  unfolding write_slots
  flows_long m f [] c = (refl, refl)
  flows_long m f (n ∷ ns) c =
      let (p, q) = flows_long m (write_slot m f n c) ns c in
      (p ∙ ap length (slot-results m f n c), q ∙ slot-long m f n c)

  absorb-long : (m : Module) (f : Live) (g : Gift)
      → (length (absorb m f g).known.results ≡ length f.known.results) × (length (absorb m f g).known.flows ≡ length f.known.flows)
  unfolding absorb join_at
  absorb-long m f nothing = (refl, refl)
  absorb-long m f (arguments n cs) = (refl, refl)
  absorb-long m f (returned n c) = (length-set f.known.results n _, refl)
  absorb-long m f (written ns c) = flows_long m f ns c

  gives-inside : (v : Visit) (k : Acts) → data_fault v.code (instr v) v.rule.slots ≡ 0 → v.chunk.number < results → v.code.slots ≡ slots
      → GiftHas (SmallCell most) (SmallFlow most) SmallMask (SmallWidth most) (gives_by v k) → GiftFits (gives_by v k)
  unfolding gives_by
  gives-inside v Still e l z p = tt
  gives-inside v SetsLocal e l z p = tt
  gives-inside v Yields e l z p = tt
  gives-inside v Calls e l z p = p
  gives-inside v Returns e l z p = go (is_entry v) p
    where
      go : (b : Bool) → GiftHas (SmallCell most) (SmallFlow most) SmallMask (SmallWidth most) (cond b nothing (returned v.chunk.number (bare_cell (below v))))
          → GiftFits (cond b nothing (returned v.chunk.number (bare_cell (below v))))
      go true p = tt
      go false p = (l, p)
  gives-inside v Resets e l z p = tt
  gives-inside v Stores e l z p = (rw (← z) (slots-inside v.code (instr v) v.rule.slots e), p)

  visited-fits : (b : Bool) (v : Visit) (e : Effect State Gift) → visited b v ≡ ok e → v.chunk.stack ≤ height → length v.locals ≤ width
      → v.chunk.number < results → v.code.slots ≡ slots
      → GiftHas (SmallCell most) (SmallFlow most) SmallMask (SmallWidth most) e.gives → All (λ w. Long height width w.1) e.ways × GiftFits e.gives
  unfolding visited leaving gives always
  visited-fits b v e q hs hl n z g =
      let (z₁, q₁) = unless-use (always v) _ q in
      let (z₂, q₂) = unless-use (cond b (unfit v) 0) _ q₁ in
      let (z₃, q₃) = unless-use (height_fault v) _ q₂ in
      let d = (second-zero (ltb v.height (instr v).taken || (hopeless v.rule.asks (instr v).a || nothing_below v)) 13 _ (λ h. omega arith) z₁).1 in
      let t = ltb-false v.chunk.stack (length (after v).stack) (second-zero _ 18 0 (λ h. omega arith) z₃).0 in
      let a = after-long v in
      let w : e.gives ≡ gives_by v v.rule.acts = ap (λ (x : Effect State Gift). x.gives) (sym (ok-inj q₃)) in
      rw (← ok-inj q₃) (ways-long height width v _ _ (record { stack = omega arith; locals = omega arith }), gives-inside v v.rule.acts d n z (rw w at g))

  -- THEOREM: every visit keeps the bounds
  pub fits-keep : (whole : 4294967295 ≤ most) (k : Known) (cap : ℕ) → SmallCell most k.reply → ModuleHas (SmallCell most) (SmallFlow most) SmallMask (SmallWidth most) k.code
      → k.code.slots ≡ slots → Keeps (analysis_of k cap) StateFits FactsFit LiveFits GiftFits ChunkFits
  unfolding join leaves opened closed visit_of
  fits-keep whole k cap r m z =
      let all = all_keep (SmallCell most) (SmallFlow most) SmallMask (SmallWidth most) (small-laws most whole) k cap (small-from most whole) r m in
      record {
        joined = λ s x j e p q. record { cells = all.joined s x j e p.cells q.cells; long = join-long _ s x j e p.long };
        starts = λ c f u p. both-fit (all.starts c f u.cells p.cells) (start-long c f u.locals);
        opened = λ f p. record { cells = all.opened f p.cells; results-are = p.results-are; flows-are = p.flows-are };
        viewed = λ f p. record { cells = p.cells.known; results-are = p.results-are; flows-are = p.flows-are };
        closes = λ f p. record { cells = all.closes f p.cells; results-are = p.results-are; flows-are = p.flows-are };
        absorbs = λ f g p q.
            let (a, b) = absorb-long k.code f g in
            record { cells = all.absorbs f g p.cells (gift-cells g q); results-are = a ∙ p.results-are; flows-are = b ∙ p.flows-are };
        left = λ b c f i s e q u h p w.
            let (ways, gift) = all.left b c f i s e q u h.cells p.cells w.cells in
            let (long, inside) = visited-fits b (visit_of k c f i s) e q h.stack w.long.locals (h.number u) z gift in
            (ways-fit ways long, inside);
      }
