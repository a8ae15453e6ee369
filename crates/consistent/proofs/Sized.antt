-- What leaves a state of its chunk's size is of that size, and so is what takes it in: all locals, a stack of at most D, no local named that
-- the chunk hasn't.
use Rattle.std.specs.Prelude.{Option as Maybe, None, Some}
use Prim.Native.Nat.{ℕ, zero, suc, ◌<◌, ◌≤◌}
use native.Mathlib.Omega.{arith}
use mathlib.Core.Path.{◌≡◌, refl, ◌∙◌, ap}
use mathlib.Core.Logic.{◌⊎◌, inl, inr}
use mathlib.Core.Bool.{Bool, true, false, cond}
use mathlib.Core.Option.{Option, none, some}
use mathlib.Core.List.{List, [], ◌∷◌, ◌++◌, map, Memᴰ}
use lib.Dec.{ltb}
use lib.ListN.{length, get_or, length-map, length-set, get_or-replicate}
use Rattle.masks.specs.Names.{ENUM}
use Rattle.masks.specs.Mask.{has}
use Rattle.flows.specs.declared.Flow.{Flow}
use Rattle.flows.specs.declared.Predicate.{Predicate}
use Rattle.flows.specs.declared.Predicate.TheVariants.{Nothing as Untested}
use Rattle.flows.specs.Flow.{same_origin, same_predicate, join_flow, no_flow}
use Rattle.cells.specs.declared.Cell.{Cell}
use Rattle.cells.specs.Cell.{join_cell, unit_cell, invalidated_cell}
use Rattle.ops.specs.declared.Makes.TheVariants.{Local as NamedLocal}
use Rattle.ops.specs.Ops.{rule_of}
use Rattle.join_laws.proofs.Flat.{flat-kept}
use Rattle.join_laws.proofs.Flows.{origin-equals, predicate-equals, flow-joins}
use Rattle.machine_laws.proofs.All.{All, nil, all_append, all-get, all_of, all-mem}
use Rattle.machine_laws.proofs.Bind.{none≢some, some_inj}
use Rattle.definition.specs.Module.{Module, Chunk}
use Rattle.definition.specs.State.{State, Facts}
use Rattle.definition.specs.Outputs.{Visit, Setting, outputs, setting, origin_at, no_cell}
use Rattle.definition.specs.Ways.{narrow_stack, narrowed, along, narrowed_on, set_locals, reset_first, is_reset, reset, kept, after, leaving}
use Rattle.definition.specs.Leaves.{Known, line_at, visit_of}
use Rattle.definition.specs.Start.{first_facts, filled}
use Rattle.report_laws.specs.Names.{NamesLocal, NamesReceiver}
use Rattle.report_laws.proofs.Cells.{FlowNaming, CellNaming, Proper}
use Rattle.report_laws.proofs.Kept.{flow-none, cell-none}
use Rattle.report_laws.proofs.Runs.{StateNaming, FactsNaming, ProperState, ProperFacts, first-naming, filled-naming, leaving-naming}
use Rattle.report_laws.proofs.Carried.{every}
use Rattle.consistent.specs.Consistent.{TakesAll, TakesIn, DeclaredIn, Names, Sized}
use Rattle.consistent.proofs.Absorb.{Declared}
use Rattle.consistent.proofs.Records.{first-flows}
use Rattle.consistent.proofs.Visits.{leaving-in, begun}

-- ---- heights and locals
set-size : (o : Option Setting) (ls : List Cell) → length (set_locals o ls) ≡ length ls
unfolding set_locals
set-size none ls = refl
set-size (some x) ls = length-set (map (λ c. invalidated_cell c x.local) ls) x.local x.cell ∙ length-map ls (λ c. invalidated_cell c x.local)

reset-size : (b : Bool) (c : Cell) (ls : List Cell) → length (reset_first b c ls) ≡ length ls
unfolding reset_first
reset-size b c [] = refl
reset-size b c (x ∷ xs) = ap suc (length-map xs (λ x. unit_cell))

-- a visit keeps the number of locals
after-locals : (v : Visit) → length (after v).locals ≡ length v.locals
unfolding after reset kept
after-locals v = go (is_reset v.rule.acts)
  where
    go : (b : Bool) → length (cond b (reset v (outputs v)) (kept v (outputs v) (setting v v.rule.acts))).locals ≡ length v.locals
    go true = reset-size v.streams v.reply v.locals
    go false = set-size (setting v v.rule.acts) v.locals

-- narrowing keeps both
along-size : (x y : State) (o : Option ℕ) → along x o ≡ some y → (length y.stack ≡ length x.stack) × (length y.locals ≡ length x.locals)
unfolding along narrowed
along-size x y none e = rw (some_inj e) (refl, refl)
along-size x y (some r) e = go (has (get_or x.locals r no_cell).mask ENUM) e
  where
    go : (b : Bool) → cond b (some (narrowed x r)) none ≡ some y → (length y.stack ≡ length x.stack) × (length y.locals ≡ length x.locals)
    go true e = rw (← some_inj e) (length-map x.stack (narrow_stack r), length-set x.locals r _)
    go false e = absurd (none≢some e)

leaving-size : (v : Visit) (to : ℕ) (x : State) → Memᴰ {A = ℕ × State} (to, x) (leaving v)
    → (length x.stack ≡ length (after v).stack) × (length x.locals ≡ length v.locals)
unfolding leaving
leaving-size v to x m =
    let (p, q) = along-size (after v) x (narrowed_on v to) (leaving-in v (after v) _ to x m).1 in
    (p, q ∙ after-locals v)

filled-size : (n : ℕ) (cs : List Cell) → length (filled n cs) ≡ n
unfolding filled
filled-size zero cs = refl
filled-size (suc n) [] = ap suc (filled-size n [])
filled-size (suc n) (c ∷ cs) = ap suc (filled-size n cs)

-- ---- what takes in a value names no more than it
module _ (N : ℕ → Type 0) where
  local-kept : (o p : Maybe ℕ) → (o ≡ None) ⊎ (p ≡ o) → NamesLocal N p → NamesLocal N o
  unfolding NamesLocal
  local-kept o p (inl e) h = rw e tt
  local-kept o p (inr e) h = rw (← e) h

  receiver-kept : (o p : Predicate) → (o ≡ Untested) ⊎ (p ≡ o) → NamesReceiver N p → NamesReceiver N o
  unfolding NamesReceiver
  receiver-kept o p (inl e) h = rw e tt
  receiver-kept o p (inr e) h = rw (← e) h

-- a private fact takes in one that says nothing
first-flow : (m : Module) (n : ℕ) → n < m.slots → get_or (first_facts m).flows n no_flow ≡ no_flow
unfolding first_facts
first-flow m n h = get_or-replicate m.slots n no_flow no_flow h

pub flow-declared : (m : Module) (f : Facts) → Declared m f → (n : ℕ) → n < length f.flows → join_flow (get_or f.flows n no_flow) no_flow ≡ get_or f.flows n no_flow
flow-declared m f d n h =
    let l : n < m.slots = rw (d.flows.size ∙ first-flows m) at h in
    d.flows.keeps n no_flow (λ k. rw (first-flow m n l) (flow-joins.idem no_flow)) h

module _ {N : ℕ → Type 0} where
  flow-kept : (x y : Flow) → length x.bodies ≡ 4 → join_flow x y ≡ x → FlowNaming N y → FlowNaming N x
  unfolding join_flow
  flow-kept x y f t h =
      record {
        four = f;
        origin = local-kept N x.origin y.origin (flat-kept same_origin None origin-equals _ _ (ap (λ (z : Flow). z.origin) t)) h.origin;
        receiver = receiver-kept N x.predicate y.predicate (flat-kept same_predicate Untested predicate-equals _ _ (ap (λ (z : Flow). z.predicate) t)) h.receiver;
      }

  cells-kept : (xs ys : List Cell) → All Proper xs → TakesAll xs ys → All (CellNaming N) ys → All (CellNaming N) xs
  unfolding join_cell
  cells-kept xs ys p t h =
      all_of (CellNaming N) no_cell xs λ i l.
      flow-kept (get_or xs i no_cell).flow (get_or ys i no_cell).flow (all-get Proper i cell-none p).four
      (ap (λ (z : Cell). z.flow) (t.each i (rw (← t.long) l))) (all-get (CellNaming N) i cell-none h)

  state-kept : (s x : State) → ProperState s → TakesIn s x → StateNaming N x → StateNaming N s
  state-kept s x p t h =
      record {
        stack = cells-kept s.stack x.stack p.stack t.stack h.stack;
        locals = cells-kept s.locals x.locals p.locals t.locals h.locals;
      }

  -- the facts take in declared ones, which name nothing
  pub facts-naming : (m : Module) (f : Facts) → ProperFacts f → Declared m f → DeclaredIn m f → FactsNaming N f
  facts-naming m f p d t =
      record {
        inputs =
            all_of (All (CellNaming N)) [] f.inputs λ n h.
            cells-kept _ _ (all-get (All Proper) n nil p.inputs) (t.inputs n h) (all-get (All (CellNaming N)) n nil (first-naming N m).inputs);
        results = cells-kept _ _ p.results t.results (first-naming N m).results;
        masks = every f.masks (λ k. tt);
        flows =
            all_of (FlowNaming N) no_flow f.flows λ n h.
            flow-kept (get_or f.flows n no_flow) no_flow (all-get (FlowNaming _) n flow-none p.flows).four (flow-declared m f d n h) flow-none;
      }

-- ---- the size of a chunk
abbrev pub Under : ℕ → ℕ → Type 0
Under n l = l < n

read_under : (n l : ℕ) → l < n → NamesLocal (Under n) (origin_at l)
unfolding origin_at NamesLocal
read_under n l h = go (ltb l 65535)
  where
    go : (b : Bool) → NamesLocal (Under n) (cond b (Some l) None)
    go true = h
    go false = tt

pub record Bounded (c : Chunk) (s : State) : Type 0 where
  pub locals : length s.locals ≡ c.locals
  pub stack : length s.stack ≤ c.stack
  pub names : StateNaming (Under c.locals) s

-- what a chunk begins with
pub begun-bounded : (c : Chunk) (f : Facts) → FactsNaming (Under c.locals) f → Bounded c (begun c f)
begun-bounded c f h =
    record {
      locals = filled-size c.locals _;
      stack = omega arith;
      names = record { stack = nil; locals = filled-naming (Under c.locals) c.locals (all-get (All (CellNaming (Under c.locals))) c.number nil h.inputs) };
    }

-- what leaves a visit
pub leaving-bounded : (k : Known) (c : Chunk) (f : Facts) (i : ℕ) (s : State) → CellNaming (Under c.locals) k.reply → FactsNaming (Under c.locals) f
    → ((rule_of (line_at c i).instr.op).makes ≡ NamedLocal → (line_at c i).instr.a < c.locals) → length (after (visit_of k c f i s)).stack ≤ c.stack
    → Bounded c s → (to : ℕ) (x : State) → Memᴰ {A = ℕ × State} (to, x) (leaving (visit_of k c f i s)) → Bounded c x
unfolding visit_of
leaving-bounded k c f i s r h n low b to x m =
    let v = visit_of k c f i s in
    let (p, q) = leaving-size v to x m in
    record {
      locals = q ∙ b.locals;
      stack = omega (arith, p, low);
      names = all-mem (leaving-naming (Under c.locals) k c f i s r h (λ e. read_under c.locals _ (n e)) b.names) m;
    }

-- what takes it in
pub taken-bounded : (c : Chunk) (s x : State) → ProperState s → TakesIn s x → Bounded c x → Bounded c s
taken-bounded c s x p t b =
    record {
      locals = t.locals.long ∙ b.locals;
      stack = omega (arith, t.stack.long, b.stack);
      names = state-kept s x p t b.names;
    }

cell-names : (n : ℕ) (cs : List Cell) → All (CellNaming (Under n)) cs → (x : Cell) → Memᴰ x cs → Names n x
cell-names n cs a x m = let h = all-mem a m in record { origin = h.origin; receiver = h.receiver }

pub sized : (c : Chunk) (s : State) → Bounded c s → Sized c s
sized c s b =
    record {
      locals = b.locals;
      stack = b.stack;
      names = cell-names c.locals (s.stack ++ s.locals) (all_append (CellNaming (Under c.locals)) b.names.stack b.names.locals);
    }
