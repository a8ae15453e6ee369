-- One visit: its refusals, the ways that leave it, and what it gives to the facts; and the facts that take it in.
-- Of types.rs: one turn of `analyze`'s loop (lines 596 to 1280) as a whole; its parts are in Outputs, Wants, Ways and Data. Here: what it
-- refuses in both modes (629, 711, 944, 1002; by `data_fault` 832 to 867), what it joins into inputs, results and private slots (690 to 698,
-- 714 to 720, 880 to 910), a round's facts (540 to 552). Of document 01: "In one instruction: underflow (13), its rule, 15, height"; what
-- calls, returns and writes give.
-- Where it differs: types.rs has a flag, `validate`, in many places; here validation only adds a refusal, and the machine drops what is
-- given. Readings: B2 the height is held against D at every instruction, D1 types.rs has no D, D3 requirements are tested at every taking,
-- D4 facts keep what an early round gave.
-- Nothing is left open. Recursion goes along lists (the slots of a write, masks).
use Rattle.std.specs.Prelude.{ℕ, zero, suc, ◌-◌, Bool, true, false, not, cond, ◌&&◌, ◌||◌, List, [], ◌∷◌, map, eqb, ltb, leb, length, get_or, set, take, drop, None}
use Rattle.std.proofs.Math.Option.{none}
use Rattle.masks.specs.declared.Mask.{Mask}
use Rattle.masks.specs.Mask.{union}
use Rattle.masks.specs.Mask.{same as same_mask}
use Rattle.masks.specs.Names.{NONE}
use Rattle.flows.specs.declared.Flow.{Flow}
use Rattle.flows.specs.declared.Predicate.TheVariants.{Nothing as Untested}
use Rattle.flows.specs.Flow.{join_flow, same_flow, no_flow}
use Rattle.cells.specs.declared.Cell.{Cell}
use Rattle.cells.specs.Cell.{join_cell, same_cell, bare_cell}
use Rattle.ops.specs.declared.Asks.{Asks}
use Rattle.ops.specs.declared.Asks.TheVariants.{Free, First, Both, Yielded, Returned, Every, Ordered, Same, Stored, PartOf, Never}
use Rattle.ops.specs.declared.Acts.{Acts}
use Rattle.ops.specs.declared.Acts.TheVariants.{Still, SetsLocal, Yields, Calls, Returns, Resets, Stores}
use Rattle.ops.specs.Ops.{rule_of}
use Rattle.definition.specs.Res.{Res, ok, bad}
use Rattle.definition.specs.Machine.{Effect}
use Rattle.definition.specs.Module.{Module, Chunk, Line}
use Rattle.definition.specs.State.{State, Facts, Live, Gift, nothing, arguments, returned, written, join_cells, same_cells}
use Rattle.definition.specs.Data.{is_body, data_fault, slots_from}
use Rattle.definition.specs.Outputs.{Visit, arg, instr, no_cell}
use Rattle.definition.specs.Wants.{unfit, is_entry}
use Rattle.definition.specs.Wants.{returned as value_below}
use Rattle.definition.specs.Ways.{after, leaving}

-- what a run knows beside the facts: the module, which chunks suspend, and the reply
pub record Known : Type 0 where
  pub code : Module
  pub suspends : List Bool
  pub reply : Cell

abbrev pub streams : Module → Chunk → Bool
streams m c = eqb c.number m.entry && (eqb c.block 2 && ltb 0 c.arity)

-- the instruction i of a chunk
abbrev pub no_line : Line
no_line = record { instr = record { op = 0; taken = 0; given = 0; a = 0; b = 0; c = 0 }; site = none }

unfoldable pub line_at : Chunk → ℕ → Line
line_at c i = get_or c.code i no_line

-- the visit of the instruction i in this state
unfoldable pub visit_of : Known → Chunk → Facts → ℕ → State → Visit
visit_of k c f i s =
    let x = line_at c i in
    record {
      code = k.code;
      chunk = c;
      streams = streams k.code c;
      suspends = k.suspends;
      reply = k.reply;
      facts = f;
      at = i;
      line = x;
      rule = rule_of x.instr.op;
      height = length s.stack;
      args = drop (length s.stack - x.instr.taken) s.stack;
      below = take (length s.stack - x.instr.taken) s.stack;
      locals = s.locals;
    }

-- refused in the rounds and in validation alike: a boxed field (a is the form of the access), and what has no rule
unfoldable pub hopeless : Asks → ℕ → Bool
hopeless (PartOf k) a = ltb 1 a
hopeless Never a = true
hopeless Free a = false
hopeless (First m) a = false
hopeless (Both m n) a = false
hopeless Yielded a = false
hopeless Returned a = false
hopeless (Every m) a = false
hopeless Ordered a = false
hopeless (Same k) a = false
hopeless Stored a = false

unfoldable pub is_return : Acts → Bool
is_return Returns = true
is_return Still = false
is_return SetsLocal = false
is_return Yields = false
is_return Calls = false
is_return Resets = false
is_return Stores = false

-- a `Return` with no value
abbrev pub nothing_below : Visit → Bool
nothing_below v = is_return v.rule.acts && eqb (length v.below) 0

-- 13 or 14 whatever the mode, or 0
unfoldable pub always : Visit → ℕ
always v =
    cond (ltb v.height (instr v).taken || (hopeless v.rule.asks (instr v).a || nothing_below v)) 13
    (data_fault v.code (instr v) v.rule.slots)

-- what a visit gives to the facts; the entry's result is not widened
unfoldable pub gives_by : Visit → Acts → Gift
gives_by v Calls = arguments (instr v).a (map bare_cell v.args)
gives_by v Returns = cond (is_entry v) nothing (returned v.chunk.number (bare_cell (value_below v)))
gives_by v Stores = written (slots_from (instr v) v.rule.slots) (arg v 0)
gives_by v Still = nothing
gives_by v SetsLocal = nothing
gives_by v Yields = nothing
gives_by v Resets = nothing

unfoldable pub gives : Visit → Gift
gives v = gives_by v v.rule.acts

-- a refusal by number, 0 for none
abbrev pub unless : {A : Type 0} → ℕ → Res A → Res A
unless zero r = r
unless (suc n) r = bad (suc n)

abbrev pub height_fault : Visit → ℕ
height_fault v = cond (ltb v.chunk.stack (length (after v).stack)) 18 0

unfoldable pub visited : Bool → Visit → Res (Effect State Gift)
visited validating v =
    unless (always v)
    (unless (cond validating (unfit v) 0)
    (unless (height_fault v)
    (ok (record { ways = leaving v; gives = gives v }))))

-- `analyze`'s step at the instruction i of a chunk, in this state
unfoldable pub leaves : Known → Bool → Chunk → Facts → ℕ → State → Res (Effect State Gift)
leaves k validating c f i s =
    visited validating (visit_of k c f i s)

-- ---- the facts take in what is given
unfoldable pub join_at : {A : Type 0} → (A → A → A) → A → List A → ℕ → A → List A
join_at j d l n x = set l n (j (get_or l n d) x)

unfoldable pub moved_at : {A : Type 0} → (A → A → A) → (A → A → Bool) → A → List A → ℕ → A → Bool
moved_at j same d l n x = not (same (get_or l n d) (j (get_or l n d) x))

-- a private slot keeps a flow without origin and predicate, not owned
unfoldable pub stored_flow : Flow → Flow
stored_flow w = record { bodies = w.bodies; owned = false; origin = None; predicate = Untested }

unfoldable pub with_flows : Live → List Flow → Bool → Live
with_flows f ws moved =
    record {
      known = record { inputs = f.known.inputs; results = f.known.results; masks = f.known.masks; flows = ws };
      writes = f.writes;
      changed = f.changed || moved;
    }

-- one slot: a body's flow at once, the mask with this round's writes; a shared slot keeps neither
unfoldable pub write_flow : Live → ℕ → Cell → Live
write_flow f n c =
    with_flows f (join_at join_flow no_flow f.known.flows n (stored_flow c.flow))
    (moved_at join_flow same_flow no_flow f.known.flows n (stored_flow c.flow))

unfoldable pub write_mask : Live → ℕ → Cell → Live
write_mask f n c = record { known = f.known; writes = join_at union NONE f.writes n c.mask; changed = f.changed }

unfoldable pub write_slot : Module → Live → ℕ → Cell → Live
write_slot m f n c =
    cond (is_body m n) (write_flow (write_mask f n c) n c)
    (cond (leb (length m.shared) n) (write_mask f n c) f)

unfoldable pub write_slots : Module → Live → List ℕ → Cell → Live
write_slots m f [] c = f
write_slots m f (n ∷ ns) c = write_slots m (write_slot m f n c) ns c

unfoldable pub absorb : Module → Live → Gift → Live
absorb m f nothing = f
absorb m f (arguments n cs) =
    record {
      known =
          record {
            inputs = join_at join_cells [] f.known.inputs n cs;
            results = f.known.results;
            masks = f.known.masks;
            flows = f.known.flows;
          };
      writes = f.writes;
      changed = f.changed || moved_at join_cells same_cells [] f.known.inputs n cs;
    }
absorb m f (returned n c) =
    record {
      known =
          record {
            inputs = f.known.inputs;
            results = join_at join_cell no_cell f.known.results n c;
            masks = f.known.masks;
            flows = f.known.flows;
          };
      writes = f.writes;
      changed = f.changed || moved_at join_cell same_cell no_cell f.known.results n c;
    }
absorb m f (written ns c) = write_slots m f ns c

-- ---- a round's facts
unfoldable pub union_masks : List Mask → List Mask → List Mask
union_masks [] ys = []
union_masks (x ∷ xs) [] = x ∷ xs
union_masks (x ∷ xs) (y ∷ ys) = union x y ∷ union_masks xs ys

unfoldable pub same_masks : List Mask → List Mask → Bool
same_masks [] [] = true
same_masks [] (y ∷ ys) = false
same_masks (x ∷ xs) [] = false
same_masks (x ∷ xs) (y ∷ ys) = same_mask x y && same_masks xs ys

-- a round begins with no writes
unfoldable pub opened : Facts → Live
opened r = record { known = r; writes = map (λ m. NONE) r.masks; changed = false }

-- it ends by taking the writes into the private masks
unfoldable pub closed : Live → Facts
closed f =
    record {
      inputs = f.known.inputs;
      results = f.known.results;
      masks = union_masks f.known.masks f.writes;
      flows = f.known.flows;
    }

-- a fact changed, or a private mask will
unfoldable pub moved : Live → Bool
moved f = f.changed || not (same_masks f.known.masks (union_masks f.known.masks f.writes))
