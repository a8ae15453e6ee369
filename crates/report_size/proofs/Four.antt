-- Every cell that a visit makes has four extents, as those in the workspace have; so a cell is 49 bytes.
use Prim.Native.Nat.{ℕ, zero, suc, ◌+◌}
use mathlib.Core.Path.{◌≡◌, sym, ◌∙◌}
use mathlib.Core.Bool.{Bool, true, false, cond}
use mathlib.Core.Option.{Option, none, some}
use mathlib.Core.List.{List, [], ◌∷◌}
use lib.Dec.{eqb}
use lib.ListN.{length, get_or}
use Rattle.masks.specs.declared.Mask.{Mask}
use Rattle.widths.specs.declared.Width.{Width}
use Rattle.extents.specs.declared.Extent.{Extent}
use Rattle.flows.specs.declared.Flow.{Flow}
use Rattle.flows.specs.Flow.{join_flow, no_flow}
use Rattle.cells.specs.declared.Cell.{Cell}
use Rattle.cells.specs.Cell.{made}
use Rattle.packing.specs.Packing.{construction}
use Rattle.ops.specs.declared.Makes.{Makes}
use Rattle.ops.specs.declared.Makes.TheVariants.{Anything, Constant, Immediate, Local, Operand, OperandMask, Reply, Result, Common, Kind, Negation, OneKind, Slots, Composite, Part, NativeValue}
use Rattle.ops.specs.declared.Others.{Others}
use Rattle.ops.specs.declared.Others.TheVariants.{Unknowns, Words, Checked, Copies, Tested, Status}
use Rattle.words.specs.Layout.{cell_at}
use Rattle.words.proofs.Laws.{cell_at-fit}
use Rattle.words.specs.Rows.{cells_at}
use Rattle.definition.specs.Module.{Module, Site, Native, row, module_of}
use Rattle.description.specs.declared.Instr.{Instr}
use Rattle.definition.specs.State.{Facts}
use Rattle.definition.specs.Data.{is_body, flow_in, private_cell, fresh, read_slots}
use Rattle.definition.specs.Outputs.{Visit, instr, no_cell, at, with_predicate, with_origin, constant_cell, field_cell, native_cell, reply_shape, reply_cell, composite_cell, first_output, second_output, rest_output, tested, made_from, outputs, output}
use Rattle.definition.specs.Leaves.{visit_of}
use Rattle.definition.specs.Report.{cell_bytes}
use Rattle.machine_laws.proofs.All.{All, nil, cons, all-get}
use Rattle.report_laws.proofs.Cells.{Sayable, cell-long}
use Rattle.report_laws.proofs.Kept.{flow-none, cell-made, cell-fresh, cell-none, cell-construction, joined-long}
use Rattle.visit.specs.declared.RowVisit.{RowVisit}
use Rattle.visit.specs.Held.{Looking, args_in, facts_in, state_of, visit_in}
use Rattle.visit.proofs.Visits.{args_are}

abbrev FourIn : Flow → Type 0
FourIn f = length f.bodies ≡ 4

abbrev pub Four : Cell → Type 0
Four c = FourIn c.flow

pub four-long : (c : Cell) → Four c → length (cell_bytes c) ≡ 49
four-long c h = cell-long c h

-- ---- new values, whatever locals are named
unset-four : FourIn no_flow
unset-four = (flow-none {N = Sayable}).four

made-four : (k : Mask) (n : ℕ) → Four (made k n)
made-four k n = (cell-made {N = Sayable} k n).four

fresh-four : (k : Mask) (w : Width) (o : Bool) → Four (fresh k w o)
fresh-four k w o = (cell-fresh {N = Sayable} k w o).four

none-four : Four no_cell
none-four = (cell-none {N = Sayable}).four

construction-four : (k : ℕ) (x : Extent) → Four (construction k x)
construction-four k x = (cell-construction {N = Sayable} k x).four

-- ---- the workspace's
pub four-at : (ws : List ℕ) (p : ℕ) → Four (cell_at ws p)
four-at ws p = (cell_at-fit ws p).four

all-cells : (ws : List ℕ) (p n : ℕ) → All Four (cells_at ws p n)
unfolding cells_at
all-cells ws p zero = nil
all-cells ws p (suc n) = cons (four-at ws p) (all-cells ws (p + 16) n)

all_row : {A : Type 0} (P : A → Type 0) (f : ℕ → A) (i n : ℕ) → ((k : ℕ) → P (f k)) → All P (row f i n)
unfolding row
all_row P f i zero h = nil
all_row P f i (suc n) h = cons (h i) (all_row P f (suc i) n h)

-- ---- a visit whose cells have four
record FourVisit (v : Visit) : Type 0 where
  args : All Four v.args
  locals : All Four v.locals
  results : All Four v.facts.results
  flows : All FourIn v.facts.flows

pick : (b : Bool) (x y : Cell) → Four x → Four y → Four (cond b x y)
pick true x y p q = p
pick false x y p q = q

four-flows : (f : Facts) (so : Flow) (ns : List ℕ) → All FourIn f.flows → FourIn so → FourIn (flow_in f so ns)
unfolding flow_in join_flow
four-flows f so [] a h = h
four-flows f so (n ∷ ns) a h =
    let w = all-get FourIn n unset-four a in
    four-flows f (join_flow so (get_or f.flows n no_flow)) ns a (joined-long so.bodies _ (h ∙ sym w) ∙ h)

four-read : (m : Module) (f : Facts) (n : ℕ) (ns : List ℕ) → All FourIn f.flows → Four (read_slots m f n ns)
unfolding read_slots private_cell
four-read m f n ns a = pick (is_body m n) _ _ (four-flows f no_flow ns a unset-four) (fresh-four _ _ _)

four-site : (o : Option Site) → Four (reply_cell o)
unfolding reply_cell reply_shape
four-site none = none-four
four-site (some x) = fresh-four _ _ _

four-native : (o : Option Native) (n : ℕ) → Four (native_cell o n)
unfolding native_cell
four-native none n = made-four _ _
four-native (some x) n = fresh-four _ _ _

four-first : (v : Visit) (k : Makes) → FourVisit v → Four (first_output v k)
unfolding first_output constant_cell field_cell composite_cell with_origin with_predicate
four-first v Anything p = made-four _ _
four-first v Constant p = pick (eqb (instr v).c 0) _ _ (made-four _ _) (fresh-four _ _ _)
four-first v Immediate p = made-four _ _
four-first v Local p = all-get Four (instr v).a none-four p.locals
four-first v Operand p = all-get Four 0 none-four p.args
four-first v OperandMask p = made-four _ _
four-first v Reply p = four-site v.line.site
four-first v Result p = all-get Four (instr v).a none-four p.results
four-first v (Common m) p = made-four _ _
four-first v (Kind m) p = made-four _ _
four-first v Negation p = made-four _ _
four-first v OneKind p = made-four _ _
four-first v Slots p = four-read _ _ _ _ p.flows
four-first v Composite p = pick (eqb (instr v).a 0) _ _ (construction-four _ _) (made-four _ _)
four-first v Part p = pick (eqb (instr v).a 0) _ _ (made-four _ _) (pick (eqb (instr v).a 1) _ _ (fresh-four _ _ _) (made-four _ _))
four-first v NativeValue p = four-native (at v.code.natives (instr v).a) _

four-second : (k : Others) (i : Instr) (c : Cell) (float : ℕ) → Four c → Four (second_output k i c float)
unfolding second_output tested with_predicate
four-second Unknowns i c float h = made-four _ _
four-second Words i c float h = made-four _ _
four-second Checked i c float h = made-four _ _
four-second Copies i c float h = h
four-second (Tested k) i c float h = made-four _ _
four-second Status i c float h = made-four _ _

four-rest : (k : Others) (c : Cell) (float : ℕ) → Four c → Four (rest_output k c float)
unfolding rest_output
four-rest Unknowns c float h = made-four _ _
four-rest Words c float h = made-four _ _
four-rest Checked c float h = made-four _ _
four-rest Copies c float h = h
four-rest (Tested k) c float h = made-four _ _
four-rest Status c float h = made-four _ _

four-output : (v : Visit) → FourVisit v → (k : ℕ) → Four (output (outputs v) k)
unfolding outputs made_from output
four-output v p zero = four-first v v.rule.makes p
four-output v p (suc zero) = four-second v.rule.others (instr v) _ _ (four-first v v.rule.makes p)
four-output v p (suc (suc k)) = four-rest v.rule.others _ _ (four-first v v.rule.makes p)

-- the outputs of a visit that the code looks at
pub looked-four : (s ws : List ℕ) (v : RowVisit) → Looking s ws v → (k : ℕ) → Four (output (outputs (visit_in s ws v)) k)
unfolding visit_in visit_of state_of args_in facts_in
looked-four s ws v x k =
    four-output (visit_in s ws v)
    (record {
      args = rw (args_are s ws v x) (all-cells ws _ _);
      locals = all-cells ws _ _;
      results = all_row Four _ 0 (module_of s).signatures (λ n. four-at ws _);
      flows = all_row FourIn _ 0 (module_of s).slots (λ n. four-at ws _);
    }) k
