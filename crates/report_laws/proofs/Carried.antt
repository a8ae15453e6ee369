-- What the declared facts have and every rule keeps, all cells of a run have: over any property of cells, with one of masks, of widths and of
-- flows beside it.
use Rattle.std.specs.Prelude.{None}
use Prim.Native.Nat.{ℕ, zero, suc, ◌-◌, ◌*◌, ◌^◌, ◌≤◌}
use native.Mathlib.Nat.{pow-le-pow_right}
use native.Mathlib.Omega.{arith}
use mathlib.Core.Path.{◌≡◌, refl}
use mathlib.Core.Bool.{Bool, true, false, cond, ◌&&◌}
use mathlib.Core.Option.{Option, none, some}
use mathlib.Core.List.{List, [], ◌∷◌}
use lib.Bits.{bit_and, and_le_l}
use lib.Dec.{eqb, ltb, leb}
use lib.ListN.{length, get_or}
use borrow.Author.Tests.{ltb-true}
use Rattle.masks.specs.declared.Mask.{Mask}
use Rattle.masks.specs.Mask.{of, scalar, body, kind, union, common, has, one_kind, constant, immediate}
use Rattle.masks.specs.Names.{NONE, FALSE, WORD, ENUM, TRUE, BODY, UNKNOWN, FOLDED}
use Rattle.widths.specs.declared.Width.{Width}
use Rattle.widths.specs.declared.Width.TheVariants.{Unknown as Wide, Scalar, Body}
use Rattle.widths.specs.declared.Shape.{Shape}
use Rattle.widths.specs.Width.{same_width, scalar_width}
use Rattle.widths.specs.Shape.{shape_mask, declared_width}
use Rattle.flows.specs.declared.Flow.{Flow}
use Rattle.flows.specs.Flow.{join_flow, no_flow, negated}
use Rattle.cells.specs.declared.Cell.{Cell}
use Rattle.cells.specs.Cell.{made, declared, join_cell, invalidated_cell, bare_cell, narrow_enum, unit_cell}
use Rattle.packing.specs.Packing.{packed_extent, constructed, construction}
use Rattle.description.specs.declared.Instr.{Instr}
use Rattle.ops.specs.declared.Makes.{Makes}
use Rattle.ops.specs.declared.Makes.TheVariants.{Anything, Constant, Immediate, Local as NamedLocal, Operand, OperandMask, Reply, Result, Common, Kind, Negation, OneKind, Slots, Composite, Part, NativeValue}
use Rattle.ops.specs.declared.Others.{Others}
use Rattle.ops.specs.declared.Others.TheVariants.{Unknowns, Words, Checked, Copies, Tested, Status}
use Rattle.ops.specs.declared.Acts.{Acts}
use Rattle.ops.specs.declared.Acts.TheVariants.{Still, SetsLocal, Yields, Calls, Returns, Resets, Stores}
use Rattle.ops.specs.Ops.{rule_of}
use Rattle.machine_laws.proofs.All.{All, nil, cons, all_append, all_set, all-get, all_map, all_take, all_drop, all_replicate, Opt}
use Rattle.machine_laws.proofs.Bind.{bad≢ok, ok-inj}
use Rattle.machine_laws.proofs.Carry.{Keeps}
use Rattle.definition.specs.declared.Made.{Made}
use Rattle.definition.specs.Res.{Res, ok}
use Rattle.definition.specs.Machine.{Joined, Effect}
use Rattle.definition.specs.Module.{Module, Chunk, Line, Site, row}
use Rattle.definition.specs.Module.{Native as NativeReturn}
use Rattle.definition.specs.State.{State, Facts, Live, Gift, nothing, arguments, returned, written, join_cells, join_states, join_if, join}
use Rattle.definition.specs.Data.{shared_mask, slot, data_width, kinds_in, width_in, private_cell, fresh, flow_in, read_slots, is_body}
use Rattle.definition.specs.Outputs.{Visit, Setting, arg, instr, no_cell, common_kinds, bits_mask, if_has, negation, with_predicate, with_origin, origin_at, constant_cell, field_cell, native_cell, at, reply_shape, reply_cell, constructed_extent, composite_cell, inspection, predicate_on, tested, status_mask, first_output, second_output, rest_output, made_from, outputs, output, setting}
use Rattle.definition.specs.Ways.{narrow_stack, is_from, narrowed, along, forget, set_locals, output_list, kept, reset_first, is_reset, reset, after, on_way, leaving_by, leaving}
use Rattle.definition.specs.Leaves.{Known, visit_of, no_line, line_at, unless, height_fault, visited, leaves, always, gives_by, gives, join_at, stored_flow, with_flows, write_flow, write_mask, write_slot, write_slots, absorb, union_masks, opened, closed}
use Rattle.definition.specs.Wants.{unfit, is_entry}
use Rattle.definition.specs.Wants.{returned as below}
use Rattle.definition.specs.Start.{declared_params, init_mask, first_facts, site_reply, reply_in, replies, first_reply, known_of, filled, start}
use Rattle.definition.specs.Start.{reply_cell as whole_reply}
use Rattle.definition.specs.Call.{analysis_of}

-- any of these has it, so all do
pub every : {A : Type 0} {P : A → Type 0} (xs : List A) → ((x : A) → P x) → All P xs
every [] h = nil
every (x ∷ xs) h = cons (h x) (every xs h)

pub all-at : {A : Type 0} (P : A → Type 0) {xs : List A} (n : ℕ) → All P xs → Opt P (at xs n)
unfolding at
all-at P n nil = tt
all-at P zero (cons p a) = p
all-at P (suc n) (cons p a) = all-at P n a

pub unless-use : {A : Type 0} (n : ℕ) (r : Res A) {a : A} → unless n r ≡ ok a → (n ≡ 0) × (r ≡ ok a)
unless-use zero r e = (refl, e)
unless-use (suc n) r e = absurd (bad≢ok e)

module _ (P : Cell → Type 0) (Q : Flow → Type 0) (M : Mask → Type 0) (W : Width → Type 0) where
  -- what is asked: of masks that they have it with every smaller one, of widths that only a body's size may lack it, of cells and flows that
  -- the ways to make one keep it
  pub record Laws : Type 0 where
    pub top : M (of 65535)
    pub fewer : (m n : Mask) → n.bits ≤ m.bits → M m → M n
    pub unions : (m n : Mask) → M m → M n → M (union m n)
    pub kinds : (op : ℕ) (m : Mask) → (rule_of op).makes ≡ Kind m → M m
    pub empty : W (Body 0)
    pub wide : W Wide
    pub scalars : (n : ℕ) → W (Scalar n)
    pub flow-none : Q no_flow
    pub flow-join : (x y : Flow) → Q x → Q y → Q (join_flow x y)
    pub flow-stored : (f : Flow) → Q f → Q (stored_flow f)
    pub mask-of : (c : Cell) → P c → M c.mask
    pub flow-of : (c : Cell) → P c → Q c.flow
    pub cell-unit : P unit_cell
    pub cell_join : (x y : Cell) → P x → P y → P (join_cell x y)
    pub cell-fresh : (m : Mask) (w : Width) (o : Bool) → M m → W w → P (fresh m w o)
    pub cell-private : (m : Mask) (f : Flow) → M m → Q f → P (private_cell m f)
    pub cell-built : (k j size : ℕ) (cs : List Cell) (float handle : ℕ) → M (body k) → W (Body size) → P (construction k (constructed (packed_extent cs float handle) j size))
    pub cell-invalidated : (c : Cell) (l : ℕ) → P c → P (invalidated_cell c l)
    pub cell-bare : (c : Cell) → P c → P (bare_cell c)
    pub cell-narrow : (c : Cell) → P c → P (narrow_enum c)
    pub cell-nowhere : (c : Cell) → P c → P (with_origin c None)
    pub cell-negated : (c d : Cell) → P c → P d → P (with_predicate c (negated d.flow.predicate))
    pub cell-tests : (k : Mask) (c d : Cell) → P c → P d → P (with_predicate c (predicate_on k d.flow.origin))

  -- ---- the parts of a description: sizes that its instructions, sites and natives name
  pub record LineHas (x : Line) : Type 0 where
    pub size : W (Body x.instr.c)
    pub packed : W (Body (x.instr.c - 1))
    pub reply : Opt (λ s. W (declared_width s.reply)) x.site

  pub record ChunkHas (c : Chunk) : Type 0 where
    pub code : All LineHas c.code
    pub params : All (λ s. W (declared_width s)) c.params
    pub result : W (declared_width c.result)

  pub record ModuleHas (m : Module) : Type 0 where
    pub chunks : All ChunkHas m.chunks
    pub natives : All (λ n. W (declared_width n.shape)) m.natives
    pub inits : All M m.inits

  -- ---- states, facts and gifts
  pub record StateHas (s : State) : Type 0 where
    pub stack : All P s.stack
    pub locals : All P s.locals

  pub record FactsHave (f : Facts) : Type 0 where
    pub inputs : All (All P) f.inputs
    pub results : All P f.results
    pub masks : All M f.masks
    pub flows : All Q f.flows

  pub record LiveHas (f : Live) : Type 0 where
    pub known : FactsHave f.known
    pub writes : All M f.writes

  abbrev pub GiftHas : Gift → Type 0
  GiftHas nothing = Unit {0}
  GiftHas (arguments n cs) = All P cs
  GiftHas (returned n c) = P c
  GiftHas (written ns c) = P c

  -- a cell that was read from the local l has it
  abbrev pub From : ℕ → Type 0
  From l = (c : Cell) → P c → P (with_origin c (origin_at l))

  -- ---- a visit whose parts have it, and so has what it reads from a local
  pub record VisitHas (v : Visit) : Type 0 where
    pub reply : P v.reply
    pub facts : FactsHave v.facts
    pub args : All P v.args
    pub below : All P v.below
    pub locals : All P v.locals
    pub line : LineHas v.line
    pub natives : All (λ n. W (declared_width n.shape)) v.code.natives
    pub rule : (m : Mask) → v.rule.makes ≡ Kind m → M m
    pub reads : v.rule.makes ≡ NamedLocal → From (instr v).a

  module _ (laws : Laws) where
    -- ---- masks
    mask-small : (n : ℕ) → n ≤ 65535 → M (of n)
    mask-small n l = laws.fewer (of 65535) (of n) l laws.top

    mask-pick : (b : Bool) {m n : Mask} → M m → M n → M (cond b m n)
    mask-pick true p q = p
    mask-pick false p q = q

    mask-common : (m n : Mask) → M m → M (common m n)
    mask-common m n p = laws.fewer m (common m n) (and_le_l m.bits n.bits) p

    mask-kind : (m : Mask) → M m → M (kind m)
    unfolding kind
    mask-kind m p = laws.unions (common m FOLDED) (of _) (mask-common m FOLDED p) (go (eqb (bit_and m.bits TRUE.bits) 0))
      where
        go : (b : Bool) → M (of (cond b 0 FALSE.bits))
        go true = mask-small 0 (omega arith)
        go false = mask-small 2 (omega arith)

    mask-power : (k n : ℕ) → k ≤ 7 → 2 ^ k ≤ 128
    mask-power k n l = pow-le-pow_right {n = 2} (omega arith) l

    mask-scalar : (k : ℕ) → M (scalar k)
    unfolding scalar
    mask-scalar k = mask-pick (eqb k 1) (mask-small 4098 (omega arith)) (go (ltb k 8) refl)
      where
        go : (b : Bool) → ltb k 8 ≡ b → M (cond b (of (2 ^ k)) UNKNOWN)
        go true e = let l = ltb-true k 8 e in let h = mask-power k 0 (omega arith) in mask-small (2 ^ k) (omega arith)
        go false e = mask-small 8191 (omega arith)

    mask-body : (k : ℕ) → M (body k)
    unfolding body
    mask-body k = go (ltb k 4) refl
      where
        go : (b : Bool) → ltb k 4 ≡ b → M (cond b (of (256 * 2 ^ k)) BODY)
        go true e = let l = ltb-true k 4 e in let h = mask-power k 0 (omega arith) in mask-small (256 * 2 ^ k) (omega arith)
        go false e = mask-small 3840 (omega arith)

    pub mask-constant : (place : ℕ) (truth : Bool) → M (constant place truth)
    unfolding constant
    mask-constant place truth =
        mask-pick (eqb place 0) (mask-small 1 (omega arith))
        (mask-pick (eqb place 1) (mask-pick truth (mask-small 4096 (omega arith)) (mask-small 2 (omega arith)))
        (mask-pick (eqb place 2) (mask-small 8 (omega arith))
        (mask-pick (eqb place 3) (mask-small 4 (omega arith))
        (mask-pick (eqb place 4) (mask-small 16 (omega arith))
        (mask-pick (eqb place 5) (mask-small 32 (omega arith))
        (mask-pick (eqb place 6) (mask-small 64 (omega arith))
        (mask-pick (eqb place 7) (mask-small 256 (omega arith))
        (mask-pick (eqb place 8) (mask-small 512 (omega arith))
        (mask-pick (eqb place 9) (mask-small 1024 (omega arith))
        (mask-pick (eqb place 10) (mask-small 2048 (omega arith)) (mask-small 8191 (omega arith))))))))))))

    mask-immediate : (i : ℕ) → M (immediate i)
    unfolding immediate
    mask-immediate i =
        mask-pick (eqb i 0) (mask-small 1 (omega arith))
        (mask-pick (eqb i 1) (mask-small 4096 (omega arith))
        (mask-pick (eqb i 2) (mask-small 2 (omega arith))
        (mask-pick (ltb 3 i && ltb i 20) (mask-small 8 (omega arith)) (mask-small 8191 (omega arith)))))

    mask-shape : (s : Shape) → M (shape_mask s)
    unfolding shape_mask
    mask-shape s = mask-pick (eqb s.tag 1) (mask-scalar s.kind) (mask-pick (eqb s.tag 2) (mask-body s.kind) (mask-small 8191 (omega arith)))

    mask-shared : (cs : List Cell) (so : Mask) → M so → M (common_kinds so cs)
    unfolding common_kinds
    mask-shared [] so p = p
    mask-shared (c ∷ cs) so p = mask-shared cs (common so (kind c.mask)) (mask-common so _ p)

    mask-if : (m k x : Mask) → M x → M (if_has m k x)
    unfolding if_has
    mask-if m k x p = mask-pick (has m k) p (mask-small 0 (omega arith))

    mask-negation : (m : Mask) → M (negation m)
    unfolding negation
    mask-negation m = laws.unions (if_has m TRUE FALSE) (if_has m FALSE TRUE) (mask-if m TRUE FALSE (mask-small 2 (omega arith))) (mask-if m FALSE TRUE (mask-small 4096 (omega arith)))

    mask-bits : (m all : Mask) → M m → M all → M (bits_mask m all)
    unfolding bits_mask
    mask-bits m all p q = mask-pick (one_kind (common all WORD)) (mask-common all WORD q) (mask-kind m p)

    mask-slot : (m : Module) (f : Facts) (n : ℕ) → FactsHave f → M (slot m f n)
    unfolding slot shared_mask
    mask-slot m f n p =
        mask-pick (ltb n (length m.shared))
        (mask-pick (ltb (get_or m.shared n 0) 8) (mask-scalar _) (mask-body _))
        (all-get M n {d = UNKNOWN} (mask-small 8191 (omega arith)) p.masks)

    mask-slots : (m : Module) (f : Facts) (so : Mask) (ns : List ℕ) → FactsHave f → M so → M (kinds_in m f so ns)
    unfolding kinds_in
    mask-slots m f so [] p q = q
    mask-slots m f so (n ∷ ns) p q = mask-slots m f (union so (slot m f n)) ns p (laws.unions so (slot m f n) q (mask-slot m f n p))

    -- ---- widths
    width-pick : (b : Bool) {w x : Width} → W w → W x → W (cond b w x)
    width-pick true p q = p
    width-pick false p q = q

    width-scalar : (m : Mask) (float : ℕ) → W (scalar_width m float)
    unfolding scalar_width
    width-scalar m float =
        width-pick (eqb (kind m).bits 1) (laws.scalars 0)
        (width-pick (eqb (kind m).bits 2) (laws.scalars 1)
        (width-pick (eqb (kind m).bits 4) (laws.scalars 1)
        (width-pick (eqb (kind m).bits 8) (laws.scalars 8)
        (width-pick (eqb (kind m).bits 16) (laws.scalars 8)
        (width-pick (eqb (kind m).bits 32) (laws.scalars float) laws.wide)))))

    width-data : (m : Module) (f : Facts) (n : ℕ) → W (data_width m f n)
    unfolding data_width
    width-data m f n = width-pick (is_body m n) laws.wide (width-scalar _ _)

    width-slots : (m : Module) (f : Facts) (so : Width) (ns : List ℕ) → W so → W (width_in m f so ns)
    unfolding width_in
    width-slots m f so [] p = p
    width-slots m f so (n ∷ ns) p = width-slots m f (cond (same_width so (data_width m f n)) so Wide) ns (width-pick (same_width so (data_width m f n)) p laws.wide)

    -- ---- cells
    cell-made : (m : Mask) (n : ℕ) → M m → P (made m n)
    unfolding made fresh
    cell-made m n p = laws.cell-fresh m (scalar_width m n) false p (width-scalar m n)

    cell-any : (n k : ℕ) → k ≤ 65535 → P (made (of k) n)
    cell-any n k l = cell-made (of k) n (mask-small k l)

    pub cell-none : P no_cell
    unfolding no_cell
    cell-none = cell-any 0 0 (omega arith)

    cell-pick : (b : Bool) {x y : Cell} → P x → P y → P (cond b x y)
    cell-pick true p q = p
    cell-pick false p q = q

    cell-declared : (s : Shape) (b : Bool) → W (declared_width s) → P (declared s b)
    unfolding declared fresh
    cell-declared s b p = laws.cell-fresh (shape_mask s) (declared_width s) _ (mask-shape s) p

    cells-join : {xs ys : List Cell} → All P xs → All P ys → All P (join_cells xs ys)
    unfolding join_cells
    cells-join nil q = nil
    cells-join (cons p ps) nil = cons p ps
    cells-join (cons {x = x} p ps) (cons {x = y} q qs) = cons (laws.cell_join x y p q) (cells-join ps qs)

    state-joined : (b : Bool) (s x : State) (j : Joined State) → join_if b s x ≡ ok j → StateHas s → StateHas x → StateHas j.value
    unfolding join_if join_states
    state-joined true s x j e p q = rw (← ok-inj e) (record { stack = cells-join p.stack q.stack; locals = cells-join p.locals q.locals })
    state-joined false s x j e p q = absurd (bad≢ok e)

    -- ---- what a visit makes
    flow-in : (f : Facts) (so : Flow) (ns : List ℕ) → FactsHave f → Q so → Q (flow_in f so ns)
    unfolding flow_in
    flow-in f so [] p q = q
    flow-in f so (n ∷ ns) p q = flow-in f (join_flow so (get_or f.flows n no_flow)) ns p (laws.flow-join so _ q (all-get Q n laws.flow-none p.flows))

    cell-read : (m : Module) (f : Facts) (n : ℕ) (ns : List ℕ) → FactsHave f → P (read_slots m f n ns)
    unfolding read_slots
    cell-read m f n ns p =
        let k = mask-slots m f NONE ns p (mask-small 0 (omega arith)) in
        cell-pick (is_body m n) (laws.cell-private _ _ k (flow-in f no_flow ns p laws.flow-none))
        (laws.cell-fresh _ _ _ k (width-slots m f _ ns (width-data m f n)))

    cell-site : (o : Option Site) → Opt (λ s. W (declared_width s.reply)) o → P (reply_cell o)
    unfolding reply_cell reply_shape
    cell-site none p = cell-none
    cell-site (some x) p = laws.cell-fresh _ _ _ (mask-shape x.reply) p

    cell-native : (o : Option NativeReturn) (n : ℕ) → Opt (λ x. W (declared_width x.shape)) o → P (native_cell o n)
    unfolding native_cell
    cell-native none n p = cell-any n 8191 (omega arith)
    cell-native (some x) n p = laws.cell-fresh _ _ _ (mask-shape x.shape) p

    arg-has : (v : Visit) (k : ℕ) → VisitHas v → P (arg v k)
    arg-has v k p = all-get P k cell-none p.args

    first-has : (v : Visit) (k : Makes) → VisitHas v → v.rule.makes ≡ k → P (first_output v k)
    unfolding first_output constant_cell field_cell composite_cell constructed_extent
    first-has v Anything p r = cell-any _ 8191 (omega arith)
    first-has v Constant p r = cell-pick (eqb (instr v).c 0) (cell-made _ _ (mask-constant _ _)) (laws.cell-fresh _ _ _ (mask-constant _ _) p.line.packed)
    first-has v Immediate p r = cell-made _ _ (mask-immediate _)
    first-has v NamedLocal p r = p.reads r _ (all-get P (instr v).a cell-none p.locals)
    first-has v Operand p r = arg-has v 0 p
    first-has v OperandMask p r = cell-made _ _ (laws.mask-of _ (arg-has v 0 p))
    first-has v Reply p r = cell-site v.line.site p.line.reply
    first-has v Result p r = all-get P (instr v).a cell-none p.facts.results
    first-has v (Common m) p r = cell-made _ _ (mask-common _ m (mask-shared v.args _ laws.top))
    first-has v (Kind m) p r = cell-made _ _ (p.rule m r)
    first-has v Negation p r = laws.cell-negated _ (arg v 0) (cell-made _ _ (mask-negation _)) (arg-has v 0 p)
    first-has v OneKind p r = cell-made _ _ (mask-bits _ _ (laws.mask-of _ (arg-has v 0 p)) (mask-shared v.args _ laws.top))
    first-has v Slots p r = cell-read _ _ _ _ p.facts
    first-has v Composite p r = cell-pick (eqb (instr v).a 0) (laws.cell-built _ _ _ _ _ _ (mask-body _) p.line.size) (cell-made _ _ (mask-body _))
    first-has v Part p r =
        cell-pick (eqb (instr v).a 0) (cell-made _ _ (mask-scalar _))
        (cell-pick (eqb (instr v).a 1) (laws.cell-fresh _ _ _ (mask-body _) p.line.size) (cell-any _ 8191 (omega arith)))
    first-has v NativeValue p r = cell-native (at v.code.natives (instr v).a) _ (all-at _ (instr v).a p.natives)

    cell-tested : (k : Mask) (c : Cell) (n : ℕ) → P c → P (tested k c n)
    unfolding tested inspection
    cell-tested k c n p =
        laws.cell-tests k _ c
        (cell-made _ _ (mask-pick (eqb c.mask.bits 0) (mask-small 0 (omega arith)) (mask-pick (has c.mask k) (mask-small 4098 (omega arith)) (mask-small 2 (omega arith))))) p

    second-has : (k : Others) (i : Instr) (c : Cell) (float : ℕ) → P c → P (second_output k i c float)
    unfolding second_output status_mask
    second-has Unknowns i c float p = cell-any _ 8191 (omega arith)
    second-has Words i c float p = cell-any _ 8 (omega arith)
    second-has Checked i c float p = cell-made _ _ (laws.mask-of c p)
    second-has Copies i c float p = p
    second-has (Tested k) i c float p = cell-tested k c _ p
    second-has Status i c float p = cell-made _ _ (mask-pick (eqb i.given 2) (mask-small 8 (omega arith)) (mask-small 8191 (omega arith)))

    rest_has : (k : Others) (c : Cell) (float : ℕ) → P c → P (rest_output k c float)
    unfolding rest_output
    rest_has Unknowns c float p = cell-any _ 8191 (omega arith)
    rest_has Words c float p = cell-any _ 8 (omega arith)
    rest_has Checked c float p = cell-any _ 8 (omega arith)
    rest_has Copies c float p = p
    rest_has (Tested k) c float p = cell-any _ 8191 (omega arith)
    rest_has Status c float p = cell-any _ 8191 (omega arith)

    record MadeHas (m : Made) : Type 0 where
      first : P m.first
      second : P m.second
      rest : P m.rest

    made-has : (v : Visit) → VisitHas v → MadeHas (outputs v)
    unfolding outputs made_from
    made-has v p =
        let f = first-has v v.rule.makes p refl in
        record { first = f; second = second-has v.rule.others (instr v) _ _ f; rest = rest_has v.rule.others _ _ f }

    output-has : (m : Made) (k : ℕ) → MadeHas m → P (output m k)
    unfolding output
    output-has m zero p = p.first
    output-has m (suc zero) p = p.second
    output-has m (suc (suc k)) p = p.rest

    row_has : (f : ℕ → Cell) (i n : ℕ) → ((k : ℕ) → P (f k)) → All P (row f i n)
    unfolding row
    row_has f i zero h = nil
    row_has f i (suc n) h = cons (h i) (row_has f (suc i) n h)

    pub outputs-have : (v : Visit) (n : ℕ) → VisitHas v → All P (output_list (outputs v) n)
    unfolding output_list
    outputs-have v n p = row_has (output (outputs v)) 0 n (λ k. output-has (outputs v) k (made-has v p))

    set_if : (b : Bool) (x : Setting) → P x.cell → Opt (λ y. P y.cell) (cond b (some x) none)
    set_if true x p = p
    set_if false x p = tt

    setting-has : (v : Visit) (k : Acts) → VisitHas v → Opt (λ x. P x.cell) (setting v k)
    unfolding setting
    setting-has v Still p = tt
    setting-has v SetsLocal p = laws.cell-nowhere _ (laws.cell-invalidated _ _ (arg-has v 0 p))
    setting-has v Yields p = set_if v.streams (record { local = 0; cell = reply_cell v.line.site }) (cell-site v.line.site p.line.reply)
    setting-has v Calls p =
        set_if (v.streams && get_or v.suspends (instr v).a false)
        (record { local = 0; cell = join_cell (invalidated_cell (get_or v.locals 0 no_cell) 0) v.reply })
        (laws.cell_join _ _ (laws.cell-invalidated _ _ (all-get P 0 cell-none p.locals)) p.reply)
    setting-has v Returns p = tt
    setting-has v Resets p = tt
    setting-has v Stores p = tt

    -- ---- what leaves
    forget-has : (o : Option Setting) (c : Cell) → P c → P (forget o c)
    unfolding forget
    forget-has none c p = p
    forget-has (some x) c p = laws.cell-invalidated c _ p

    locals-have : (o : Option Setting) {ls : List Cell} → Opt (λ x. P x.cell) o → All P ls → All P (set_locals o ls)
    unfolding set_locals
    locals-have none q a = a
    locals-have (some x) q a = all_set P x.local q (all_map P (λ c. invalidated_cell c x.local) (λ c p. laws.cell-invalidated c x.local p) a)

    kept-has : (v : Visit) (o : Option Setting) → VisitHas v → Opt (λ x. P x.cell) o → StateHas (kept v (outputs v) o)
    unfolding kept
    kept-has v o p q = record {
      stack = all_append P (all_map P (forget o) (forget-has o) p.below) (outputs-have v (instr v).given p);
      locals = locals-have o q p.locals;
    }

    reset-has : (b : Bool) (c : Cell) {ls : List Cell} → P c → All P ls → All P (reset_first b c ls)
    unfolding reset_first
    reset-has b c q nil = nil
    reset-has b c q (cons p a) = cons (cell-pick b q laws.cell-unit) (all_map P (λ x. unit_cell) (λ x y. laws.cell-unit) a)

    after-has : (v : Visit) → VisitHas v → StateHas (after v)
    unfolding after reset
    after-has v p = go (is_reset v.rule.acts)
      where
        go : (b : Bool) → StateHas (cond b (reset v (outputs v)) (kept v (outputs v) (setting v v.rule.acts)))
        go true = record { stack = outputs-have v (instr v).given p; locals = reset-has v.streams v.reply p.reply p.locals }
        go false = kept-has v (setting v v.rule.acts) p (setting-has v v.rule.acts p)

    narrow-has : (r : ℕ) (c : Cell) → P c → P (narrow_stack r c)
    unfolding narrow_stack
    narrow-has r c p = cell-pick (is_from c.flow.origin r) (laws.cell-narrow c p) p

    narrowed-has : (x : State) (r : ℕ) → StateHas x → StateHas (narrowed x r)
    unfolding narrowed
    narrowed-has x r p = record {
      stack = all_map P (narrow_stack r) (narrow-has r) p.stack;
      locals = all_set P r (laws.cell-narrow _ (all-get P r cell-none p.locals)) p.locals;
    }

    along-has : (x : State) (o : Option ℕ) → StateHas x → Opt StateHas (along x o)
    unfolding along
    along-has x none p = p
    along-has x (some r) p = go (has (get_or x.locals r no_cell).mask ENUM)
      where
        go : (b : Bool) → Opt StateHas (cond b (some (narrowed x r)) none)
        go true = narrowed-has x r p
        go false = tt

    way-has : (to : ℕ) (o : Option State) (ws : List (ℕ × State)) → Opt StateHas o → All (λ w. StateHas w.1) ws → All (λ w. StateHas w.1) (on_way to o ws)
    unfolding on_way
    way-has to none ws p a = a
    way-has to (some x) ws p a = cons p a

    ways-have : (v : Visit) (x : State) (tos : List ℕ) → StateHas x → All (λ w. StateHas w.1) (leaving_by v x tos)
    unfolding leaving_by
    ways-have v x [] p = nil
    ways-have v x (to ∷ tos) p = way-has to _ _ (along-has x _ p) (ways-have v x tos p)

    -- what leaves along each way
    pub leaving-has : (v : Visit) → VisitHas v → All (λ w. StateHas w.1) (leaving v)
    unfolding leaving
    leaving-has v p = ways-have v _ _ (after-has v p)

    below-has : (v : Visit) → VisitHas v → P (below v)
    below-has v p = all-get P _ cell-none p.below

    gift-if : (b : Bool) (g h : Gift) → GiftHas g → GiftHas h → GiftHas (cond b g h)
    gift-if true g h p q = p
    gift-if false g h p q = q

    gift-has : (v : Visit) (k : Acts) → VisitHas v → GiftHas (gives_by v k)
    unfolding gives_by
    gift-has v Still p = tt
    gift-has v SetsLocal p = tt
    gift-has v Yields p = tt
    gift-has v Calls p = all_map P bare_cell (λ c q. laws.cell-bare c q) p.args
    gift-has v Returns p = gift-if (is_entry v) nothing (returned v.chunk.number (bare_cell (below v))) tt (laws.cell-bare (below v) (below-has v p))
    gift-has v Resets p = tt
    gift-has v Stores p = arg-has v 0 p

    visited-has : (b : Bool) (v : Visit) (e : Effect State Gift) → visited b v ≡ ok e → VisitHas v → All (λ w. StateHas w.1) e.ways × GiftHas e.gives
    unfolding visited gives
    visited-has b v e q p =
        let q₁ = (unless-use (always v) _ q).1 in
        let q₂ = (unless-use (cond b (unfit v) 0) _ q₁).1 in
        let q₃ = (unless-use (height_fault v) _ q₂).1 in
        rw (← ok-inj q₃) (leaving-has v p, gift-has v v.rule.acts p)

    no_line_lem : LineHas no_line
    no_line_lem = record { size = laws.empty; packed = laws.empty; reply = tt }

    pub visit-has : (k : Known) (c : Chunk) (f : Facts) (i : ℕ) (s : State) → P k.reply → ModuleHas k.code → ChunkHas c
        → ((rule_of (line_at c i).instr.op).makes ≡ NamedLocal → From (line_at c i).instr.a) → FactsHave f → StateHas s → VisitHas (visit_of k c f i s)
    unfolding visit_of line_at
    visit-has k c f i s r m h n p q =
        record {
          reply = r;
          facts = p;
          args = all_drop P (length s.stack - (line_at c i).instr.taken) q.stack;
          below = all_take P (length s.stack - (line_at c i).instr.taken) q.stack;
          locals = q.locals;
          line = all-get LineHas i no_line_lem h.code;
          natives = m.natives;
          rule = laws.kinds (line_at c i).instr.op;
          reads = n;
        }

    -- ---- the facts
    pub write-mask : (f : Live) (n : ℕ) (c : Cell) → LiveHas f → P c → LiveHas (write_mask f n c)
    unfolding write_mask join_at
    write-mask f n c p q = record {
      known = p.known;
      writes = all_set M n (laws.unions _ _ (all-get M n {d = NONE} (mask-small 0 (omega arith)) p.writes) (laws.mask-of c q)) p.writes;
    }

    write-flow : (f : Live) (n : ℕ) (c : Cell) → LiveHas f → P c → LiveHas (write_flow f n c)
    unfolding write_flow with_flows join_at
    write-flow f n c p q = record {
      known = record {
        inputs = p.known.inputs;
        results = p.known.results;
        masks = p.known.masks;
        flows = all_set Q n (laws.flow-join _ _ (all-get Q n laws.flow-none p.known.flows) (laws.flow-stored c.flow (laws.flow-of c q))) p.known.flows;
      };
      writes = p.writes;
    }

    pub write-has : (m : Module) (f : Live) (n : ℕ) (c : Cell) → LiveHas f → P c → LiveHas (write_slot m f n c)
    unfolding write_slot
    write-has m f n c p q = go (is_body m n) (leb (length m.shared) n)
      where
        go : (a b : Bool) → LiveHas (cond a (write_flow (write_mask f n c) n c) (cond b (write_mask f n c) f))
        go true b = write-flow (write_mask f n c) n c (write-mask f n c p q) q
        go false true = write-mask f n c p q
        go false false = p

    writes-have : (m : Module) (f : Live) (ns : List ℕ) (c : Cell) → LiveHas f → P c → LiveHas (write_slots m f ns c)
    unfolding write_slots
    writes-have m f [] c p q = p
    writes-have m f (n ∷ ns) c p q = writes-have m (write_slot m f n c) ns c (write-has m f n c p q) q

    absorb-has : (m : Module) (f : Live) (g : Gift) → LiveHas f → GiftHas g → LiveHas (absorb m f g)
    unfolding absorb join_at
    absorb-has m f nothing p q = p
    absorb-has m f (arguments n cs) p q = record {
      known = record {
        inputs = all_set (All P) n (cells-join (all-get (All P) n nil p.known.inputs) q) p.known.inputs;
        results = p.known.results;
        masks = p.known.masks;
        flows = p.known.flows;
      };
      writes = p.writes;
    }
    absorb-has m f (returned n c) p q = record {
      known = record {
        inputs = p.known.inputs;
        results = all_set P n (laws.cell_join (get_or f.known.results n no_cell) c (all-get P n cell-none p.known.results) q) p.known.results;
        masks = p.known.masks;
        flows = p.known.flows;
      };
      writes = p.writes;
    }
    absorb-has m f (written ns c) p q = writes-have m f ns c p q

    masks-union : {ms ns : List Mask} → All M ms → All M ns → All M (union_masks ms ns)
    unfolding union_masks
    masks-union nil b = nil
    masks-union (cons p a) nil = cons p a
    masks-union (cons p a) (cons q b) = cons (laws.unions _ _ p q) (masks-union a b)

    opened-has : (f : Facts) → FactsHave f → LiveHas (opened f)
    unfolding opened
    opened-has f p = record { known = p; writes = all_map M (λ m. NONE) (λ m q. mask-small 0 (omega arith)) p.masks }

    closed-has : (f : Live) → LiveHas f → FactsHave (closed f)
    unfolding closed
    closed-has f p = record { inputs = p.known.inputs; results = p.known.results; masks = masks-union p.known.masks p.writes; flows = p.known.flows }

    pub filled-has : (n : ℕ) {cs : List Cell} → All P cs → All P (filled n cs)
    unfolding filled
    filled-has zero a = nil
    filled-has (suc n) nil = cons laws.cell-unit (filled-has n nil)
    filled-has (suc n) (cons p a) = cons p (filled-has n a)

    start_has : (c : Chunk) (f : Facts) → FactsHave f → All (Opt StateHas) (start c f)
    unfolding start
    start_has c f p =
        all_set (Opt StateHas) 0 {x = some (record { stack = []; locals = filled c.locals (get_or f.inputs c.number []) })}
        (record { stack = nil; locals = filled-has c.locals (all-get (All P) c.number nil p.inputs) })
        (all_replicate (Opt StateHas) (length c.code) {x = none} tt)

    -- every visit keeps it, if what is read from any local has it
    pub keeps : (k : Known) (cap : ℕ) → ((l : ℕ) → From l) → P k.reply → ModuleHas k.code
        → Keeps (analysis_of k cap) StateHas FactsHave LiveHas GiftHas ChunkHas
    unfolding join leaves
    keeps k cap from r m = record {
      joined = λ s x j e p q. state-joined _ s x j e p q;
      starts = λ c f u p. start_has c f p;
      opened = opened-has;
      viewed = λ f p. p.known;
      closes = closed-has;
      absorbs = λ f g p q. absorb-has k.code f g p q;
      left = λ b c f i s e q u h p w. visited-has b (visit_of k c f i s) e q (visit-has k c f i s r m h (λ n. from (line_at c i).instr.a) p w);
    }

    -- ---- the declared facts and the reply have it
    params-have : (m : Module) (c : Chunk) → ChunkHas c → All P (declared_params m c)
    unfolding declared_params
    params-have m c h = all_map P (λ x. declared x m.owns) (λ x p. cell-declared x m.owns p) h.params

    rows-have : (f : ℕ → Mask) (i n : ℕ) → ((k : ℕ) → M (f k)) → All M (row f i n)
    unfolding row
    rows-have f i zero h = nil
    rows-have f i (suc n) h = cons (h i) (rows-have f (suc i) n h)

    init-has : (m : Module) (n : ℕ) → ModuleHas m → M (init_mask m n)
    unfolding init_mask
    init-has m n h =
        mask-pick (leb (length m.shared) n) (all-get M (n - length m.shared) {d = NONE} (mask-small 0 (omega arith)) h.inits) (mask-small 0 (omega arith))

    pub first-facts : (m : Module) → ModuleHas m → FactsHave (first_facts m)
    unfolding first_facts
    first-facts m h = record {
      inputs = all_map (All P) (declared_params m) (λ c p. params-have m c p) (all_take ChunkHas m.signatures h.chunks);
      results = all_map P (λ c. declared c.result m.owns) (λ c p. cell-declared c.result m.owns p.result) (all_take ChunkHas m.signatures h.chunks);
      masks = rows-have (init_mask m) 0 m.slots (λ n. init-has m n h);
      flows = all_replicate Q m.slots laws.flow-none;
    }

    site-has : (m : Module) (c : Cell) (o : Option Site) → Opt (λ s. W (declared_width s.reply)) o → P c → P (site_reply m c o)
    unfolding site_reply
    site-has m c none h p = p
    site-has m c (some x) h p = laws.cell_join c _ p (cell-declared _ _ h)

    in-has : (m : Module) (c : Cell) {xs : List Line} → All LineHas xs → P c → P (reply_in m c xs)
    unfolding reply_in
    in-has m c nil p = p
    in-has m c (cons {x = x} h a) p = in-has m (site_reply m c x.site) a (site-has m c x.site h.reply p)

    replies-have : (m : Module) (c : Cell) {cs : List Chunk} → All ChunkHas cs → P c → P (replies m c cs)
    unfolding replies
    replies-have m c nil p = p
    replies-have m c (cons {x = x} {xs = xs} h a) p = replies-have m (reply_in m c x.code) a (in-has m c h.code p)

    head-has : {cs : List Cell} → All P cs → P (first_reply cs)
    unfolding first_reply
    head-has nil = laws.cell-unit
    head-has (cons p a) = p

    pub reply-has : (m : Module) (f : Facts) → ModuleHas m → FactsHave f → P (known_of m f).reply
    unfolding known_of whole_reply
    reply-has m f h p = replies-have m _ h.chunks (head-has (all-get (All P) m.entry nil p.inputs))
