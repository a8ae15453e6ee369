-- The cells of a run name only locals that what they were made of names; so every cell of an accepted report is one that a report can say.
use Prim.Native.Nat.{ℕ}
use mathlib.Core.Path.{◌≡◌}
use mathlib.Core.Option.{Option, none, some}
use mathlib.Core.List.{List}
use Rattle.masks.specs.declared.Mask.{Mask}
use Rattle.widths.specs.declared.Width.{Width}
use Rattle.widths.specs.Shape.{declared_width}
use Rattle.cells.specs.declared.Cell.{Cell}
use Rattle.ops.specs.declared.Makes.TheVariants.{Local as NamedLocal}
use Rattle.ops.specs.Ops.{rule_of}
use Rattle.machine_laws.proofs.All.{All, Opt}
use Rattle.machine_laws.proofs.Carry.{check-keeps}
use Rattle.definition.specs.Machine.{Final, accepted}
use Rattle.definition.specs.Module.{Module, Chunk, Line, Site}
use Rattle.definition.specs.State.{State, Facts}
use Rattle.definition.specs.Outputs.{Visit, outputs, origin_at}
use Rattle.definition.specs.Data.{private_cell}
use Rattle.definition.specs.Ways.{output_list, leaving}
use Rattle.definition.specs.Leaves.{Known, line_at, visit_of}
use Rattle.definition.specs.Start.{first_facts, known_of, filled}
use Rattle.definition.specs.Call.{analysis_of, run_of}
use Rattle.report_laws.specs.Names.{NamesLocal}
use Rattle.report_laws.proofs.Cells.{FlowNaming, CellNaming, Sayable, Proper}
use Rattle.report_laws.proofs.Kept.{flow-join, cell_join, flow-none, cell-fresh, cell-unit, cell-invalidated, cell-bare, flow-stored, cell-narrow, cell-predicate, cell-origin, local_at, receiver-negated, receiver-on, cell-construction, nowhere-local}
use Rattle.report_laws.proofs.Carried.{every, Laws, LineHas, ChunkHas, ModuleHas, StateHas, FactsHave, LiveHas, GiftHas, VisitHas, outputs-have, leaving-has, visit-has, filled-has, keeps, first-facts, reply-has}

-- nothing is asked of masks and widths
abbrev pub AnyMask : Mask → Type 0
AnyMask m = Unit {0}

abbrev pub AnyWidth : Width → Type 0
AnyWidth w = Unit {0}

-- ---- cells that name locals of which N holds
module _ (N : ℕ → Type 0) where
  abbrev pub StateNaming : State → Type 0
  StateNaming = StateHas (CellNaming N) (FlowNaming N) AnyMask AnyWidth

  abbrev pub FactsNaming : Facts → Type 0
  FactsNaming = FactsHave (CellNaming N) (FlowNaming N) AnyMask AnyWidth

  abbrev VisitNaming : Visit → Type 0
  VisitNaming = VisitHas (CellNaming N) (FlowNaming N) AnyMask AnyWidth

  laws : Laws (CellNaming N) (FlowNaming N) AnyMask AnyWidth
  unfolding private_cell
  laws = record {
    top = tt;
    fewer = λ m n l p. tt;
    unions = λ m n p q. tt;
    kinds = λ op m e. tt;
    empty = tt;
    wide = tt;
    scalars = λ n. tt;
    flow-none = flow-none;
    flow-join = flow-join;
    flow-stored = flow-stored;
    mask-of = λ c p. tt;
    flow-of = λ c p. p;
    cell-unit = cell-unit;
    cell_join = cell_join;
    cell-fresh = λ m w o p q. cell-fresh m w o;
    cell-private = λ m f p q. q;
    cell-built = λ k j size cs float handle m p. cell-construction k _;
    cell-invalidated = cell-invalidated;
    cell-bare = cell-bare;
    cell-narrow = cell-narrow;
    cell-nowhere = λ c p. cell-origin c _ p (nowhere-local N);
    cell-negated = λ c d p q. cell-predicate c _ p (receiver-negated N d.flow.predicate q.receiver);
    cell-tests = λ k c d p q. cell-predicate c _ p (receiver-on N k d.flow.origin q.origin);
  }

  any-site : (o : Option Site) → Opt (λ s. AnyWidth (declared_width s.reply)) o
  any-site none = tt
  any-site (some x) = tt

  any-line : (x : Line) → LineHas (CellNaming N) (FlowNaming N) AnyMask AnyWidth x
  any-line x = record { size = tt; packed = tt; reply = any-site x.site }

  any-chunk : (c : Chunk) → ChunkHas (CellNaming N) (FlowNaming N) AnyMask AnyWidth c
  any-chunk c = record { code = every c.code any-line; params = every c.params (λ s. tt); result = tt }

  any-module : (m : Module) → ModuleHas (CellNaming N) (FlowNaming N) AnyMask AnyWidth m
  any-module m = record { chunks = every m.chunks any-chunk; natives = every m.natives (λ n. tt); inits = every m.inits (λ i. tt) }

  -- the facts and the reply at the start
  pub first-naming : (m : Module) → FactsNaming (first_facts m)
  first-naming m = first-facts (CellNaming N) (FlowNaming N) AnyMask AnyWidth laws m (any-module m)

  pub reply-naming : (m : Module) (f : Facts) → FactsNaming f → CellNaming N (known_of m f).reply
  reply-naming m f p = reply-has (CellNaming N) (FlowNaming N) AnyMask AnyWidth laws m f (any-module m) p

  pub filled-naming : (n : ℕ) {cs : List Cell} → All (CellNaming N) cs → All (CellNaming N) (filled n cs)
  filled-naming = filled-has (CellNaming N) (FlowNaming N) AnyMask AnyWidth laws

  -- a visit that reads such a local, and what leaves it
  visit-naming : (k : Known) (c : Chunk) (f : Facts) (i : ℕ) (s : State) → CellNaming N k.reply → FactsNaming f
      → ((rule_of (line_at c i).instr.op).makes ≡ NamedLocal → NamesLocal N (origin_at (line_at c i).instr.a)) → StateNaming s → VisitNaming (visit_of k c f i s)
  visit-naming k c f i s r p n q =
      visit-has (CellNaming N) (FlowNaming N) AnyMask AnyWidth laws k c f i s r (any-module k.code) (any-chunk c) (λ e d h. cell-origin d _ h (n e)) p q

  pub leaving-naming : (k : Known) (c : Chunk) (f : Facts) (i : ℕ) (s : State) → CellNaming N k.reply → FactsNaming f
      → ((rule_of (line_at c i).instr.op).makes ≡ NamedLocal → NamesLocal N (origin_at (line_at c i).instr.a)) → StateNaming s
      → All (λ w. StateNaming w.1) (leaving (visit_of k c f i s))
  leaving-naming k c f i s r p n q = leaving-has (CellNaming N) (FlowNaming N) AnyMask AnyWidth laws (visit_of k c f i s) (visit-naming k c f i s r p n q)

-- ---- what a report can say
abbrev pub ProperState : State → Type 0
ProperState = StateNaming Sayable

abbrev pub ProperFacts : Facts → Type 0
ProperFacts = FactsNaming Sayable

pub made-proper : (k : Known) (c : Chunk) (f : Facts) (i : ℕ) (s : State) (n : ℕ) → Proper k.reply → ProperFacts f → ProperState s
    → All Proper (output_list (outputs (visit_of k c f i s)) n)
made-proper k c f i s n r p q =
    outputs-have Proper (FlowNaming Sayable) AnyMask AnyWidth (laws Sayable) (visit_of k c f i s) n
    (visit-naming Sayable k c f i s r p (λ e. local_at (line_at c i).instr.a) q)

-- the facts and states of an accepted run
pub run-proper : (k : Known) (cap limit n : ℕ) (f : Facts) (x : Final Facts State) → Proper k.reply → ProperFacts f → run_of k cap limit f ≡ accepted x n
    → ProperFacts x.facts × All (All (Opt ProperState)) x.states
unfolding run_of
run-proper k cap limit n f x r p e =
    let h = check-keeps (analysis_of k cap) ProperState ProperFacts (LiveHas Proper (FlowNaming Sayable) AnyMask AnyWidth) (GiftHas Proper (FlowNaming Sayable) AnyMask AnyWidth)
    (ChunkHas Proper (FlowNaming Sayable) AnyMask AnyWidth)
    (keeps Proper (FlowNaming Sayable) AnyMask AnyWidth (laws Sayable) k cap (λ l c q. cell-origin c _ q (local_at l)) r (any-module Sayable k.code))
    (any-module Sayable k.code).chunks limit n f x p e in
    (h.facts-ok, h.states-ok)
