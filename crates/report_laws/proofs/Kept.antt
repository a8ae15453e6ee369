-- The rules make cells that name locals of some kind from cells that do.
use Rattle.std.specs.Prelude.{Option, None, Some}
use Prim.Native.Nat.{ℕ, suc, ◌<◌}
use native.Mathlib.Omega.{arith}
use mathlib.Core.Path.{◌≡◌, refl, sym, ◌∙◌, ap}
use mathlib.Core.Bool.{Bool, true, false, cond}
use mathlib.Core.List.{List, [], ◌∷◌}
use lib.Dec.{eqb, ltb}
use lib.ListN.{length, length-set}
use borrow.Author.Tests.{ltb-true}
use Rattle.masks.specs.declared.Mask.{Mask}
use Rattle.widths.specs.declared.Width.{Width}
use Rattle.extents.specs.declared.Extent.{Extent}
use Rattle.extents.specs.Extent.{join_bodies}
use Rattle.flows.specs.declared.Flow.{Flow}
use Rattle.flows.specs.declared.Predicate.{Predicate}
use Rattle.flows.specs.declared.Predicate.TheVariants.{Nothing as Untested, Tests}
use Rattle.flows.specs.Flow.{same_origin, same_predicate, join_flow, no_flow, new_flow, origin_without, predicate_without, invalidated, bare, negated}
use Rattle.cells.specs.declared.Cell.{Cell}
use Rattle.cells.specs.Cell.{made, join_cell, invalidated_cell, bare_cell, narrow_enum, unit_cell}
use Rattle.packing.specs.Packing.{construction}
use Rattle.definition.specs.Data.{fresh}
use Rattle.definition.specs.Outputs.{no_cell, with_predicate, with_origin, origin_at, predicate_on}
use Rattle.definition.specs.Leaves.{stored_flow}
use Rattle.report_laws.specs.Names.{NamesLocal, NamesReceiver}
use Rattle.report_laws.proofs.Cells.{FlowNaming, CellNaming, Sayable}

pub joined-long : (xs ys : List Extent) → length xs ≡ length ys → length (join_bodies xs ys) ≡ length xs
joined-long [] ys e = refl
joined-long (x ∷ xs) [] e = absurd (omega arith)
joined-long (x ∷ xs) (y ∷ ys) e = ap suc (joined-long xs ys (omega arith))

-- a value read from a local that a report can name
pub local_at : (l : ℕ) → NamesLocal Sayable (origin_at l)
unfolding origin_at NamesLocal
local_at l = go (ltb l 65535) refl
  where
    go : (b : Bool) → ltb l 65535 ≡ b → NamesLocal Sayable (cond b (Some l) None)
    go true e = λ z. let h : l < 65535 = ltb-true l 65535 e in absurd (omega arith)
    go false e = tt

-- ---- names
module _ (N : ℕ → Type 0) where
  flat-local : (b : Bool) (o : Option ℕ) → NamesLocal N o → NamesLocal N (cond b o None)
  unfolding NamesLocal
  flat-local true o h = h
  flat-local false o h = tt

  flat-receiver : (b : Bool) (p : Predicate) → NamesReceiver N p → NamesReceiver N (cond b p Untested)
  unfolding NamesReceiver
  flat-receiver true p h = h
  flat-receiver false p h = tt

  local-without : (o : Option ℕ) (l : ℕ) → NamesLocal N o → NamesLocal N (origin_without o l)
  unfolding NamesLocal
  local-without None l h = tt
  local-without (Some i) l h = go (eqb i l)
    where
      go : (b : Bool) → NamesLocal N (cond b None (Some i))
      go true = tt
      go false = h

  receiver-without : (p : Predicate) (l : ℕ) → NamesReceiver N p → NamesReceiver N (predicate_without p l)
  unfolding NamesReceiver
  receiver-without Untested l h = tt
  receiver-without (Tests r w) l h = go (eqb r l)
    where
      go : (b : Bool) → NamesReceiver N (cond b Untested (Tests r w))
      go true = tt
      go false = h

  pub receiver-negated : (p : Predicate) → NamesReceiver N p → NamesReceiver N (negated p)
  unfolding NamesReceiver
  receiver-negated Untested h = tt
  receiver-negated (Tests r w) h = h

  pub receiver-on : (k : Mask) (o : Option ℕ) → NamesLocal N o → NamesReceiver N (predicate_on k o)
  unfolding predicate_on NamesLocal NamesReceiver
  receiver-on k None h = tt
  receiver-on k (Some l) h = go (eqb k.bits 2048)
    where
      go : (b : Bool) → NamesReceiver N (cond b (Tests l true) Untested)
      go true = h
      go false = tt

  pub nowhere-local : NamesLocal N None
  unfolding NamesLocal
  nowhere-local = tt

-- ---- flows and cells
module _ {N : ℕ → Type 0} where
  -- ---- joins
  pub flow-join : (x y : Flow) → FlowNaming N x → FlowNaming N y → FlowNaming N (join_flow x y)
  unfolding join_flow
  flow-join x y p q = record {
    four = joined-long x.bodies y.bodies (p.four ∙ sym q.four) ∙ p.four;
    origin = flat-local N (same_origin x.origin y.origin) x.origin p.origin;
    receiver = flat-receiver N (same_predicate x.predicate y.predicate) x.predicate p.receiver;
  }

  pub cell_join : (x y : Cell) → CellNaming N x → CellNaming N y → CellNaming N (join_cell x y)
  unfolding join_cell
  cell_join x y p q = flow-join x.flow y.flow p q

  -- ---- new values
  pub flow-new : (m : Mask) (w : Width) (o : Bool) → FlowNaming N (new_flow m w o)
  unfolding new_flow NamesLocal NamesReceiver
  flow-new m w o = record { four = refl; origin = tt; receiver = tt }

  pub flow-none : FlowNaming N no_flow
  unfolding no_flow NamesLocal NamesReceiver
  flow-none = record { four = refl; origin = tt; receiver = tt }

  pub cell-made : (m : Mask) (n : ℕ) → CellNaming N (made m n)
  unfolding made
  cell-made m n = flow-new _ _ _

  pub cell-fresh : (m : Mask) (w : Width) (o : Bool) → CellNaming N (fresh m w o)
  unfolding fresh
  cell-fresh m w o = flow-new _ _ _

  pub cell-none : CellNaming N no_cell
  unfolding no_cell
  cell-none = cell-made _ _

  pub cell-unit : CellNaming N unit_cell
  unfolding unit_cell
  cell-unit = flow-none

  -- ---- origins and predicates
  pub cell-invalidated : (c : Cell) (l : ℕ) → CellNaming N c → CellNaming N (invalidated_cell c l)
  unfolding invalidated_cell invalidated
  cell-invalidated c l p = record { four = p.four; origin = local-without N c.flow.origin l p.origin; receiver = receiver-without N c.flow.predicate l p.receiver }

  pub cell-bare : (c : Cell) → CellNaming N c → CellNaming N (bare_cell c)
  unfolding bare_cell bare NamesLocal NamesReceiver
  cell-bare c p = record { four = p.four; origin = tt; receiver = tt }

  pub flow-stored : (f : Flow) → FlowNaming N f → FlowNaming N (stored_flow f)
  unfolding stored_flow NamesLocal NamesReceiver
  flow-stored f p = record { four = p.four; origin = tt; receiver = tt }

  pub cell-narrow : (c : Cell) → CellNaming N c → CellNaming N (narrow_enum c)
  unfolding narrow_enum
  cell-narrow c p = p

  pub cell-predicate : (c : Cell) (p : Predicate) → CellNaming N c → NamesReceiver N p → CellNaming N (with_predicate c p)
  unfolding with_predicate
  cell-predicate c p h n = record { four = h.four; origin = h.origin; receiver = n }

  pub cell-origin : (c : Cell) (o : Option ℕ) → CellNaming N c → NamesLocal N o → CellNaming N (with_origin c o)
  unfolding with_origin
  cell-origin c o h n = record { four = h.four; origin = n; receiver = h.receiver }

  pub cell-construction : (k : ℕ) (x : Extent) → CellNaming N (construction k x)
  unfolding construction NamesLocal NamesReceiver
  cell-construction k x = record { four = simp length-set; origin = tt; receiver = tt }
