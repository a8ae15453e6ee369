-- The local that a visit sets, from what the code has.
use Rattle.std.specs.Prelude.{None}
use Prim.Native.Nat.{ℕ, ◌%◌, ◌<◌, ◌≤◌}
use native.Mathlib.Nat.{mod-eq_of_lt}
use native.Mathlib.Omega.{arith}
use mathlib.Core.Path.{◌≡◌, ap, ap₂, ◌∙◌}
use mathlib.Core.Bool.{Bool, false, cond, ◌&&◌}
use mathlib.Core.Option.{none}
use mathlib.Core.List.{List}
use lib.ListN.{length, get_or}
use Rattle.cells.specs.declared.Cell.{Cell}
use Rattle.cells.specs.Cell.{join_cell, invalidated_cell}
use Rattle.description.specs.declared.Instr.{Instr}
use Rattle.description.specs.Fields.{reply_of}
use Rattle.ops.specs.declared.Acts.{Acts}
use Rattle.ops.specs.declared.Acts.TheVariants.{SetsLocal, Yields, Calls}
use Rattle.words.specs.Layout.{cell_at}
use Rattle.definition.specs.Module.{module_of}
use Rattle.definition.specs.Outputs.{Visit, no_cell, instr, with_origin, reply_shape, sets, setting}
use Rattle.form_laws.specs.Good.{chunk_no}
use Rattle.layout.specs.declared.Chunk.{Chunk as ChunkNumbers}
use Rattle.layout.specs.Indexed.{chunk_at}
use Rattle.visit.specs.declared.RowVisit.{RowVisit}
use Rattle.visit.specs.Held.{Looking, args_in, visit_in}
use Rattle.visit.proofs.Visits.{args_are}
use Rattle.row_join.specs.places.Arrive.{no_local}
use Rattle.row_join.specs.declared.joining.SetLocal.{SetLocal}
use Rattle.row_join.specs.joining.Met.{SetAs}
use Rattle.visit.proofs.operands.Parts.{ins-is}
use Rattle.outputs.proofs.Parts.{local-set, reply-yielded, streams-is, suspends-is, reply-is}

-- a local that is set, and none
pub set_first : (c : Cell) (r : SetLocal) → r.local ≡ 0 → r.cell ≡ c → SetAs (sets 0 c) r
unfolding SetAs
set_first c r l k = (l, k, λ z. omega arith)

pub set-none : (r : SetLocal) → r.local ≡ no_local → SetAs none r
unfolding SetAs
set-none r l = l

-- by the rule's own name for the act
pub set_told : (v : Visit) (r : SetLocal) {a b : Acts} → a ≡ b → SetAs (setting v b) r → SetAs (setting v a) r
set_told v r e h = rw e h

module _ (s ws : List ℕ) (v : RowVisit) (x : Looking s ws v) (r : SetLocal) where
  pub set_value : v.rule.acts ≡ SetsLocal → r.local ≡ v.ins.a % 65536
      → r.cell ≡ with_origin (invalidated_cell (get_or (args_in ws v) 0 no_cell) (v.ins.a % 65536)) None
      → SetAs (setting (visit_in s ws v) SetsLocal) r
  unfolding SetAs setting
  set_value e l k =
      let n = local-set s ws v x e in
      let few = (x.indexed.good.each_chunk v.chunk x.chunk).locals in
      rw (← ins-is s ws v x, args_are s ws v x) (l, k, λ z. omega (arith, mod-eq_of_lt (small n few)))
    where
      small : v.ins.a < (chunk_no (module_of s) v.chunk).locals → (chunk_no (module_of s) v.chunk).locals ≤ 256 → v.ins.a < 65536
      small n few = omega arith

  pub set-yield : (ch : ChunkNumbers) → ch ≡ chunk_at s ws v.chunk → v.rule.acts ≡ Yields
      → SetAs (cond ch.streams (sets 0 (reply_shape (reply_of s v.field))) none) r → SetAs (setting (visit_in s ws v) Yields) r
  unfolding setting
  set-yield ch q e h = rw (← streams-is s ws v x ch q, ← reply-yielded s ws v x e) h

  -- a call: what the code tests, and both ways
  pub set-call : (ch : ChunkNumbers) → ch ≡ chunk_at s ws v.chunk → (b : Bool) → v.ins.a < length (module_of s).chunks
      → b ≡ (ch.streams && (chunk_at s ws v.ins.a).suspends)
      → SetAs (cond b (sets 0 (join_cell (invalidated_cell (get_or (visit_in s ws v).locals 0 no_cell) 0) (cell_at ws 0))) none) r
      → SetAs (setting (visit_in s ws v) Calls) r
  unfolding setting
  set-call ch q b l t h =
      let p : b ≡ ((visit_in s ws v).streams && get_or (visit_in s ws v).suspends (instr (visit_in s ws v)).a false) =
      t ∙ ap₂ ◌&&◌ (streams-is s ws v x ch q) (suspends-is s ws v x v.ins.a l ∙ ap (λ (i : Instr). get_or (visit_in s ws v).suspends i.a false) (ins-is s ws v x)) in
      rw (← p, ← reply-is s ws v x) h
