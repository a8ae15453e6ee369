-- What the walk still takes: the chunks that come, and their words, fit behind what it took.
use Prim.Native.Nat.{ℕ, ◌+◌, ◌*◌, ◌<◌, ◌≤◌}
use mathlib.Core.Path.{◌≡◌, refl}
use mathlib.Core.Bool.{Bool, true, false, cond}
use mathlib.Core.List.{List, [], ◌∷◌}
use native.Mathlib.Omega.{arith}
use lib.Dec.{eqb}
use lib.ListN.{length}
use Rattle.description.specs.Fields.{tag_at, chunk_of}
use Rattle.definition.specs.Module.{Chunk, Line, row, code_after, signed_params, chunk_from, chunks_from}
use Rattle.layout.specs.Layout.{area_cells, numbers_at, row_head}
use Rattle.layout.specs.declared.Tables.{Tables}
use Rattle.form_laws.proofs.Each.{row-length}
use Rattle.index_fill.specs.declared.model.FillState.{FillState}
use Rattle.index_fill.specs.model.Model.{areas, numbers_of, chunk_work, instr_work, code_work, tables_after}

-- the cells of these chunks beside their numbers
unfoldable pub areas_in : List Chunk → ℕ
areas_in [] = 0
areas_in (c ∷ cs) = area_cells c + areas_in cs

-- n words in all
pub record Room (s ps : List ℕ) (t : Tables) (w : FillState) (n : ℕ) : Type 0 where
  pub chunks : w.seen + length (chunks_from s t.signatures w.seen ps) ≡ t.chunks
  pub chunks_most : t.chunks ≤ 64
  pub slots_most : t.slots ≤ 1024
  pub numbers : w.numbers + 16 ≤ numbers_at w.seen
  pub areas : areas t ≤ w.free
  pub words : w.free + w.size * length (code_after s ps) + 16 * areas_in (chunks_from s t.signatures w.seen ps) ≡ n
  pub row : 0 < length (code_after s ps) → row_head ≤ w.size
  pub instrs : w.instrs ≤ w.free
  pub small : n < 4294967296

-- the cells of a chunk whose field is at p
pub area_of : (s : List ℕ) (k p : ℕ) (b : Bool) (ls : List Line)
    → area_cells (chunk_from s k p b ls) ≡ signed_params s p b + 1 + length ls * ((chunk_of s p).locals + (chunk_of s p).stack + 6)
unfolding area_cells chunk_from
area_of s k p b ls = rw row-length

module _ (s : List ℕ) (p : ℕ) (ps : List ℕ) (t : Tables) (w : FillState) (n : ℕ) (r : Room s (p ∷ ps) t w n) where
  pub room-chunk : eqb (tag_at s p) 2 ≡ true → Room s ps (tables_after (tag_at s p) s p t) (chunk_work s p t w) n
  unfolding chunks_from code_after areas_in chunk_work numbers_of tables_after
  room-chunk e =
      let c = rw e at r.chunks in
      let q = rw (e, area_of) at r.words in
      let b = r.areas in
      let m = r.numbers in
      record {
        chunks = omega arith;
        chunks_most = r.chunks_most;
        slots_most = r.slots_most;
        numbers = omega arith;
        areas = omega arith;
        words = omega arith;
        row = λ h. omega arith;
        instrs = omega arith;
        small = r.small;
      }

  pub room-instr : eqb (tag_at s p) 2 ≡ false → eqb (tag_at s p) 3 ≡ true → Room s ps (tables_after (tag_at s p) s p t) (instr_work w) n
  unfolding chunks_from code_after instr_work tables_after
  room-instr e f =
      let k = rw (e, f) at r.row in
      let z : row_head ≤ w.size = k (omega arith) in
      let q = rw (e, f) at r.words in
      let b = r.areas in
      let i = r.instrs in
      record {
        chunks = rw e at r.chunks;
        chunks_most = r.chunks_most;
        slots_most = r.slots_most;
        numbers = r.numbers;
        areas = omega arith;
        words = omega arith;
        row = λ h. z;
        instrs = omega arith;
        small = r.small;
      }

  pub room-other : eqb (tag_at s p) 2 ≡ false → eqb (tag_at s p) 3 ≡ false → Room s ps (tables_after (tag_at s p) s p t) w n
  unfolding chunks_from code_after tables_after
  room-other e f =
      record {
        chunks = rw e at r.chunks;
        chunks_most = r.chunks_most;
        slots_most = r.slots_most;
        numbers = r.numbers;
        areas = r.areas;
        words = rw (e, f) at r.words;
        row = rw (e, f) at r.row;
        instrs = r.instrs;
        small = r.small;
      }

  -- after a field
  pub room_after : Room s ps (tables_after (tag_at s p) s p t) (code_work (tag_at s p) s p t w) n
  unfolding code_work
  room_after = go (eqb (tag_at s p) 2) (eqb (tag_at s p) 3) refl refl
    where
      go : (a b : Bool) → eqb (tag_at s p) 2 ≡ a → eqb (tag_at s p) 3 ≡ b
          → Room s ps (tables_after (tag_at s p) s p t) (cond a (chunk_work s p t w) (cond b (instr_work w) w)) n
      go true b e f = room-chunk e
      go false true e f = room-instr e f
      go false false e f = room-other e f
