-- Before the first field behind the header: the module's tables stand in the fields that come, and there is room for them.
use Prim.Native.Nat.{ℕ, ◌+◌, ◌*◌, ◌≤◌}
use mathlib.Core.Path.{◌≡◌, refl}
use mathlib.Core.Bool.{Bool, true}
use mathlib.Core.List.{List, [], ◌∷◌}
use mathlib.Core.Logic.{inl}
use native.Mathlib.Omega.{arith}
use lib.ListN.{length}
use Rattle.description.specs.Fields.{next_at, header_of, fields_from, of_tag}
use Rattle.description.proofs.Walk.{fields-turn}
use Rattle.definition.specs.Module.{Chunk, chunks_from, module_from, module_of}
use Rattle.form_laws.specs.Places.{places_from, places}
use Rattle.form_laws.specs.Order.{ordered}
use Rattle.form_laws.specs.Good.{Good, chunk_cells, cells_in, words_of}
use Rattle.layout.specs.Layout.{area_cells}
use Rattle.index_fill.specs.model.Model.{areas, first_tables, first_work}
use Rattle.index_fill.proofs.model.Room.{Room, areas_in}
use Rattle.index_fill.proofs.model.Orderly.{no_code, rest-ordered}

-- the fields behind the header
abbrev pub fields_of : List ℕ → List ℕ
fields_of s = fields_from s (next_at s 0)

-- a chunk's numbers have a cell of their own
cells-areas : (cs : List Chunk) → cells_in cs ≡ areas_in cs + length cs
unfolding cells_in areas_in chunk_cells area_cells
cells-areas [] = refl
cells-areas (c ∷ cs) = omega (arith, cells-areas cs)

module _ (s : List ℕ) (q : ℕ) (g : Good s q) where
  pub module-is : module_of s ≡ module_from s (header_of s 0) (fields_of s)
  unfolding module_of module_from chunks_from of_tag
  module-is = rw (fields-turn s 0 g.some_bytes, g.header)

  pub places-are : places s ≡ places_from s (fields_of s)
  unfolding places places_from
  places-are = rw (fields-turn s 0 g.some_bytes, g.header)

  pub natives-are : of_tag 5 s (fields_from s 0) ≡ of_tag 5 s (fields_of s)
  unfolding of_tag
  natives-are = rw (fields-turn s 0 g.some_bytes, g.header)

  pub shared-are : of_tag 6 s (fields_from s 0) ≡ of_tag 6 s (fields_of s)
  unfolding of_tag
  shared-are = rw (fields-turn s 0 g.some_bytes, g.header)

  pub ordered-rest : ordered s 1 (fields_of s) ≡ true
  ordered-rest =
      let o : ordered s 0 (0 ∷ fields_of s) ≡ true = rw (fields-turn s 0 g.some_bytes) at g.order in
      rw g.header at (rest-ordered s 0 0 (fields_of s) o)

  pub chunks-are : length (chunks_from s (header_of s 0).signatures 0 (fields_of s)) ≡ (header_of s 0).chunks
  unfolding module_from
  chunks-are = rw module-is at g.chunks

  words_are : q ≡ 16 * (cells_in (chunks_from s (header_of s 0).signatures 0 (fields_of s)) + (header_of s 0).slots + 4)
  unfolding words_of module_from
  words_are = rw module-is at g.words

  slots-most : (header_of s 0).slots ≤ 1024
  unfolding module_from module_of
  slots-most = g.slots

  pub room-first : (keep : Bool) → Room s (fields_of s) (first_tables s q) (first_work (first_tables s q) keep) q
  unfolding first_tables first_work
  room-first keep =
      let c = chunks-are in
      let most = g.chunks_most in
      let same = g.chunks in
      record {
        chunks = omega arith;
        chunks_most = omega arith;
        slots_most = slots-most;
        numbers = omega arith;
        areas = omega arith;
        words = omega (arith, words_are, cells-areas (chunks_from s (header_of s 0).signatures 0 (fields_of s)));
        row = rw (no_code s 1 (fields_of s) (inl (omega arith)) ordered-rest) (λ h. absurd (omega arith));
        instrs = omega arith;
        small = g.small;
      }
