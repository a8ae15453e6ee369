-- The declared inputs and results are written chunk by chunk.
use Prim.Native.Nat.{ℕ, suc, ◌+◌, ◌*◌, ◌-◌, ◌<◌, ◌≤◌}
use native.Mathlib.Omega.{arith}
use mathlib.Core.Path.{◌≡◌, refl, ap, ap₂, ◌∙◌}
use mathlib.Core.Bool.{Bool}
use mathlib.Core.List.{List, [], ◌∷◌, map}
use mathlib.Core.Logic.{inl}
use borrow.Author.Count.{below_more}
use lib.ListN.{length, get_or}
use Rattle.widths.specs.declared.Shape.{Shape}
use Rattle.cells.specs.declared.Cell.{Cell}
use Rattle.cells.specs.Cell.{declared}
use Rattle.words.specs.Layout.{cell_at, put_cell, Storable}
use Rattle.words.proofs.Laws.{cell_at-put}
use Rattle.words.specs.Rows.{cells_at}
use Rattle.words.proofs.RowLaws.{outside_refl, outside_trans, outside-widen, outside-put, cell_at-outside, cells_at-outside}
use Rattle.definition.specs.Module.{Module, module_of}
use Rattle.definition.specs.Start.{declared_params}
use Rattle.form_laws.specs.Good.{chunk_no, no_shape, words_of}
use Rattle.layout.specs.declared.Chunk.{Chunk as ChunkNumbers}
use Rattle.layout.specs.Layout.{area_of, input_at, result_at, rows_at}
use Rattle.layout.specs.Indexed.{Indexed, chunk_at}
use Rattle.layout.proofs.Apart.{by_order, inputs-begin, result-begins, result-next, rows-in-area, rows_in, area-apart, input-in, result-in}
use Rattle.layout.proofs.Read.{input-is, result-is, params_is}
use Rattle.layout.specs.Kept.{Steady}
use Rattle.layout.proofs.Kept.{facts-free, steady-free, steady-refl, steady-trans}
use Rattle.run_state.proofs.Stays.{inputs_end}
use Rattle.start.specs.Inputs.{ChunkIn, ChunksDeclared, InputsIn}

-- ---- the inputs of a chunk
pub inputs-none : (s ws : List ℕ) (c : ℕ) → InputsIn s ws ws c 0
inputs-none s ws c = record { outside = outside_refl _ _ ws; cells = λ j h. absurd (omega arith) }

-- the addresses of its inputs
pub record Input (s ws : List ℕ) (c : ℕ) (ch : ChunkNumbers) (k : ℕ) : Type 0 where
  pub at : ch.inputs + 16 * k ≡ input_at (module_of s) c k
  pub there : k < length (chunk_no (module_of s) c).params
  pub room : input_at (module_of s) c k + 16 ≤ length ws
  pub small : input_at (module_of s) c k < 4294967296

pub input-known : (s ws : List ℕ) → Indexed s ws → (c : ℕ) → c < length (module_of s).chunks → (ch : ChunkNumbers) → ch ≡ chunk_at s ws c → (k : ℕ) → k < ch.params → Input s ws c ch k
input-known s ws x c h ch e k l =
    let t : k < length (chunk_no (module_of s) c).params = omega (arith, params_is s ws c ch e) in
    record {
      at = input-is s ws c ch e k;
      there = t;
      room = omega (arith, input-in (module_of s) c h k t, x.room);
      small = omega (arith, input-in (module_of s) c h k t, x.good.small);
    }

-- the address of its result
pub record Result (s ws : List ℕ) (c : ℕ) (ch : ChunkNumbers) : Type 0 where
  pub at : ch.inputs + 16 * ch.params ≡ result_at (module_of s) c
  pub room : result_at (module_of s) c + 16 ≤ length ws
  pub small : result_at (module_of s) c < 4294967296

pub result-known : (s ws : List ℕ) → Indexed s ws → (c : ℕ) → c < length (module_of s).chunks → (ch : ChunkNumbers) → ch ≡ chunk_at s ws c → Result s ws c ch
result-known s ws x c h ch e =
    record {
      at = result-is s ws c ch e;
      room = omega (arith, result-in (module_of s) c h, x.room);
      small = omega (arith, result-in (module_of s) c h, x.good.small);
    }

pub inputs-more : (s ws v u : List ℕ) (c k at : ℕ) (ch : ChunkNumbers) (b : Bool) (x : Shape) (d : Cell) → InputsIn s ws v c k → Input s ws c ch k → b ≡ (module_of s).owns
    → x ≡ get_or (chunk_no (module_of s) c).params k no_shape → at ≡ ch.inputs + 16 * k → d ≡ declared x b → (u ≡ put_cell v at d) × Storable d → InputsIn s ws u c (k + 1)
unfolding input_at
inputs-more s ws v u c k at ch b x d i p eb ex e ed (eu, f) =
    let q : at ≡ input_at (module_of s) c k = e ∙ p.at in
    let w : d ≡ declared (get_or (chunk_no (module_of s) c).params k no_shape) (module_of s).owns = ed ∙ ap₂ declared ex eb in
    rw (eu, q)
    (record {
      outside =
          outside_trans (outside-widen (input_at (module_of s) c 0) (input_at (module_of s) c (k + 1)) i.outside (omega arith) (omega arith))
          (outside-widen (input_at (module_of s) c 0) (input_at (module_of s) c (k + 1)) (outside-put v (input_at (module_of s) c k) d) (omega arith) (omega arith));
      cells =
          below_more _ k
          (λ j l. cell_at-outside (outside-put v (input_at (module_of s) c k) d) (input_at (module_of s) c j) (inl (omega arith)) ∙ i.cells j l)
          (cell_at-put v (input_at (module_of s) c k) d (omega (arith, p.room, i.outside.length)) f ∙ w);
    })

-- ---- a chunk
-- cells that are what f makes of a list
cells-map : (f : Shape → Cell) (v : List ℕ) (at : ℕ) (xs : List Shape) → ((j : ℕ) → j < length xs → cell_at v (at + 16 * j) ≡ f (get_or xs j no_shape)) → cells_at v at (length xs) ≡ map f xs
unfolding cells_at
cells-map f v at [] h = refl
cells-map f v at (x ∷ xs) h =
    let z : at ≡ at + 16 * 0 = omega arith in
    ap₂ ◌∷◌ (ap (cell_at v) z ∙ h 0 (omega arith))
    (cells-map f v (at + 16) xs (λ j l.
    let e : at + 16 + 16 * j ≡ at + 16 * suc j = omega arith in
    ap (cell_at v) e ∙ h (suc j) (omega arith)))

inputs_are : (s ws v : List ℕ) (c : ℕ) → InputsIn s ws v c (length (chunk_no (module_of s) c).params)
    → cells_at v (input_at (module_of s) c 0) (length (chunk_no (module_of s) c).params) ≡ declared_params (module_of s) (chunk_no (module_of s) c)
unfolding declared_params input_at
inputs_are s ws v c i =
    cells-map (λ x. declared x (module_of s).owns) v (input_at (module_of s) c 0) (chunk_no (module_of s) c).params
    (λ j l.
    let e : input_at (module_of s) c 0 + 16 * j ≡ input_at (module_of s) c j = omega arith in
    ap (cell_at v) e ∙ i.cells j l)

last : (m : Module) (c : ℕ) → input_at m c (length (chunk_no m c).params) ≡ result_at m c
unfolding input_at result_at
last m c = refl

pub chunk_in : (s ws v u : List ℕ) (c at : ℕ) (ch : ChunkNumbers) (b : Bool) (x : Shape) (d : Cell) → Indexed s ws → c < length (module_of s).chunks → ch ≡ chunk_at s ws c
    → b ≡ (module_of s).owns → InputsIn s ws v c (length (chunk_no (module_of s) c).params) → x ≡ (chunk_no (module_of s) c).result
    → at ≡ ch.inputs + 16 * ch.params → d ≡ declared x b → (u ≡ put_cell v at d) × Storable d → ChunkIn s ws u c
chunk_in s ws v u c at ch b x d y h en eb i ex ea ed (eu, f) =
    let m = module_of s in
    let r = result-next m c in
    let e : at ≡ result_at m c = ea ∙ result-is s ws c ch en in
    let n = length (chunk_no m c).params in
    let z : input_at m c 0 + 16 * n ≡ result_at m c = inputs_end m c in
    let o : input_at m c n ≡ result_at m c = last m c in
    let u : 16 * area_of m c ≤ input_at m c 0 = inputs-begin m c 0 in
    let g : 16 * area_of m c ≤ result_at m c = result-begins m c in
    rw (eu, e)
    (record {
      outside =
          outside_trans (outside-widen (16 * area_of m c) (rows_at m c) i.outside u (omega arith))
          (outside-widen (16 * area_of m c) (rows_at m c) (outside-put v (result_at m c) d) g (omega arith));
      inputs = cells_at-outside (outside-put v (result_at m c) d) (input_at m c 0) n (inl (omega arith)) ∙ inputs_are s ws v c i;
      result =
          cell_at-put v (result_at m c) d (omega (arith, result-in m c h, y.room, i.outside.length)) f
          ∙ ed
          ∙ ap₂ declared ex eb;
    })

-- ---- all chunks
pub declared-none : (s ws : List ℕ) → ChunksDeclared s ws ws 0
declared-none s ws =
    record {
      steady = steady-refl (module_of s) ws;
      outside = outside_refl _ _ ws;
      inputs = λ n h. absurd (omega arith);
      results = λ n h. absurd (omega arith);
    }

-- the first area begins before the others
area-first : (m : Module) (c : ℕ) → c < length m.chunks → 16 * area_of m 0 ≤ 16 * area_of m c
area-first m c h =
    by_order 0 c (λ l. omega (arith, area-apart m 0 c l (omega arith))) (λ e. rw (← e) (omega arith)) (λ l. absurd (omega arith))

chunk-steady : (s ws v : List ℕ) (c : ℕ) → c < length (module_of s).chunks → ChunkIn s ws v c → Steady (module_of s) ws v
chunk-steady s ws v c h k =
    let m = module_of s in
    let r = result-next m c in
    let b = result-begins m c in
    let e : 16 * area_of m c + (rows_at m c - 16 * area_of m c) ≡ rows_at m c = omega arith in
    steady-free m (16 * area_of m c) (rows_at m c - 16 * area_of m c) ws v
    (facts-free m c (16 * area_of m c) (rows_at m c - 16 * area_of m c) h (omega arith) (omega arith))
    k.outside.length
    (λ j o. k.outside.word j (rw e at o))

pub declared-more : (s begin ws v : List ℕ) (c : ℕ) → c < length (module_of s).chunks → ChunksDeclared s begin ws c → ChunkIn s ws v c → ChunksDeclared s begin v (c + 1)
declared-more s begin ws v c h d k =
    record {
      steady = steady-trans m begin ws v d.steady (chunk-steady s ws v c h k);
      outside = outside_trans d.outside (outside-widen (16 * area_of m 0) (words_of m) k.outside (area-first m c h) (rows_in m c h));
      inputs = below_more _ c (λ n l. cells_at-outside k.outside (input_at m n 0) _ (inl (omega (arith, before n l, inputs_end m n))) ∙ d.inputs n l) k.inputs;
      results =
          below_more _ c
          (λ n l. cell_at-outside k.outside (result_at m n) (inl (omega (arith, before n l))) ∙ d.results n l)
          k.result;
    }
  where
    m : Module
    m = module_of s

    before : (n : ℕ) → n < c → result_at m n + 16 ≤ 16 * area_of m c
    before n l = omega (arith, result-next m n, rows-in-area m n, area-apart m n c l (omega arith))
