-- The reply, site by site and chunk by chunk.
use Prim.Native.Nat.{ℕ, ◌+◌, ◌^◌, ◌<◌, ◌≤◌}
use native.Mathlib.Omega.{arith}
use native.Mathlib.Numerals.{add-one}
use mathlib.Core.Path.{◌≡◌, refl, sym, ap, ap₂, ◌∙◌}
use mathlib.Core.Bool.{Bool, true, false}
use mathlib.Core.List.{List, [], ◌∷◌, map}
use lib.ListN.{length, get_or, take, drop, drop_of_length-le}
use lib.Seq.{drop-cons, get_or-take, length-take-le}
use Rattle.widths.specs.declared.Shape.{Shape}
use Rattle.cells.specs.declared.Cell.{Cell}
use Rattle.cells.specs.Cell.{declared, join_cell, unit_cell}
use Rattle.description.specs.Fields.{has_site, reply_of}
use Rattle.definition.specs.Module.{Module, site_of, module_of}
use Rattle.definition.specs.Leaves.{no_line, line_at}
use Rattle.definition.specs.Start.{declared_params, first_facts, site_reply, reply_in, replies, first_reply, reply_cell}
use Rattle.form_laws.proofs.Each.{map_at}
use Rattle.form_laws.specs.Good.{Good, no_chunk, no_shape, chunk_no}
use Rattle.layout.specs.declared.Tables.{Tables}
use Rattle.layout.specs.declared.Chunk.{Chunk as ChunkNumbers}
use Rattle.layout.specs.Indexed.{Indexed, tables_of, chunk_place, chunk_at}
use Rattle.layout.proofs.Read.{count-is, params_is, field-small, site-is, chunks-are, entry-is}

-- ---- the numbers of the tables
pub owns-is : (s : List ℕ) (t : Tables) → t ≡ tables_of s → t.owns ≡ (module_of s).owns
unfolding tables_of
owns-is s t e = ap (λ (x : Tables). x.owns) e

pub entry-there : (s ws : List ℕ) (t : Tables) → Indexed s ws → t ≡ tables_of s → t.entry < length (module_of s).chunks
entry-there s ws t x e = omega (arith, entry-is s t e, x.good.entry, x.good.signatures)

-- ---- the entry's first parameter
first_some : (f : Shape → Cell) (xs : List Shape) → 0 < length xs → first_reply (map f xs) ≡ f (get_or xs 0 no_shape)
unfolding first_reply
first_some f [] h = absurd (omega arith)
first_some f (x ∷ xs) h = refl

first-none : (f : Shape → Cell) (xs : List Shape) → length xs ≤ 0 → first_reply (map f xs) ≡ unit_cell
unfolding first_reply
first-none f [] h = refl
first-none f (x ∷ xs) h = absurd (omega arith)

module _ (s ws : List ℕ) (t : Tables) (e : t ≡ tables_of s) (ch : ChunkNumbers) (q : ch ≡ chunk_at s ws t.entry) where
  pub reply-param : 0 < ch.params → (x : Shape) → x ≡ get_or (chunk_no (module_of s) t.entry).params 0 no_shape
      → declared x t.owns ≡ first_reply (declared_params (module_of s) (chunk_no (module_of s) (module_of s).entry))
  unfolding declared_params
  reply-param h x a =
      let l : 0 < length (chunk_no (module_of s) t.entry).params = omega (arith, params_is s ws t.entry ch q) in
      ap₂ declared a (owns-is s t e)
      ∙ sym (first_some (λ y. declared y (module_of s).owns) (chunk_no (module_of s) t.entry).params l)
      ∙ ap (λ (n : ℕ). first_reply (map (λ y. declared y (module_of s).owns) (chunk_no (module_of s) n).params)) (entry-is s t e)

  pub reply-unit : ch.params ≤ 0 → unit_cell ≡ first_reply (declared_params (module_of s) (chunk_no (module_of s) (module_of s).entry))
  unfolding declared_params
  reply-unit h =
      let l : length (chunk_no (module_of s) t.entry).params ≤ 0 = omega (arith, params_is s ws t.entry ch q) in
      sym (first-none (λ y. declared y (module_of s).owns) (chunk_no (module_of s) t.entry).params l)
      ∙ ap (λ (n : ℕ). first_reply (map (λ y. declared y (module_of s).owns) (chunk_no (module_of s) n).params)) (entry-is s t e)

-- ---- a site
pub site-reply : (s : List ℕ) (p : ℕ) (b : Bool) (owns : Bool) (so y : Cell) (x : Shape) → b ≡ has_site s p → b ≡ true → owns ≡ (module_of s).owns → x ≡ reply_of s p → y ≡ declared x owns
    → join_cell so y ≡ site_reply (module_of s) so (site_of s p)
unfolding site_of site_reply
site-reply s p b owns so y x e t o r d = rw (sym e ∙ t, d, r, o)

pub site-none : (s : List ℕ) (p : ℕ) (b : Bool) (so : Cell) → b ≡ has_site s p → b ≡ false → so ≡ site_reply (module_of s) so (site_of s p)
unfolding site_of site_reply
site-none s p b so e f = rw (sym e ∙ f)

-- ---- the sites of a chunk
module _ (s ws : List ℕ) (x : Indexed s ws) (c i : ℕ) (h : c < length (module_of s).chunks) (ch : ChunkNumbers) (q : ch ≡ chunk_at s ws c) (l : i < ch.count) where
  there : i < length (chunk_no (module_of s) c).code
  there = omega (arith, count-is s ws c ch q)

  pub field_fits : (p : ℕ) → p ≡ get_or (chunk_place s c).code i 0 → p < 2 ^ 61
  field_fits p e = omega (arith, field-small s c h i there, x.good.long)

  pub sites-next : (so new start : Cell) (p : ℕ) → p ≡ get_or (chunk_place s c).code i 0 → new ≡ site_reply (module_of s) so (site_of s p)
      → reply_in (module_of s) so (drop i (chunk_no (module_of s) c).code) ≡ reply_in (module_of s) start (chunk_no (module_of s) c).code
      → reply_in (module_of s) new (drop (i + 1) (chunk_no (module_of s) c).code) ≡ reply_in (module_of s) start (chunk_no (module_of s) c).code
  unfolding reply_in line_at
  sites-next so new start p e n a =
      let f : new ≡ site_reply (module_of s) so (line_at (chunk_no (module_of s) c) i).site = n ∙ ap (λ (k : ℕ). site_reply (module_of s) so (site_of s k)) e ∙ ap (site_reply (module_of s) so) (sym (site-is s c h i there)) in
      rw (add-one i, f) (rw (drop-cons (chunk_no (module_of s) c).code i no_line there) at a)

pub sites-end : (s ws : List ℕ) (c i : ℕ) (ch : ChunkNumbers) → ch ≡ chunk_at s ws c → ch.count ≤ i → (so start : Cell)
    → reply_in (module_of s) so (drop i (chunk_no (module_of s) c).code) ≡ reply_in (module_of s) start (chunk_no (module_of s) c).code
    → so ≡ reply_in (module_of s) start (chunk_no (module_of s) c).code
unfolding reply_in
sites-end s ws c i ch q l so start e =
    let h : length (chunk_no (module_of s) c).code ≤ i = omega (arith, count-is s ws c ch q) in
    sym (ap (reply_in (module_of s) so) (drop_of_length-le (chunk_no (module_of s) c).code h)) ∙ e

-- ---- the chunks
pub replies-next : (m : Module) (c : ℕ) → c < length m.chunks → (so new start : Cell) → new ≡ reply_in m so (chunk_no m c).code
    → replies m so (drop c m.chunks) ≡ replies m start m.chunks → replies m new (drop (c + 1) m.chunks) ≡ replies m start m.chunks
unfolding replies chunk_no
replies-next m c h so new start e a = rw (e, add-one c) (rw (drop-cons m.chunks c no_chunk h) at a)

-- the entry has its declared inputs
first-inputs : (m : Module) → m.entry < m.signatures → m.signatures ≤ length m.chunks → get_or (first_facts m).inputs m.entry [] ≡ declared_params m (chunk_no m m.entry)
unfolding first_facts chunk_no
first-inputs m h l =
    let k : m.entry < length (take m.signatures m.chunks) = omega (arith, length-take-le m.signatures m.chunks l) in
    map_at (declared_params m) (take m.signatures m.chunks) m.entry no_chunk [] k
    ∙ ap (declared_params m) (get_or-take m.signatures m.chunks m.entry no_chunk h)

pub replies-end : (s : List ℕ) (w : ℕ) → Good s w → (t : Tables) → t ≡ tables_of s → (c : ℕ) → t.chunks ≤ c → (so start : Cell)
    → start ≡ first_reply (declared_params (module_of s) (chunk_no (module_of s) (module_of s).entry))
    → replies (module_of s) so (drop c (module_of s).chunks) ≡ replies (module_of s) start (module_of s).chunks
    → so ≡ reply_cell (module_of s) (first_facts (module_of s))
unfolding reply_cell replies
replies-end s w g t e c l so start f a =
    let h : length (module_of s).chunks ≤ c = omega (arith, chunks-are s t e) in
    sym (ap (replies (module_of s) so) (drop_of_length-le (module_of s).chunks h))
    ∙ a
    ∙ ap (λ (x : Cell). replies (module_of s) x (module_of s).chunks) (f ∙ ap first_reply (sym (first-inputs (module_of s) g.entry g.signatures)))
