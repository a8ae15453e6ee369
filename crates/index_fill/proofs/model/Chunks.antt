-- Every chunk, when all fields are through: its numbers and its rows.
use Prim.Native.Nat.{ℕ, zero, suc, ◌+◌, ◌*◌, ◌<◌}
use mathlib.Core.Path.{◌≡◌, refl, ap, ◌∙◌}
use mathlib.Core.Bool.{Bool, true, false, cond, ◌&&◌}
use mathlib.Core.List.{List, [], ◌∷◌}
use mathlib.Core.Logic.{inl}
use native.Mathlib.Omega.{arith}
use lib.Dec.{eqb, ltb}
use lib.ListN.{length, get_or}
use Rattle.description.specs.Fields.{tag_at, param_of}
use Rattle.words.proofs.Laws.{put_n-in}
use Rattle.definition.specs.Module.{Chunk, code_after, signed_params, chunk_from, chunks_from}
use Rattle.form_laws.specs.Places.{Placed, no_place, code_places, places_from}
use Rattle.form_laws.specs.Good.{no_chunk, row_cells}
use Rattle.layout.specs.Layout.{cells_before, numbers_at, word_at, word_count, word_inputs, word_locals, word_params, word_reachable, word_rows, word_stack, word_streams, word_suspends}
use Rattle.layout.specs.Indexed.{bit}
use Rattle.layout.specs.declared.Tables.{Tables}
use Rattle.form_laws.proofs.Each.{row-length}
use Rattle.index_fill.specs.declared.model.FillState.{FillState}
use Rattle.index_fill.specs.model.Model.{number_words, numbers_of, chunk_words, code_words, code_work, chunk_work, instr_work, tables_after, words_after, words_from}
use Rattle.index_fill.proofs.model.Room.{area_of, room-chunk}
use Rattle.index_fill.proofs.model.Keep.{number, keeps, outside, due}
use Rattle.index_fill.proofs.model.AtWork.{FillReady, site_in, kinds, ready, after-i, after-o, count, site, rows}

-- whether each chunk has a site
unfoldable pub site_marks : List ℕ → List ℕ → List Bool
site_marks s [] = []
site_marks s (p ∷ ps) = cond (eqb (tag_at s p) 2) (site_in s ps ∷ site_marks s ps) (site_marks s ps)

-- the words say of the chunk number k, whose area begins at start, what its field and its instructions' fields say
pub record ChunkHolds (ws : List ℕ) (k start entry : ℕ) (c : Chunk) (x : Placed) (suspends : Bool) : Type 0 where
  pub at : get_or ws (numbers_at k + word_at) 0 ≡ x.at
  pub rows : get_or ws (numbers_at k + word_rows) 0 ≡ start + 16 * (length c.params + 1)
  pub count : get_or ws (numbers_at k + word_count) 0 ≡ length c.code
  pub locals : get_or ws (numbers_at k + word_locals) 0 ≡ c.locals
  pub stack : get_or ws (numbers_at k + word_stack) 0 ≡ c.stack
  pub reachable : get_or ws (numbers_at k + word_reachable) 0 ≡ bit c.reachable
  pub site : get_or ws (numbers_at k + word_suspends) 0 ≡ bit suspends
  pub inputs : get_or ws (numbers_at k + word_inputs) 0 ≡ start
  pub params : get_or ws (numbers_at k + word_params) 0 ≡ length c.params
  pub streams : get_or ws (numbers_at k + word_streams) 0 ≡ bit (eqb c.number entry && (eqb c.block 2 && ltb 0 c.arity))
  pub fields : (i : ℕ) → i < length c.code → get_or ws (start + 16 * (length c.params + 1) + i * (16 * row_cells c) + 1) 0 ≡ get_or x.code i 0

pub moved : (ws : List ℕ) (k l start begin entry : ℕ) (c : Chunk) (x : Placed) (b : Bool) → k ≡ l → start ≡ begin → ChunkHolds ws k start entry c x b → ChunkHolds ws l begin entry c x b
moved ws k l start begin entry c x b p q h = rw (← p, ← q) h

-- as many places as instructions
pub length-code-places : (s ps : List ℕ) → length (code_places s ps) ≡ length (code_after s ps)
unfolding code_places code_after
length-code-places s [] = refl
length-code-places s (p ∷ ps) =
    kinds s p (λ e. rw e) (λ e f. rw (e, f) (ap suc (length-code-places s ps))) (λ e f g. rw (e, f) (length-code-places s ps))
    (λ e f g. rw (e, f) (length-code-places s ps))

-- where the area of the chunk k of the rest begins
abbrev pub start_of : List ℕ → List ℕ → Tables → FillState → ℕ → ℕ
start_of s ps t w k = w.free + w.size * length (code_after s ps) + 16 * cells_before (chunks_from s t.signatures w.seen ps) k

unfoldable pub EachHolds : List ℕ → List ℕ → Tables → FillState → List ℕ → Type 0
EachHolds s ps t w ws =
    (k : ℕ) → k < length (chunks_from s t.signatures w.seen ps)
    → ChunkHolds (words_from s ps t w ws) (w.seen + k) (start_of s ps t w k) t.entry
    (get_or (chunks_from s t.signatures w.seen ps) k no_chunk)
    (get_or (places_from s ps) k no_place)
    (get_or (site_marks s ps) k false)

module _ (s : List ℕ) (p : ℕ) (ps : List ℕ) (t : Tables) (w : FillState) (ws : List ℕ) (n : ℕ) (r : FillReady s (p ∷ ps) t w ws n) where
  abbrev u : Tables
  u = tables_after (tag_at s p) s p t

  abbrev vs : List ℕ
  vs = words_after s p t w ws

  module _ (e : eqb (tag_at s p) 2 ≡ true) where
    pub after-c : FillReady s ps u (chunk_work s p t w) vs n
    after-c = ready s p ps t w ws n r (chunk_work s p t w) (room-chunk s p ps t w n r.room e)

    written : (k : ℕ) → k < 10 → get_or vs (numbers_at w.seen + k) 0 ≡ get_or (number_words (numbers_of s p t w)) k 0
    unfolding code_words chunk_words
    written k l =
        let d = due s p ps t w ws n r.room e in
        outside s p t w ws (numbers_at w.seen + k) (inl (omega arith))
        ∙ rw e (put_n-in ws (numbers_at w.seen) (number_words (numbers_of s p t w)) 10 (omega arith) k l)

    -- all but the count and the site stay
    stays : (k : ℕ) → k < 10 → (k ≡ 2 → ⊥) → (k ≡ 6 → ⊥) → get_or (words_from s ps u (chunk_work s p t w) vs) (numbers_at w.seen + k) 0 ≡ get_or (number_words (numbers_of s p t w)) k 0
    unfolding chunk_work
    stays k l x y =
        keeps s ps u (chunk_work s p t w) vs n after-c.room (numbers_at w.seen + k) (number (omega arith) (λ q. x (omega arith)) (λ q. y (omega arith)))
        ∙ written k l

    first_chunk : ChunkHolds (words_from s ps u (chunk_work s p t w) vs) w.seen w.free t.entry
        (chunk_from s w.seen p (ltb w.seen t.signatures) (code_after s ps)) (record { at = p; code = code_places s ps }) (site_in s ps)
    unfolding chunk_from chunk_work numbers_of number_words
    first_chunk =
        let long = row-length (param_of s p) 0 (signed_params s p (ltb w.seen t.signatures)) in
        record {
          at = stays 0 (omega arith) (λ q. omega arith) (λ q. omega arith);
          rows = stays 1 (omega arith) (λ q. omega arith) (λ q. omega arith) ∙ rw long;
          count = count s ps u (chunk_work s p t w) vs n after-c (written 2 (omega arith)) ∙ omega arith;
          locals = stays 3 (omega arith) (λ q. omega arith) (λ q. omega arith);
          stack = stays 4 (omega arith) (λ q. omega arith) (λ q. omega arith);
          reachable = stays 5 (omega arith) (λ q. omega arith) (λ q. omega arith);
          site = site s ps u (chunk_work s p t w) vs n after-c ∙ ap (cond (site_in s ps) 1) (written 6 (omega arith));
          inputs = stays 7 (omega arith) (λ q. omega arith) (λ q. omega arith);
          params = stays 8 (omega arith) (λ q. omega arith) (λ q. omega arith) ∙ rw long;
          streams = stays 9 (omega arith) (λ q. omega arith) (λ q. omega arith);
          fields = λ i h. rw long (rows s ps u (chunk_work s p t w) vs n after-c i (omega (arith, length-code-places s ps)));
        }

  turn-chunk : EachHolds s ps u (chunk_work s p t w) vs → eqb (tag_at s p) 2 ≡ true → EachHolds s (p ∷ ps) t w ws
  unfolding EachHolds words_from code_work code_after chunks_from places_from site_marks cells_before chunk_work tables_after numbers_of
  turn-chunk ih e = rw e more
    where
      c : Chunk
      c = chunk_from s w.seen p (ltb w.seen t.signatures) (code_after s ps)

      cs : List Chunk
      cs = chunks_from s t.signatures (suc w.seen) ps

      more : (k : ℕ) → k < length (c ∷ cs)
          → ChunkHolds (words_from s ps u (chunk_work s p t w) vs) (w.seen + k) (w.free + w.size * 0 + 16 * cells_before (c ∷ cs) k) t.entry
          (get_or (c ∷ cs) k no_chunk)
          (get_or (record { at = p; code = code_places s ps } ∷ places_from s ps) k no_place)
          (get_or (site_in s ps ∷ site_marks s ps) k false)
      more zero h = moved _ w.seen (w.seen + zero) w.free _ t.entry _ _ _ (omega arith) (omega arith) (first_chunk e)
      more (suc k) h = moved _ (suc w.seen + k) (w.seen + suc k) _ _ t.entry _ _ _ (omega arith)
          (omega (arith, area_of s w.seen p (ltb w.seen t.signatures) (code_after s ps)))
          (ih k (omega arith))

  turn-instr : EachHolds s ps u (instr_work w) vs → eqb (tag_at s p) 2 ≡ false → eqb (tag_at s p) 3 ≡ true → EachHolds s (p ∷ ps) t w ws
  unfolding EachHolds words_from code_work code_after chunks_from places_from site_marks instr_work tables_after
  turn-instr ih e f = rw (e, f) (λ k h. moved _ (w.seen + k) _ _ _ t.entry _ _ _ refl (omega arith) (ih k h))

  turn-other : EachHolds s ps u w vs → eqb (tag_at s p) 2 ≡ false → eqb (tag_at s p) 3 ≡ false → EachHolds s (p ∷ ps) t w ws
  unfolding EachHolds words_from code_work code_after chunks_from places_from site_marks tables_after
  turn-other ih e f = rw (e, f) ih

  each_turn : ((v : FillState) → FillReady s ps u v vs n → EachHolds s ps u v vs) → EachHolds s (p ∷ ps) t w ws
  each_turn ih =
      kinds s p
      (λ e. turn-chunk (ih (chunk_work s p t w) (after-c e)) e)
      (λ e f. turn-instr (ih (instr_work w) (after-i s p ps t w ws n r e f)) e f)
      (λ e f g. turn-other (ih w (after-o s p ps t w ws n r e f)) e f)
      (λ e f g. turn-other (ih w (after-o s p ps t w ws n r e f)) e f)

pub each : (s ps : List ℕ) (t : Tables) (w : FillState) (ws : List ℕ) (n : ℕ) → FillReady s ps t w ws n → EachHolds s ps t w ws
unfolding EachHolds chunks_from
each s [] t w ws n r = λ k h. absurd (omega arith)
each s (p ∷ ps) t w ws n r = each_turn s p ps t w ws n r (λ v q. each s ps (tables_after (tag_at s p) s p t) v (words_after s p t w ws) n q)
