-- The walk over words of which some stand already as it writes them: what it leaves there.
use Prim.Native.Nat.{ℕ, suc, ◌+◌, ◌*◌, ◌<◌, ◌≤◌}
use mathlib.Core.Path.{◌≡◌, refl, sym, ◌∙◌}
use mathlib.Core.Bool.{Bool, true, false}
use mathlib.Core.List.{List, [], ◌∷◌}
use mathlib.Core.Logic.{◌⊎◌, inl, inr}
use native.Mathlib.Omega.{arith}
use borrow.Author.Tests.{eqb-true, eqb-false}
use lib.Dec.{eqb, ltb}
use lib.ListN.{length, get_or, set}
use lib.Seq.{get_or-set_same, get_or-set_other}
use Rattle.description.specs.Fields.{tag_at, param_of}
use Rattle.definition.specs.Module.{Chunk, code_after, signed_params, chunk_from, chunks_from}
use Rattle.form_laws.specs.Places.{no_place, code_places, places_from}
use Rattle.form_laws.specs.Good.{no_chunk, row_cells}
use Rattle.form_laws.proofs.Each.{row-length}
use Rattle.layout.specs.Layout.{cells_before, numbers_at, row_head, row_field, word_count, word_suspends, head_words}
use Rattle.layout.specs.declared.Tables.{Tables}
use Rattle.index_fill.specs.declared.model.FillState.{FillState}
use Rattle.index_fill.specs.model.Model.{areas, numbers_of, instr_words, site_words, code_work, chunk_work, instr_work, tables_after, words_after, words_from}
use Rattle.index_fill.proofs.model.Room.{area_of}
use Rattle.index_fill.proofs.model.Keep.{due}
use Rattle.index_fill.proofs.model.AtWork.{FillReady, site_in, kinds, after-chunk, after-instr, after-site, after-other, after-i, after-o}
use Rattle.index_fill.proofs.model.Chunks.{length-code-places, start_of, after-c}

-- the row of the instruction i, in the area that begins at start
abbrev row_in : ℕ → Chunk → ℕ → ℕ
row_in start c i = start + 16 * (length c.params + 1) + i * (16 * row_cells c)

-- the places of the instructions that come stand in their rows: those of the chunk at work, and those of each chunk that comes
pub record Standing (v s ps : List ℕ) (t : Tables) (w : FillState) : Type 0 where
  pub here : (i : ℕ) → i < length (code_places s ps) → get_or v (w.free + i * w.size + row_field) 0 ≡ get_or (code_places s ps) i 0
  pub coming : (k i : ℕ) → k < length (chunks_from s t.signatures w.seen ps) → i < length (get_or (chunks_from s t.signatures w.seen ps) k no_chunk).code
      → get_or v (row_in (start_of s ps t w k) (get_or (chunks_from s t.signatures w.seen ps) k no_chunk) i + row_field) 0 ≡ get_or (get_or (places_from s ps) k no_place).code i 0

-- the word a is no number of a chunk, and in no slot; before the first chunk no field comes that would write a count or a site
pub record Spared (s ps : List ℕ) (t : Tables) (w : FillState) (a : ℕ) : Type 0 where
  pub apart : (a < head_words + 16 * t.chunks) ⊎ (areas t ≤ a)
  pub numbers : (k : ℕ) → k < t.chunks → (a < numbers_at k) ⊎ (numbers_at k + 10 ≤ a)
  pub count : 0 < length (code_after s ps) → a ≡ w.numbers + word_count → ⊥
  pub site : site_in s ps ≡ true → a ≡ w.numbers + word_suspends → ⊥

no_number : (a n k : ℕ) → (a < n) ⊎ (n + 10 ≤ a) → k < 10 → a ≡ n + k → ⊥
no_number a n k (inl h) l e = omega arith
no_number a n k (inr h) l e = omega arith

pub moved_word : (v : List ℕ) (a b n : ℕ) → a ≡ b → get_or v b 0 ≡ n → get_or v a 0 ≡ n
moved_word v a b n e h = rw e h

module _ (v s : List ℕ) (p : ℕ) (ps : List ℕ) (t : Tables) (w : FillState) (ws : List ℕ) (n : ℕ) (r : FillReady s (p ∷ ps) t w ws n) (st : Standing v s (p ∷ ps) t w)
    (a : ℕ) (x : Spared s (p ∷ ps) t w a) where
  abbrev u : Tables
  u = tables_after (tag_at s p) s p t

  abbrev vs : List ℕ
  vs = words_after s p t w ws

  -- ---- a chunk
  module _ (e : eqb (tag_at s p) 2 ≡ true) where
    standing-chunk : Standing v s ps u (chunk_work s p t w)
    unfolding code_places chunks_from places_from code_after cells_before chunk_work tables_after numbers_of chunk_from
    standing-chunk =
        let long = row-length (param_of s p) 0 (signed_params s p (ltb w.seen t.signatures)) in
        let g = rw e at st.coming in
        record {
          here = λ i h. moved_word v _ _ _ (omega (arith, long)) (g 0 i (omega arith) (omega (arith, length-code-places s ps)));
          coming = λ k i h l. moved_word v _ _ _ (omega (arith, area_of s w.seen p (ltb w.seen t.signatures) (code_after s ps))) (g (suc k) i (omega arith) l);
        }

    spared-chunk : Spared s ps u (chunk_work s p t w) a
    unfolding chunk_work tables_after
    spared-chunk =
        let d = x.numbers w.seen (due s p ps t w ws n r.room e) in
        record {
          apart = x.apart;
          numbers = x.numbers;
          count = λ h. no_number a (numbers_at w.seen) word_count d (omega arith);
          site = λ h. no_number a (numbers_at w.seen) word_suspends d (omega arith);
        }

  -- ---- an instruction
  module _ (e : eqb (tag_at s p) 2 ≡ false) (f : eqb (tag_at s p) 3 ≡ true) where
    standing-instr : Standing v s ps u (instr_work w)
    unfolding code_places chunks_from places_from code_after instr_work tables_after
    standing-instr =
        let g = rw (e, f) at st.here in
        let c = rw (e, f) at st.coming in
        record {
          here = λ i h. moved_word v _ _ _ (omega arith) (g (suc i) (omega arith));
          coming = λ k i h l. moved_word v _ _ _ (omega arith) (c k i h l);
        }

    spared-instr : Spared s ps u (instr_work w) a
    unfolding code_after site_in instr_work tables_after
    spared-instr =
        let c = rw (e, f) at x.count in
        record { apart = x.apart; numbers = x.numbers; count = λ h. c (omega arith); site = rw (e, f) at x.site }

    instr-same : get_or ws a 0 ≡ get_or v a 0 → get_or (instr_words p w ws) a 0 ≡ get_or v a 0
    unfolding code_places code_after instr_words
    instr-same h =
        let c = rw (e, f) at x.count in
        get_or-set_other (set ws (w.free + row_field) p) (w.numbers + word_count) a (w.instrs + 1) 0 (c (omega arith)) ∙ go (eqb a (w.free + row_field)) refl
      where
        go : (b : Bool) → eqb a (w.free + row_field) ≡ b → get_or (set ws (w.free + row_field) p) a 0 ≡ get_or v a 0
        go true q =
            let g = rw (e, f) at st.here in
            let k = rw (e, f) at r.room.row in
            let z : row_head ≤ w.size = k (omega arith) in
            let l = rw (e, f) at r.room.words in
            rw (eqb-true a (w.free + row_field) q)
            (get_or-set_same ws (w.free + row_field) p 0 (omega arith) ∙ sym (moved_word v (w.free + row_field) _ p (omega arith) (g 0 (omega arith))))
        go false q = get_or-set_other ws (w.free + row_field) a p 0 (eqb-false a (w.free + row_field) q) ∙ h

  -- ---- another field
  module _ (e : eqb (tag_at s p) 2 ≡ false) (f : eqb (tag_at s p) 3 ≡ false) where
    standing-other : Standing v s ps u w
    unfolding code_places chunks_from places_from code_after tables_after
    standing-other = record { here = rw (e, f) at st.here; coming = rw (e, f) at st.coming }

    spared-site : eqb (tag_at s p) 4 ≡ true → Spared s ps u w a
    unfolding code_after site_in tables_after
    spared-site g =
        let d = rw (e, f, g) at x.site in
        record { apart = x.apart; numbers = x.numbers; count = rw (e, f) at x.count; site = λ h. d refl }

    site-same : eqb (tag_at s p) 4 ≡ true → get_or (site_words w ws) a 0 ≡ get_or ws a 0
    unfolding site_in site_words
    site-same g =
        let d = rw (e, f, g) at x.site in
        get_or-set_other ws (w.numbers + word_suspends) a 1 0 (d refl)

    spared_other : eqb (tag_at s p) 4 ≡ false → Spared s ps u w a
    unfolding code_after site_in tables_after
    spared_other g = record { apart = x.apart; numbers = x.numbers; count = rw (e, f) at x.count; site = rw (e, f, g) at x.site }

  stays-turn : ((y : FillState) → FillReady s ps u y vs n → Standing v s ps u y → Spared s ps u y a → get_or vs a 0 ≡ get_or v a 0 → get_or (words_from s ps u y vs) a 0 ≡ get_or v a 0)
      → get_or ws a 0 ≡ get_or v a 0 → get_or (words_from s (p ∷ ps) t w ws) a 0 ≡ get_or v a 0
  unfolding words_from code_work
  stays-turn ih h =
      kinds s p
      (λ e. rw e
      (ih (chunk_work s p t w) (after-c s p ps t w ws n r e) (standing-chunk e) (spared-chunk e)
      (after-chunk s p t w ws a x.apart e (x.numbers w.seen (due s p ps t w ws n r.room e)) ∙ h)))
      (λ e f. rw (e, f)
      (ih (instr_work w) (after-i s p ps t w ws n r e f) (standing-instr e f) (spared-instr e f) (after-instr s p t w ws a x.apart e f ∙ instr-same e f h)))
      (λ e f g. rw (e, f)
      (ih w (after-o s p ps t w ws n r e f) (standing-other e f) (spared-site e f g) (after-site s p t w ws a x.apart e f g ∙ site-same e f g ∙ h)))
      (λ e f g. rw (e, f)
      (ih w (after-o s p ps t w ws n r e f) (standing-other e f) (spared_other e f g) (after-other s p t w ws a x.apart e f g ∙ h)))

pub stays : (v s ps : List ℕ) (t : Tables) (w : FillState) (ws : List ℕ) (n : ℕ) → FillReady s ps t w ws n → Standing v s ps t w → (a : ℕ) → Spared s ps t w a
    → get_or ws a 0 ≡ get_or v a 0 → get_or (words_from s ps t w ws) a 0 ≡ get_or v a 0
unfolding words_from
stays v s [] t w ws n r st a x h = h
stays v s (p ∷ ps) t w ws n r st a x h =
    stays-turn v s p ps t w ws n r st a x (λ y q z k e. stays v s ps (tables_after (tag_at s p) s p t) y (words_after s p t w ws) n q z a k e) h
