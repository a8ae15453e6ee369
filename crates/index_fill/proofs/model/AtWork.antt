-- The chunk at work, when all fields are through: its count of instructions, whether it has a site, and the places in its rows.
use Prim.Native.Nat.{ℕ, zero, suc, ◌+◌, ◌*◌, ◌<◌, ◌≤◌}
use mathlib.Core.Path.{◌≡◌, refl, ap, ◌∙◌}
use mathlib.Core.Bool.{Bool, true, false, cond}
use mathlib.Core.List.{List, [], ◌∷◌}
use mathlib.Core.Logic.{◌⊎◌, inl, inr}
use native.Mathlib.Omega.{arith}
use lib.Dec.{eqb, ltb}
use lib.ListN.{length, get_or, set, length-set}
use lib.Seq.{get_or-set_same, get_or-set_other}
use Rattle.description.specs.Fields.{tag_at}
use Rattle.words.proofs.Laws.{put_n-out, length-put_n}
use Rattle.le.specs.Le.{at16}
use Rattle.masks.specs.declared.Mask.{Mask}
use Rattle.definition.specs.Module.{code_after, init_of}
use Rattle.form_laws.specs.Places.{code_places}
use Rattle.layout.specs.declared.Tables.{Tables}
use Rattle.layout.specs.Layout.{numbers_at, row_head, row_field, word_count, word_suspends, head_words}
use Rattle.index_fill.specs.declared.model.FillState.{FillState}
use Rattle.index_fill.specs.model.Model.{areas, slot_of, number_words, numbers_of, chunk_words, instr_words, site_words, code_words, code_work, chunk_work, instr_work, mark_words, init_words, slot_words, tables_after, words_after, words_from}
use Rattle.index_fill.proofs.model.Room.{Room, room-chunk, room-instr, room-other}
use Rattle.index_fill.proofs.model.Keep.{number, row, keeps, outside}

-- ---- no word more, none less
long-either : (b : Bool) (v w : List ℕ) (n : ℕ) → length v ≡ n → length w ≡ n → length (cond b v w) ≡ n
long-either true v w n x y = x
long-either false v w n x y = y

pub length-code : (tag : ℕ) (s : List ℕ) (p : ℕ) (t : Tables) (w : FillState) (ws : List ℕ) → length (code_words tag s p t w ws) ≡ length ws
unfolding code_words chunk_words instr_words site_words
length-code tag s p t w ws =
    long-either (eqb tag 2) _ _ (length ws) (length-put_n ws (numbers_at w.seen) (number_words (numbers_of s p t w)) 10)
    (long-either (eqb tag 3) _ _ (length ws) (simp length-set)
    (long-either (eqb tag 4) _ ws (length ws) (simp length-set) refl))

length-mark : (t : Tables) (k : ℕ) (ws : List ℕ) → length (mark_words t k ws) ≡ length ws
unfolding mark_words
length-mark t k ws = long-either (ltb k t.slots) _ ws (length ws) (length-set ws (slot_of t k + 15) _) refl

length-init : (t : Tables) (m : Mask) (ws : List ℕ) → length (init_words t m ws) ≡ length ws
unfolding init_words
length-init t m ws =
    long-either (ltb (t.shared + t.inits) t.slots) (set ws (slot_of t (t.shared + t.inits)) m.bits) ws (length ws) (simp length-set) refl

length-slot : (tag : ℕ) (s : List ℕ) (p : ℕ) (t : Tables) (keep : Bool) (ws : List ℕ) → length (slot_words tag s p t keep ws) ≡ length ws
unfolding slot_words
length-slot tag s p t keep ws =
    long-either (eqb tag 7) _ _ (length ws) (length-mark t (at16 s (p + 3)) ws)
    (long-either (eqb tag 8) _ ws (length ws) (long-either keep ws _ (length ws) refl (length-init t (init_of s p) ws)) refl)

pub length-after : (s : List ℕ) (p : ℕ) (t : Tables) (w : FillState) (ws : List ℕ) → length (words_after s p t w ws) ≡ length ws
unfolding words_after
length-after s p t w ws = length-slot (tag_at s p) s p t w.keep (code_words (tag_at s p) s p t w ws) ∙ length-code (tag_at s p) s p t w ws

-- a site before the next chunk
unfoldable pub site_in : List ℕ → List ℕ → Bool
site_in s [] = false
site_in s (p ∷ ps) = cond (eqb (tag_at s p) 2) false (cond (eqb (tag_at s p) 3) (site_in s ps) (cond (eqb (tag_at s p) 4) true (site_in s ps)))

-- ---- one field, by its kind
module _ (s : List ℕ) (p : ℕ) (t : Tables) (w : FillState) (ws : List ℕ) (a : ℕ) (o : (a < head_words + 16 * t.chunks) ⊎ (areas t ≤ a)) where
  pub after-chunk : eqb (tag_at s p) 2 ≡ true → (a < numbers_at w.seen) ⊎ (numbers_at w.seen + 10 ≤ a) → get_or (words_after s p t w ws) a 0 ≡ get_or ws a 0
  unfolding code_words chunk_words
  after-chunk e h = outside s p t w ws a o ∙ rw e (put_n-out ws (numbers_at w.seen) (number_words (numbers_of s p t w)) 10 a h)

  pub after-instr : eqb (tag_at s p) 2 ≡ false → eqb (tag_at s p) 3 ≡ true → get_or (words_after s p t w ws) a 0 ≡ get_or (instr_words p w ws) a 0
  unfolding code_words
  after-instr e f = outside s p t w ws a o ∙ rw (e, f)

  pub after-site : eqb (tag_at s p) 2 ≡ false → eqb (tag_at s p) 3 ≡ false → eqb (tag_at s p) 4 ≡ true → get_or (words_after s p t w ws) a 0 ≡ get_or (site_words w ws) a 0
  unfolding code_words
  after-site e f g = outside s p t w ws a o ∙ rw (e, f, g)

  pub after-other : eqb (tag_at s p) 2 ≡ false → eqb (tag_at s p) 3 ≡ false → eqb (tag_at s p) 4 ≡ false → get_or (words_after s p t w ws) a 0 ≡ get_or ws a 0
  unfolding code_words
  after-other e f g = outside s p t w ws a o ∙ rw (e, f, g)

-- by the kind of a field: a chunk's, an instruction's, a site, another
pub kinds : {P : Type 0} (s : List ℕ) (p : ℕ) → (eqb (tag_at s p) 2 ≡ true → P) → (eqb (tag_at s p) 2 ≡ false → eqb (tag_at s p) 3 ≡ true → P)
    → (eqb (tag_at s p) 2 ≡ false → eqb (tag_at s p) 3 ≡ false → eqb (tag_at s p) 4 ≡ true → P)
    → (eqb (tag_at s p) 2 ≡ false → eqb (tag_at s p) 3 ≡ false → eqb (tag_at s p) 4 ≡ false → P) → P
kinds {P} s p x y z o = go (eqb (tag_at s p) 2) (eqb (tag_at s p) 3) (eqb (tag_at s p) 4) refl refl refl
  where
    go : (b c d : Bool) → eqb (tag_at s p) 2 ≡ b → eqb (tag_at s p) 3 ≡ c → eqb (tag_at s p) 4 ≡ d → P
    go true c d e f g = x e
    go false true d e f g = y e f
    go false false true e f g = z e f g
    go false false false e f g = o e f g

-- ---- the claims, each by induction over the fields
-- the words from here on, n in all, are there
pub record FillReady (s ps : List ℕ) (t : Tables) (w : FillState) (ws : List ℕ) (n : ℕ) : Type 0 where
  pub room : Room s ps t w n
  pub long : n ≤ length ws

same-either : (b : Bool) (n : ℕ) → n ≡ 1 → cond b 1 n ≡ 1
same-either true n h = refl
same-either false n h = h

module _ (s : List ℕ) (p : ℕ) (ps : List ℕ) (t : Tables) (w : FillState) (ws : List ℕ) (n : ℕ) (r : FillReady s (p ∷ ps) t w ws n) where
  abbrev u : Tables
  u = tables_after (tag_at s p) s p t

  abbrev vs : List ℕ
  vs = words_after s p t w ws

  pub ready : (v : FillState) → Room s ps u v n → FillReady s ps u v vs n
  ready v q = record { room = q; long = omega (arith, length-after s p t w ws) }

  pub after-i : eqb (tag_at s p) 2 ≡ false → eqb (tag_at s p) 3 ≡ true → FillReady s ps u (instr_work w) vs n
  after-i e f = ready (instr_work w) (room-instr s p ps t w n r.room e f)

  pub after-o : eqb (tag_at s p) 2 ≡ false → eqb (tag_at s p) 3 ≡ false → FillReady s ps u w vs n
  after-o e f = ready w (room-other s p ps t w n r.room e f)

  -- the numbers of the chunk at work are words
  numbers_fit : w.numbers + 16 ≤ length ws
  numbers_fit = omega arith

  -- its numbers, when the next chunk begins
  through : (k : ℕ) → k < 16 → eqb (tag_at s p) 2 ≡ true → get_or (words_from s ps u (chunk_work s p t w) vs) (w.numbers + k) 0 ≡ get_or ws (w.numbers + k) 0
  unfolding chunk_work
  through k l e =
      keeps s ps u (chunk_work s p t w) vs n (room-chunk s p ps t w n r.room e) (w.numbers + k) (number (omega arith) (λ q. omega arith) (λ q. omega arith))
      ∙ after-chunk s p t w ws (w.numbers + k) (inl (omega arith)) e (inl (omega arith))

  count_turn : ((v : FillState) → FillReady s ps u v vs n → get_or vs (v.numbers + word_count) 0 ≡ v.instrs → get_or (words_from s ps u v vs) (v.numbers + word_count) 0 ≡ v.instrs + length (code_after s ps))
      → get_or ws (w.numbers + word_count) 0 ≡ w.instrs
      → get_or (words_from s (p ∷ ps) t w ws) (w.numbers + word_count) 0 ≡ w.instrs + length (code_after s (p ∷ ps))
  unfolding words_from code_work code_after instr_work instr_words site_words
  count_turn ih h =
      kinds s p
      (λ e. rw e (through 2 (omega arith) e ∙ h ∙ omega arith))
      (λ e f. rw (e, f)
      (ih (instr_work w) (after-i e f)
      (after-instr s p t w ws (w.numbers + word_count) (inl (omega arith)) e f
      ∙ get_or-set_same (set ws (w.free + row_field) p) (w.numbers + word_count) (w.instrs + 1) 0 (simp length-set (omega (arith, numbers_fit))))
      ∙ omega arith))
      (λ e f g. rw (e, f)
      (ih w (after-o e f)
      (after-site s p t w ws (w.numbers + word_count) (inl (omega arith)) e f g
      ∙ get_or-set_other ws (w.numbers + word_suspends) (w.numbers + word_count) 1 0 (λ q. omega arith)
      ∙ h)))
      (λ e f g. rw (e, f) (ih w (after-o e f) (after-other s p t w ws (w.numbers + word_count) (inl (omega arith)) e f g ∙ h)))

  site-turn : ((v : FillState) → FillReady s ps u v vs n → get_or (words_from s ps u v vs) (v.numbers + word_suspends) 0 ≡ cond (site_in s ps) 1 (get_or vs (v.numbers + word_suspends) 0))
      → get_or (words_from s (p ∷ ps) t w ws) (w.numbers + word_suspends) 0 ≡ cond (site_in s (p ∷ ps)) 1 (get_or ws (w.numbers + word_suspends) 0)
  unfolding words_from code_work site_in instr_work instr_words site_words
  site-turn ih =
      kinds s p
      (λ e. rw e (through 6 (omega arith) e))
      (λ e f. rw (e, f)
      (ih (instr_work w) (after-i e f)
      ∙ ap (cond (site_in s ps) 1)
      (after-instr s p t w ws (w.numbers + word_suspends) (inl (omega arith)) e f
      ∙ get_or-set_other (set ws (w.free + row_field) p) (w.numbers + word_count) (w.numbers + word_suspends) (w.instrs + 1) 0 (λ q. omega arith)
      ∙ get_or-set_other ws (w.free + row_field) (w.numbers + word_suspends) p 0 (λ q. omega arith))))
      (λ e f g. rw (e, f, g)
      (ih w (after-o e f)
      ∙ same-either (site_in s ps) (get_or vs (w.numbers + word_suspends) 0)
      (after-site s p t w ws (w.numbers + word_suspends) (inl (omega arith)) e f g ∙ get_or-set_same ws (w.numbers + word_suspends) 1 0 (omega (arith, numbers_fit)))))
      (λ e f g. rw (e, f, g)
      (ih w (after-o e f) ∙ ap (cond (site_in s ps) 1) (after-other s p t w ws (w.numbers + word_suspends) (inl (omega arith)) e f g)))

  -- the first row, from here on
  first-row : eqb (tag_at s p) 2 ≡ false → eqb (tag_at s p) 3 ≡ true → get_or (words_from s ps u (instr_work w) vs) (w.free + row_field) 0 ≡ p
  unfolding code_after instr_work instr_words tables_after
  first-row e f =
      let z = rw (e, f) at r.room.row in
      let y : row_head ≤ w.size = z (omega arith) in
      let q = rw (e, f) at r.room.words in
      keeps s ps u (instr_work w) vs n (after-i e f).room (w.free + row_field) (row (omega arith) (omega arith))
      ∙ after-instr s p t w ws (w.free + row_field) (inr (omega arith)) e f
      ∙ get_or-set_other (set ws (w.free + row_field) p) (w.numbers + word_count) (w.free + row_field) (w.instrs + 1) 0 (λ d. omega arith)
      ∙ get_or-set_same ws (w.free + row_field) p 0 (omega arith)

  rows-turn : ((v : FillState) → FillReady s ps u v vs n → (i : ℕ) → i < length (code_places s ps) → get_or (words_from s ps u v vs) (v.free + i * v.size + 1) 0 ≡ get_or (code_places s ps) i 0)
      → (i : ℕ) → i < length (code_places s (p ∷ ps)) → get_or (words_from s (p ∷ ps) t w ws) (w.free + i * w.size + 1) 0 ≡ get_or (code_places s (p ∷ ps)) i 0
  unfolding words_from code_work code_places instr_work
  rows-turn ih =
      kinds s p
      (λ e. rw e (λ i h. absurd (omega arith)))
      (λ e f. rw (e, f) (more e f))
      (λ e f g. rw (e, f) (ih w (after-o e f)))
      (λ e f g. rw (e, f) (ih w (after-o e f)))
    where
      more : eqb (tag_at s p) 2 ≡ false → eqb (tag_at s p) 3 ≡ true → (i : ℕ) → i < suc (length (code_places s ps))
          → get_or (words_from s ps u (instr_work w) vs) (w.free + i * w.size + 1) 0 ≡ get_or (p ∷ code_places s ps) i 0
      more e f zero h =
          let q : w.free + zero * w.size + 1 ≡ w.free + row_field = omega arith in
          ap (λ (a : ℕ). get_or (words_from s ps u (instr_work w) vs) a 0) q ∙ first-row e f
      more e f (suc i) h =
          let q : w.free + suc i * w.size + 1 ≡ w.free + w.size + i * w.size + 1 = omega arith in
          ap (λ (a : ℕ). get_or (words_from s ps u (instr_work w) vs) a 0) q ∙ ih (instr_work w) (after-i e f) i (omega arith)

pub count : (s ps : List ℕ) (t : Tables) (w : FillState) (ws : List ℕ) (n : ℕ) → FillReady s ps t w ws n → get_or ws (w.numbers + word_count) 0 ≡ w.instrs
    → get_or (words_from s ps t w ws) (w.numbers + word_count) 0 ≡ w.instrs + length (code_after s ps)
unfolding words_from code_after
count s [] t w ws n r h = h ∙ omega arith
count s (p ∷ ps) t w ws n r h =
    count_turn s p ps t w ws n r (λ v q e. count s ps (tables_after (tag_at s p) s p t) v (words_after s p t w ws) n q e) h

pub site : (s ps : List ℕ) (t : Tables) (w : FillState) (ws : List ℕ) (n : ℕ) → FillReady s ps t w ws n
    → get_or (words_from s ps t w ws) (w.numbers + word_suspends) 0 ≡ cond (site_in s ps) 1 (get_or ws (w.numbers + word_suspends) 0)
unfolding words_from site_in
site s [] t w ws n r = refl
site s (p ∷ ps) t w ws n r = site-turn s p ps t w ws n r (λ v q. site s ps (tables_after (tag_at s p) s p t) v (words_after s p t w ws) n q)

pub rows : (s ps : List ℕ) (t : Tables) (w : FillState) (ws : List ℕ) (n : ℕ) → FillReady s ps t w ws n → (i : ℕ) → i < length (code_places s ps)
    → get_or (words_from s ps t w ws) (w.free + i * w.size + 1) 0 ≡ get_or (code_places s ps) i 0
unfolding words_from code_places
rows s [] t w ws n r = λ i h. absurd (omega arith)
rows s (p ∷ ps) t w ws n r = rows-turn s p ps t w ws n r (λ v q. rows s ps (tables_after (tag_at s p) s p t) v (words_after s p t w ws) n q)
