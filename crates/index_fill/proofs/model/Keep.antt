-- Which words a field leaves alone, and which all fields from here on.
use Prim.Native.Nat.{ℕ, ◌+◌, ◌*◌, ◌<◌, ◌≤◌}
use mathlib.Core.Path.{◌≡◌, refl, ◌∙◌}
use mathlib.Core.Bool.{Bool, true, false, cond}
use mathlib.Core.List.{List, [], ◌∷◌}
use mathlib.Core.Logic.{◌⊎◌, inl, inr}
use native.Mathlib.Omega.{arith}
use borrow.Author.Tests.{ltb-true}
use lib.Dec.{eqb, ltb}
use lib.ListN.{get_or, set}
use lib.Seq.{get_or-set_other}
use Rattle.le.specs.Le.{at16}
use Rattle.masks.specs.declared.Mask.{Mask}
use Rattle.description.specs.Fields.{tag_at}
use Rattle.words.proofs.Laws.{put_n-out}
use Rattle.definition.specs.Module.{init_of, chunks_from}
use Rattle.layout.specs.declared.Tables.{Tables}
use Rattle.layout.specs.Layout.{numbers_at, row_field, word_count, word_suspends, head_words}
use Rattle.index_fill.specs.declared.model.FillState.{FillState}
use Rattle.index_fill.specs.model.Model.{areas, slot_of, number_words, numbers_of, chunk_words, instr_words, site_words, code_words, code_work, chunk_work, instr_work, slot_marked, mark_words, init_words, slot_words, tables_after, words_after, words_from}
use Rattle.index_fill.proofs.model.Room.{Room, room_after}

-- a choice between words that agree
pub either : (b : Bool) (v w ws : List ℕ) (a : ℕ) → get_or v a 0 ≡ get_or ws a 0 → get_or w a 0 ≡ get_or ws a 0 → get_or (cond b v w) a 0 ≡ get_or ws a 0
either true v w ws a x y = x
either false v w ws a x y = y

-- the same where the test tells
only : (b : Bool) (v ws : List ℕ) (a : ℕ) → (b ≡ true → get_or v a 0 ≡ get_or ws a 0) → get_or (cond b v ws) a 0 ≡ get_or ws a 0
only true v ws a x = x refl
only false v ws a x = refl

-- whether the slots stay is the same at every field
pub keep-after : (tag : ℕ) (s : List ℕ) (p : ℕ) (t : Tables) (w : FillState) → (code_work tag s p t w).keep ≡ w.keep
unfolding code_work chunk_work instr_work
keep-after tag s p t w = go (eqb tag 2) (eqb tag 3)
  where
    go : (b c : Bool) → (cond b (chunk_work s p t w) (cond c (instr_work w) w)).keep ≡ w.keep
    go true c = refl
    go false true = refl
    go false false = refl

-- ---- what the slots' fields leave
pub mark-keeps : (t : Tables) (n : ℕ) (ws : List ℕ) (a : ℕ) → (n < t.slots → a ≡ slot_of t n + 15 → ⊥) → get_or (mark_words t n ws) a 0 ≡ get_or ws a 0
unfolding mark_words
mark-keeps t n ws a h =
    let x = slot_marked (get_or ws (slot_of t n + 15) 0) in
    only (ltb n t.slots) (set ws (slot_of t n + 15) x) ws a
    (λ l. get_or-set_other ws (slot_of t n + 15) a x 0 (h (ltb-true n t.slots l)))

pub init-keeps : (t : Tables) (m : Mask) (ws : List ℕ) (a : ℕ) → (t.shared + t.inits < t.slots → a ≡ slot_of t (t.shared + t.inits) → ⊥)
    → get_or (init_words t m ws) a 0 ≡ get_or ws a 0
unfolding init_words
init-keeps t m ws a h =
    only (ltb (t.shared + t.inits) t.slots) (set ws (slot_of t (t.shared + t.inits)) m.bits) ws a
    (λ l. get_or-set_other ws (slot_of t (t.shared + t.inits)) a m.bits 0 (h (ltb-true (t.shared + t.inits) t.slots l)))

slot-keeps : (tag : ℕ) (s : List ℕ) (p : ℕ) (t : Tables) (keep : Bool) (ws : List ℕ) (a : ℕ)
    → ((k : ℕ) → k < t.slots → a ≡ slot_of t k + 15 → ⊥) → (keep ≡ false → (k : ℕ) → k < t.slots → a ≡ slot_of t k → ⊥)
    → get_or (slot_words tag s p t keep ws) a 0 ≡ get_or ws a 0
unfolding slot_words
slot-keeps tag s p t keep ws a x y =
    either (eqb tag 7) _ _ ws a (mark-keeps t (at16 s (p + 3)) ws a (x (at16 s (p + 3)))) (either (eqb tag 8) _ ws ws a (inits keep y) refl)
  where
    inits : (b : Bool) → (b ≡ false → (k : ℕ) → k < t.slots → a ≡ slot_of t k → ⊥) → get_or (cond b ws (init_words t (init_of s p) ws)) a 0 ≡ get_or ws a 0
    inits true h = refl
    inits false h = init-keeps t (init_of s p) ws a (h refl (t.shared + t.inits))

-- outside the slots only the chunks' fields count
pub outside : (s : List ℕ) (p : ℕ) (t : Tables) (w : FillState) (ws : List ℕ) (a : ℕ) → (a < head_words + 16 * t.chunks) ⊎ (areas t ≤ a)
    → get_or (words_after s p t w ws) a 0 ≡ get_or (code_words (tag_at s p) s p t w ws) a 0
unfolding words_after
outside s p t w ws a (inl h) =
    slot-keeps (tag_at s p) s p t w.keep (code_words (tag_at s p) s p t w ws) a (λ k d e. omega arith) (λ f k d e. omega arith)
outside s p t w ws a (inr h) =
    slot-keeps (tag_at s p) s p t w.keep (code_words (tag_at s p) s p t w ws) a (λ k d e. omega arith) (λ f k d e. omega arith)

-- ---- what the chunks' fields leave
module _ (s : List ℕ) (p : ℕ) (ps : List ℕ) (t : Tables) (w : FillState) (ws : List ℕ) (n : ℕ) (r : Room s (p ∷ ps) t w n) where
  pub due : eqb (tag_at s p) 2 ≡ true → w.seen < t.chunks
  unfolding chunks_from
  due e = let c = rw e at r.chunks in omega arith

  pub code-keeps : (a : ℕ) → (w.seen < t.chunks → (a < numbers_at w.seen) ⊎ (numbers_at w.seen + 10 ≤ a)) → (a ≡ w.free + row_field → ⊥) → (a ≡ w.numbers + word_count → ⊥)
      → (a ≡ w.numbers + word_suspends → ⊥) → get_or (code_words (tag_at s p) s p t w ws) a 0 ≡ get_or ws a 0
  unfolding code_words chunk_words instr_words site_words
  code-keeps a x f i j = go (eqb (tag_at s p) 2) refl
    where
      rest : List ℕ
      rest = cond (eqb (tag_at s p) 3) (set (set ws (w.free + row_field) p) (w.numbers + word_count) (w.instrs + 1)) (cond (eqb (tag_at s p) 4) (set ws (w.numbers + word_suspends) 1) ws)

      go : (b : Bool) → eqb (tag_at s p) 2 ≡ b → get_or (cond b (chunk_words s p t w ws) rest) a 0 ≡ get_or ws a 0
      go true e = put_n-out ws (numbers_at w.seen) (number_words (numbers_of s p t w)) 10 a (x (due e))
      go false e =
          either (eqb (tag_at s p) 3) _ _ ws a
          (get_or-set_other (set ws (w.free + row_field) p) (w.numbers + word_count) a (w.instrs + 1) 0 i ∙ get_or-set_other ws (w.free + row_field) a p 0 f)
          (either (eqb (tag_at s p) 4) _ ws ws a (get_or-set_other ws (w.numbers + word_suspends) a 1 0 j) refl)

-- ---- words that are not written any more: numbers of the chunks seen, the words of a slot but its mark's and, where there are initializers to
-- write, the first, rows before the free word
pub data Kept (t : Tables) (w : FillState) (a : ℕ) : Type 0 where
  number : a < numbers_at w.seen → (a ≡ w.numbers + word_count → ⊥) → (a ≡ w.numbers + word_suspends → ⊥) → Kept t w a
  inner : (k j : ℕ) → k < t.slots → (w.keep ≡ false → 0 < j) → j < 15 → a ≡ slot_of t k + j → Kept t w a
  row : areas t ≤ a → a < w.free → Kept t w a

module _ (s : List ℕ) (p : ℕ) (ps : List ℕ) (t : Tables) (w : FillState) (ws : List ℕ) (n : ℕ) (r : Room s (p ∷ ps) t w n) where
  kept-after : (a : ℕ) → Kept t w a → get_or (words_after s p t w ws) a 0 ≡ get_or ws a 0
  unfolding words_after
  kept-after a (number l i j) =
      outside s p t w ws a (inl (omega arith))
      ∙ code-keeps s p ps t w ws n r a (λ h. inl l) (λ e. omega arith) i j
  kept-after a (inner k j h x y e) =
      slot-keeps (tag_at s p) s p t w.keep (code_words (tag_at s p) s p t w ws) a (λ i d q. omega arith) (λ f i d q. omega (arith, x f))
      ∙ code-keeps s p ps t w ws n r a (λ d. inr (omega arith)) (λ q. omega arith) (λ q. omega arith) (λ q. omega arith)
  kept-after a (row l h) =
      outside s p t w ws a (inr l)
      ∙ code-keeps s p ps t w ws n r a (λ d. inr (omega arith)) (λ q. omega arith) (λ q. omega arith) (λ q. omega arith)

  kept_next : (a : ℕ) → Kept t w a → Kept (tables_after (tag_at s p) s p t) (code_work (tag_at s p) s p t w) a
  unfolding code_work chunk_work instr_work numbers_of tables_after
  kept_next a k = go (eqb (tag_at s p) 2) (eqb (tag_at s p) 3) k
    where
      go : (b c : Bool) → Kept t w a → Kept (tables_after (tag_at s p) s p t) (cond b (chunk_work s p t w) (cond c (instr_work w) w)) a
      go true c (number l i j) = number (omega arith) (λ e. omega arith) (λ e. omega arith)
      go true c (inner k j h x y e) = inner k j h x y e
      go true c (row l h) = row l (omega arith)
      go false true (number l i j) = number l i j
      go false true (inner k j h x y e) = inner k j h x y e
      go false true (row l h) = row l (omega arith)
      go false false (number l i j) = number l i j
      go false false (inner k j h x y e) = inner k j h x y e
      go false false (row l h) = row l h

pub keeps : (s ps : List ℕ) (t : Tables) (w : FillState) (ws : List ℕ) (n : ℕ) → Room s ps t w n → (a : ℕ) → Kept t w a
    → get_or (words_from s ps t w ws) a 0 ≡ get_or ws a 0
unfolding words_from
keeps s [] t w ws n r a k = refl
keeps s (p ∷ ps) t w ws n r a k =
    keeps s ps (tables_after (tag_at s p) s p t) (code_work (tag_at s p) s p t w) (words_after s p t w ws) n (room_after s p ps t w n r) a (kept_next s p ps t w ws n r a k)
    ∙ kept-after s p ps t w ws n r a k
