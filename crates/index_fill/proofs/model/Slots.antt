-- Every slot, when all fields are through: its mark, its initializer, and nothing else.
use Prim.Native.Nat.{ℕ, zero, suc, ◌+◌, ◌-◌, ◌<◌, ◌≤◌}
use mathlib.Core.Path.{◌≡◌, refl, ap, ◌∙◌}
use mathlib.Core.Bool.{Bool, true, false, cond, ◌||◌}
use mathlib.Core.List.{List, [], ◌∷◌, map}
use mathlib.Core.Logic.{inr}
use native.Mathlib.Omega.{arith}
use borrow.Author.Tests.{lt-ltb, ltb-true, ltb-false, le-leb, lt-leb, eqb-true, eqb-false}
use lib.Dec.{eqb, ltb, leb}
use lib.ListN.{length, get_or}
use lib.Seq.{get_or-set_same}
use Rattle.le.specs.Le.{at16}
use Rattle.masks.specs.declared.Mask.{Mask}
use Rattle.description.specs.Fields.{tag_at, of_tag}
use Rattle.definition.specs.Module.{init_of}
use Rattle.definition.specs.Data.{member}
use Rattle.form_laws.specs.Order.{ordered}
use Rattle.layout.specs.declared.Tables.{Tables}
use Rattle.index_fill.specs.declared.model.FillState.{FillState}
use Rattle.index_fill.specs.model.Model.{slot_of, one_more, code_words, code_work, slot_marked, mark_words, init_words, slot_words, tables_after, words_after, words_from}
use Rattle.index_fill.proofs.model.Room.{room_after}
use Rattle.index_fill.proofs.model.Keep.{code-keeps, mark-keeps, init-keeps, keep-after}
use Rattle.index_fill.proofs.model.AtWork.{FillReady, ready, length-code}
use Rattle.index_fill.proofs.model.Orderly.{no_shared, rest-ordered}

-- the slots that have a placement
abbrev pub placed_in : List ℕ → List ℕ → List ℕ
placed_in s ps = map (λ p. at16 s (p + 3)) (of_tag 7 s ps)

-- a word, with the mark if there is a placement
abbrev pub mark_if : Bool → ℕ → ℕ
mark_if b n = cond b (slot_marked n) n

two-marks : (b c : Bool) (n : ℕ) → mark_if c (mark_if b n) ≡ mark_if (b || c) n
two-marks true true n = omega arith
two-marks true false n = refl
two-marks false true n = refl
two-marks false false n = refl

-- the word k - b of the initializers, from the slot b on
abbrev pub init_word : List ℕ → ℕ → ℕ → ℕ → ℕ
init_word ms b k old = cond (leb b k) (get_or ms (k - b) old) old

-- the words of the initializers
abbrev pub inits_in : List ℕ → List ℕ → List ℕ
inits_in s ps = map (λ p. (init_of s p).bits) (of_tag 8 s ps)

one-init : (m : ℕ) (ms : List ℕ) (b k old : ℕ) → init_word ms (suc b) k (cond (eqb k b) m old) ≡ init_word (m ∷ ms) b k old
one-init m ms b k old = go (ltb b k) (eqb k b) refl refl
  where
    go : (x y : Bool) → ltb b k ≡ x → eqb k b ≡ y → cond x (get_or ms (k - suc b) (cond y m old)) (cond y m old) ≡ init_word (m ∷ ms) b k old
    go true true e f = absurd (omega (arith, ltb-true b k e, eqb-true k b f))
    go true false e f =
        let h : k - b ≡ suc (k - suc b) = omega (arith, ltb-true b k e) in
        rw (le-leb b k (omega (arith, ltb-true b k e)), h)
    go false true e f =
        let h : k - b ≡ zero = omega (arith, eqb-true k b f) in
        rw (le-leb b k (omega (arith, eqb-true k b f)), h)
    go false false e f =
        let h : k < b = omega (arith, ltb-false b k e, eqb-false k b f) in
        rw (lt-leb b k h)

module _ (s : List ℕ) (p : ℕ) (ps : List ℕ) (t : Tables) (w : FillState) (ws : List ℕ) (n : ℕ) (r : FillReady s (p ∷ ps) t w ws n) (k : ℕ) (l : k < t.slots) where
  abbrev vs : List ℕ
  vs = code_words (tag_at s p) s p t w ws

  -- the chunks' fields leave the slots
  code-leaves : (a : ℕ) → slot_of t k ≤ a → a < slot_of t k + 16 → get_or vs a 0 ≡ get_or ws a 0
  code-leaves a x y = code-keeps s p ps t w ws n r.room a (λ d. inr (omega arith)) (λ q. omega arith) (λ q. omega arith) (λ q. omega arith)

  slot-fits : slot_of t k + 16 ≤ length vs
  slot-fits = omega (arith, length-code (tag_at s p) s p t w ws)

  -- ---- the mark
  mark-one : (x : ℕ) → get_or (mark_words t x vs) (slot_of t k + 15) 0 ≡ mark_if (eqb x k) (get_or vs (slot_of t k + 15) 0)
  unfolding mark_words
  mark-one x = go (eqb x k) refl
    where
      go : (b : Bool) → eqb x k ≡ b → get_or (mark_words t x vs) (slot_of t k + 15) 0 ≡ mark_if b (get_or vs (slot_of t k + 15) 0)
      go true e = rw (eqb-true x k e, lt-ltb k t.slots l) (get_or-set_same vs (slot_of t k + 15) _ 0 (omega (arith, slot-fits)))
      go false e = mark-keeps t x vs (slot_of t k + 15) (λ d q. eqb-false x k e (omega arith))

  mark-after : get_or (words_after s p t w ws) (slot_of t k + 15) 0 ≡ cond (eqb (tag_at s p) 7) (mark_if (eqb (at16 s (p + 3)) k) (get_or ws (slot_of t k + 15) 0)) (get_or ws (slot_of t k + 15) 0)
  unfolding words_after slot_words
  mark-after = go (eqb (tag_at s p) 7) (eqb (tag_at s p) 8) w.keep
    where
      go : (b c d : Bool) → get_or (cond b (mark_words t (at16 s (p + 3)) vs) (cond c (cond d vs (init_words t (init_of s p) vs)) vs)) (slot_of t k + 15) 0 ≡ cond b (mark_if (eqb (at16 s (p + 3)) k) (get_or ws (slot_of t k + 15) 0)) (get_or ws (slot_of t k + 15) 0)
      go true c d = mark-one (at16 s (p + 3)) ∙ ap (λ (n : ℕ). mark_if (eqb (at16 s (p + 3)) k) n) (code-leaves (slot_of t k + 15) (omega arith) (omega arith))
      go false true true = code-leaves (slot_of t k + 15) (omega arith) (omega arith)
      go false true false = init-keeps t (init_of s p) vs (slot_of t k + 15) (λ d q. omega arith) ∙ code-leaves (slot_of t k + 15) (omega arith) (omega arith)
      go false false d = code-leaves (slot_of t k + 15) (omega arith) (omega arith)

  mark-turn : (word : ℕ) → word ≡ mark_if (member k (placed_in s ps)) (get_or (words_after s p t w ws) (slot_of t k + 15) 0)
      → word ≡ mark_if (member k (placed_in s (p ∷ ps))) (get_or ws (slot_of t k + 15) 0)
  unfolding of_tag member
  mark-turn word h = h ∙ ap (λ (n : ℕ). mark_if (member k (placed_in s ps)) n) mark-after ∙ go (eqb (tag_at s p) 7)
    where
      old : ℕ
      old = get_or ws (slot_of t k + 15) 0

      go : (b : Bool) → mark_if (member k (placed_in s ps)) (cond b (mark_if (eqb (at16 s (p + 3)) k) old) old) ≡ mark_if (member k (map (λ p. at16 s (p + 3)) (cond b (p ∷ of_tag 7 s ps) (of_tag 7 s ps)))) old
      go true = two-marks (eqb (at16 s (p + 3)) k) (member k (placed_in s ps)) old
      go false = refl

  -- ---- the initializer
  init-one : (m : Mask) → get_or (init_words t m vs) (slot_of t k) 0 ≡ cond (eqb k (t.shared + t.inits)) m.bits (get_or vs (slot_of t k) 0)
  unfolding init_words
  init-one m = go (eqb k (t.shared + t.inits)) refl
    where
      go : (b : Bool) → eqb k (t.shared + t.inits) ≡ b → get_or (init_words t m vs) (slot_of t k) 0 ≡ cond b m.bits (get_or vs (slot_of t k) 0)
      go true e =
          rw (← eqb-true k (t.shared + t.inits) e, lt-ltb k t.slots l) (get_or-set_same vs (slot_of t k) m.bits 0 (omega (arith, slot-fits)))
      go false e = init-keeps t m vs (slot_of t k) (λ d q. eqb-false k (t.shared + t.inits) e (omega arith))

  init-after : w.keep ≡ false → get_or (words_after s p t w ws) (slot_of t k) 0 ≡ cond (eqb (tag_at s p) 8) (cond (eqb k (t.shared + t.inits)) (init_of s p).bits (get_or ws (slot_of t k) 0)) (get_or ws (slot_of t k) 0)
  unfolding words_after slot_words
  init-after = go (eqb (tag_at s p) 7) (eqb (tag_at s p) 8) w.keep refl refl
    where
      same : get_or vs (slot_of t k) 0 ≡ get_or ws (slot_of t k) 0
      same = code-leaves (slot_of t k) (omega arith) (omega arith)

      go : (b c d : Bool) → eqb (tag_at s p) 7 ≡ b → eqb (tag_at s p) 8 ≡ c → d ≡ false
          → get_or (cond b (mark_words t (at16 s (p + 3)) vs) (cond c (cond d vs (init_words t (init_of s p) vs)) vs)) (slot_of t k) 0 ≡ cond c (cond (eqb k (t.shared + t.inits)) (init_of s p).bits (get_or ws (slot_of t k) 0)) (get_or ws (slot_of t k) 0)
      go true true d e f g = absurd (omega (arith, eqb-true (tag_at s p) 7 e, eqb-true (tag_at s p) 8 f))
      go true false d e f g = mark-keeps t (at16 s (p + 3)) vs (slot_of t k) (λ d q. omega arith) ∙ same
      go false true d e f g = rw g (init-one (init_of s p) ∙ ap (cond (eqb k (t.shared + t.inits)) (init_of s p).bits) same)
      go false false d e f g = same

  init-turn : (word b last : ℕ) → w.keep ≡ false → ordered s last (p ∷ ps) ≡ true → b ≡ t.shared + length (of_tag 6 s (p ∷ ps)) + t.inits
      → ((c : ℕ) → c ≡ one_more (eqb (tag_at s p) 6) t.shared + length (of_tag 6 s ps) + one_more (eqb (tag_at s p) 8) t.inits → word ≡ init_word (inits_in s ps) c k (get_or (words_after s p t w ws) (slot_of t k) 0))
      → word ≡ init_word (inits_in s (p ∷ ps)) b k (get_or ws (slot_of t k) 0)
  unfolding of_tag
  init-turn word b last fresh o h ih = go (eqb (tag_at s p) 6) (eqb (tag_at s p) 8) refl refl
    where
      old : ℕ
      old = get_or ws (slot_of t k) 0

      go : (x y : Bool) → eqb (tag_at s p) 6 ≡ x → eqb (tag_at s p) 8 ≡ y → word ≡ init_word (inits_in s (p ∷ ps)) b k old
      go true true e f = absurd (omega (arith, eqb-true (tag_at s p) 6 e, eqb-true (tag_at s p) 8 f))
      go true false e f =
          let g = rw e at h in
          let next = rw (e, f) at ih in
          rw f (next b (omega arith) ∙ ap (init_word (inits_in s ps) b k) (rw f at (init-after fresh)))
      go false false e f =
          let g = rw e at h in
          let next = rw (e, f) at ih in
          rw f (next b (omega arith) ∙ ap (init_word (inits_in s ps) b k) (rw f at (init-after fresh)))
      go false true e f =
          let z : of_tag 6 s ps ≡ [] = no_shared s (tag_at s p) ps (omega (arith, eqb-true (tag_at s p) 8 f)) (rest-ordered s last p ps o) in
          let g = rw (e, z) at h in
          let q : b ≡ t.shared + t.inits = omega arith in
          let next = rw (e, f, z) at ih in
          rw f
          (next (suc b) (omega arith)
          ∙ ap (init_word (inits_in s ps) (suc b) k) (rw (f, ← q) at (init-after fresh))
          ∙ one-init (init_of s p).bits (inits_in s ps) b k old)

pub marked : (s ps : List ℕ) (t : Tables) (w : FillState) (ws : List ℕ) (n : ℕ) → FillReady s ps t w ws n → (k : ℕ) → k < t.slots
    → get_or (words_from s ps t w ws) (slot_of t k + 15) 0 ≡ mark_if (member k (placed_in s ps)) (get_or ws (slot_of t k + 15) 0)
unfolding words_from of_tag member tables_after
marked s [] t w ws n r k l = refl
marked s (p ∷ ps) t w ws n r k l =
    let u = tables_after (tag_at s p) s p t in
    let v = code_work (tag_at s p) s p t w in
    mark-turn s p ps t w ws n r k l _
    (marked s ps u v (words_after s p t w ws) n (ready s p ps t w ws n r v (room_after s p ps t w n r.room)) k l)

pub inited : (s ps : List ℕ) (t : Tables) (w : FillState) (ws : List ℕ) (n : ℕ) → FillReady s ps t w ws n → w.keep ≡ false → (last : ℕ) → ordered s last ps ≡ true → (k : ℕ) → k < t.slots
    → (b : ℕ) → b ≡ t.shared + length (of_tag 6 s ps) + t.inits
    → get_or (words_from s ps t w ws) (slot_of t k) 0 ≡ init_word (inits_in s ps) b k (get_or ws (slot_of t k) 0)
unfolding words_from of_tag tables_after
inited s [] t w ws n r fresh last o k l b h = nothing (leb b k) (k - b)
  where
    nothing : (x : Bool) (i : ℕ) → get_or ws (slot_of t k) 0 ≡ cond x (get_or [] i (get_or ws (slot_of t k) 0)) (get_or ws (slot_of t k) 0)
    nothing true zero = refl
    nothing true (suc i) = refl
    nothing false i = refl
inited s (p ∷ ps) t w ws n r fresh last o k l b h =
    let u = tables_after (tag_at s p) s p t in
    let v = code_work (tag_at s p) s p t w in
    init-turn s p ps t w ws n r k l _ b last fresh o h
    (inited s ps u v (words_after s p t w ws) n (ready s p ps t w ws n r v (room_after s p ps t w n r.room)) (keep-after (tag_at s p) s p t w ∙ fresh) (tag_at s p) (rest-ordered s last p ps o) k l)
