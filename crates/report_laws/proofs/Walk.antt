-- The fields of bytes that are fields one after another.
use Prim.Native.Nat.{ℕ, ◌+◌, ◌≤◌}
use native.Mathlib.Omega.{arith}
use mathlib.Core.Path.{◌≡◌, refl, sym, ◌∙◌, ap, ap₂}
use mathlib.Core.Bool.{Bool, true, false, cond}
use mathlib.Core.List.{List, [], ◌∷◌, ◌++◌, map, append_assoc}
use lib.Dec.{eqb}
use lib.ListN.{length, length-append}
use borrow.Author.Tests.{eq-eqb, ne_eqb}
use Rattle.le.specs.Le.{at16, le16}
use Rattle.description.specs.Fields.{tag_at, len_at, next_at, fields_from, of_tag}
use Rattle.definition.specs.Report.{field, each}
use Rattle.report_laws.proofs.Has.{Has, has_left, has_right, has-head, has-tail, has-at, read16, long16}
use Rattle.machine_laws.proofs.All.{All, nil, cons}
use Rattle.description.proofs.Walk.{fields-turn}

pub tags-append : (t : ℕ) (s ps qs : List ℕ) → of_tag t s (ps ++ qs) ≡ of_tag t s ps ++ of_tag t s qs
unfolding of_tag
tags-append t s [] qs = refl
tags-append t s (p ∷ ps) qs = go (eqb (tag_at s p) t) (tags-append t s ps qs)
  where
    go : (b : Bool) → of_tag t s (ps ++ qs) ≡ of_tag t s ps ++ of_tag t s qs
        → cond b (p ∷ of_tag t s (ps ++ qs)) (of_tag t s (ps ++ qs)) ≡ cond b (p ∷ of_tag t s ps) (of_tag t s ps) ++ of_tag t s qs
    go true e = ap (λ l. p ∷ l) e
    go false e = e

pub each_append : {A : Type 0} (f : A → List ℕ) (xs ys : List A) → each f (xs ++ ys) ≡ each f xs ++ each f ys
unfolding each
each_append f [] ys = refl
each_append f (x ∷ xs) ys = ap (λ (l : List ℕ). f x ++ l) (each_append f xs ys) ∙ sym (append_assoc (f x) (each f xs) (each f ys))

-- ---- a field that stands at a place
field-read : {s : List ℕ} {p : ℕ} (tag : ℕ) (c : List ℕ) → Has s p (field tag c)
    → (tag_at s p ≡ tag) × (len_at s p ≡ length c) × (next_at s p ≡ p + 3 + length c) × Has s (p + 3) c
unfolding field tag_at len_at next_at
field-read {s} {p} tag c h =
    let l = read16 (length c) (has_left (le16 (length c)) c (has-tail h)) in (
      has-head h,
      l,
      rw l refl,
      has-at (p + 3) (omega arith) (has_right 2 (le16 (length c)) c (long16 (length c)) (has-tail h)),
    )

pub field-long : (tag : ℕ) (c : List ℕ) → length (field tag c) ≡ 3 + length c
unfolding field
field-long tag c = omega (arith, length-append (le16 (length c)) c, long16 (length c))

pub contents-at : {s : List ℕ} {p : ℕ} (tag : ℕ) (c : List ℕ) → Has s p (field tag c) → Has s (p + 3) c
contents-at tag c h = (field-read tag c h).3

pub tag-at : {s : List ℕ} {p : ℕ} (tag : ℕ) (c : List ℕ) → Has s p (field tag c) → tag_at s p ≡ tag
tag-at tag c h = (field-read tag c h).0

pub next-at : {s : List ℕ} {p : ℕ} (tag : ℕ) (c : List ℕ) → Has s p (field tag c) → next_at s p ≡ p + 3 + length c
next-at tag c h = (field-read tag c h).2

pub length_at : {s : List ℕ} {p : ℕ} (tag : ℕ) (c : List ℕ) → Has s p (field tag c) → at16 s (p + 1) ≡ length c
unfolding len_at
length_at tag c h = (field-read tag c h).1

-- ---- fields of one tag, one after another
module _ {A : Type 0} (tag : ℕ) (contents : A → List ℕ) where
  abbrev pub group : List A → List ℕ
  group xs = each (λ x. field tag (contents x)) xs

  unfoldable pub places : ℕ → List A → List ℕ
  places p [] = []
  places p (x ∷ xs) = p ∷ places (p + (3 + length (contents x))) xs

  pub group-walk : {s : List ℕ} {p : ℕ} (xs : List A) → Has s p (group xs) → p + length (group xs) ≤ length s
      → fields_from s p ≡ places p xs ++ fields_from s (p + length (group xs))
  unfolding each places
  group-walk {s} {p} [] h l = let e : p + 0 ≡ p = omega arith in rw e
  group-walk {s} {p} (x ∷ xs) h l =
      let n = field-long tag (contents x) in
      let m = length-append (field tag (contents x)) (group xs) in
      let r = field-read tag (contents x) (has_left (field tag (contents x)) (group xs) h) in
      let t : next_at s p ≡ p + (3 + length (contents x)) = r.2 ∙ omega arith in
      let h' : Has s (p + (3 + length (contents x))) (group xs) = has_right (3 + length (contents x)) (field tag (contents x)) (group xs) n h in
      let e : p + (3 + length (contents x)) + length (group xs) ≡ p + length (field tag (contents x) ++ group xs) = omega arith in
      fields-turn s p (omega arith)
      ∙ ap (λ q. p ∷ fields_from s q) t
      ∙ ap (λ ps. p ∷ ps) (group-walk {p = p + (3 + length (contents x))} xs h' (omega arith))
      ∙ ap (λ q. p ∷ (places (p + (3 + length (contents x))) xs ++ fields_from s q)) e

  -- they have this tag
  pub group-own : {s : List ℕ} {p : ℕ} (xs : List A) → Has s p (group xs) → of_tag tag s (places p xs) ≡ places p xs
  unfolding each places of_tag
  group-own [] h = refl
  group-own {s} {p} (x ∷ xs) h =
      let r = field-read tag (contents x) (has_left (field tag (contents x)) (group xs) h) in
      let h' = has_right (3 + length (contents x)) (field tag (contents x)) (group xs) (field-long tag (contents x)) h in
      rw (eq-eqb (tag_at s p) tag r.0) (ap (λ ps. p ∷ ps) (group-own {p = p + (3 + length (contents x))} xs h'))

  -- and no other
  pub group-other : {s : List ℕ} {p : ℕ} (t : ℕ) (xs : List A) → (tag ≡ t → ⊥) → Has s p (group xs) → of_tag t s (places p xs) ≡ []
  unfolding each places of_tag
  group-other t [] ne h = refl
  group-other {s} {p} t (x ∷ xs) ne h =
      let r = field-read tag (contents x) (has_left (field tag (contents x)) (group xs) h) in
      let h' = has_right (3 + length (contents x)) (field tag (contents x)) (group xs) (field-long tag (contents x)) h in
      rw (ne_eqb (tag_at s p) t (λ e. ne (sym r.0 ∙ e))) (group-other {p = p + (3 + length (contents x))} t xs ne h')

  -- what is read at their places
  pub group-read : {s : List ℕ} (Ok : A → Type 0) (read : ℕ → A) → ((q : ℕ) (x : A) → Ok x → Has s q (field tag (contents x)) → read q ≡ x)
      → {p : ℕ} {xs : List A} → All Ok xs → Has s p (group xs) → map read (places p xs) ≡ xs
  unfolding each places
  group-read Ok read ok nil h = refl
  group-read {s} Ok read ok {p} (cons {x = x} {xs = xs} o os) h =
      ap₂ (λ a b. a ∷ b) (ok p x o (has_left (field tag (contents x)) (group xs) h))
      (group-read Ok read ok {p = p + (3 + length (contents x))} os (has_right (3 + length (contents x)) (field tag (contents x)) (group xs) (field-long tag (contents x)) h))
