-- What the order of the fields says: no instruction before the first chunk, no shared slot behind an initializer, a site behind its instruction.
use Prim.Native.Nat.{ℕ, zero, suc, ◌-◌, ◌<◌, ◌≤◌}
use mathlib.Core.Path.{◌≡◌, refl}
use mathlib.Core.Bool.{Bool, true, false, cond, ◌&&◌, ◌||◌}
use mathlib.Core.List.{List, [], ◌∷◌}
use mathlib.Core.Option.{none, some}
use mathlib.Core.Logic.{◌⊎◌, inl, inr}
use native.Mathlib.Omega.{arith}
use borrow.Author.Tests.{ltb-true, ltb-false, leb-true, eqb-true, eqb-false, ne_eqb}
use lib.Dec.{eqb, ltb, leb}
use lib.ListN.{length, get_or, get_or-eq_default}
use Rattle.masks.proofs.Both.{both}
use Rattle.le.specs.Le.{at8}
use Rattle.description.specs.Fields.{tag_at, next_at, fields_f, fields_from, of_tag, yielded_of, reply_of}
use Rattle.description.specs.Fields.{has_site as site_follows}
use Rattle.description.proofs.Walk.{next-after}
use Rattle.definition.specs.Module.{line_of, site_of, code_after, chunk_from, chunks_from}
use Rattle.definition.specs.Start.{is_site, has_site}
use Rattle.form_laws.specs.Good.{no_chunk}
use Rattle.form_laws.specs.Order.{follows, ordered}
use Rattle.index_fill.proofs.model.AtWork.{site_in, kinds}
use Rattle.index_fill.proofs.model.Chunks.{site_marks}

-- ---- the fields from q on, each the next of the one before
pub data Linked (s : List ℕ) : ℕ → List ℕ → Type 0 where
  end : {q : ℕ} → length s ≤ q → Linked s q []
  more : {p : ℕ} {ps : List ℕ} → Linked s (next_at s p) ps → Linked s p (p ∷ ps)

linked-f : (f : ℕ) (s : List ℕ) (q : ℕ) → length s - q ≤ f → Linked s q (fields_f f s q)
unfolding fields_f
linked-f zero s q h = end {q = q} (omega arith)
linked-f (suc f) s q h = go (ltb q (length s)) refl (λ l. linked-f f s (next_at s q) l)
  where
    go : (b : Bool) → ltb q (length s) ≡ b → (length s - next_at s q ≤ f → Linked s (next_at s q) (fields_f f s (next_at s q)))
        → Linked s q (cond b (q ∷ fields_f f s (next_at s q)) [])
    go true e ih = more (ih (omega (arith, next-after s q, ltb-true q (length s) e)))
    go false e ih = end (ltb-false q (length s) e)

pub linked : (s : List ℕ) (q : ℕ) → Linked s q (fields_from s q)
unfolding fields_from
linked s q = linked-f (length s - q) s q (omega arith)

-- ---- the order
no-and : (b : Bool) → b && false ≡ false
no-and true = refl
no-and false = refl

first-follows : (s : List ℕ) (last p : ℕ) (ps : List ℕ) → ordered s last (p ∷ ps) ≡ true → follows last (tag_at s p) ≡ true
unfolding ordered
first-follows s last p ps h = (both (follows last (tag_at s p)) (ordered s (tag_at s p) ps) h).0

pub rest-ordered : (s : List ℕ) (last p : ℕ) (ps : List ℕ) → ordered s last (p ∷ ps) ≡ true → ordered s (tag_at s p) ps ≡ true
unfolding ordered
rest-ordered s last p ps h = (both (follows last (tag_at s p)) (ordered s (tag_at s p) ps) h).1

follows-instr : (last : ℕ) → follows last 3 ≡ true → (1 < last) × (last < 5)
unfolding follows
follows-instr last h =
    let x = both (ltb 1 last) (ltb last 5) h in
    (ltb-true 1 last x.0, ltb-true last 5 x.1)

follows-site : (last : ℕ) → follows last 4 ≡ true → last ≡ 3
unfolding follows
follows-site last h = eqb-true last 3 h

-- behind the chunks the tags rise
follows-late : (last tag : ℕ) → 5 ≤ last → follows last tag ≡ true → last ≤ tag
unfolding follows
follows-late last tag l h = go (eqb tag 1) (eqb tag 2) (eqb tag 3) (eqb tag 4) h
  where
    rise : Bool
    rise = ltb 0 last && leb last tag && ltb tag 9

    go : (a b c d : Bool)
        → cond a (eqb last 0) (cond b (ltb 0 last && ltb last 5) (cond c (ltb 1 last && ltb last 5) (cond d (eqb last 3) rise))) ≡ true → last ≤ tag
    go true b c d e = absurd (omega (arith, eqb-true last 0 e))
    go false true c d e = absurd (omega (arith, ltb-true last 5 (both (ltb 0 last) (ltb last 5) e).1))
    go false false true d e = absurd (omega (arith, ltb-true last 5 (both (ltb 1 last) (ltb last 5) e).1))
    go false false false true e = absurd (omega (arith, eqb-true last 3 e))
    go false false false false e =
        leb-true last tag (both (ltb 0 last) (leb last tag) (both (ltb 0 last && leb last tag) (ltb tag 9) e).0).1

-- no instruction before a chunk
pub no_code : (s : List ℕ) (last : ℕ) (ps : List ℕ) → (last < 2) ⊎ (4 < last) → ordered s last ps ≡ true → code_after s ps ≡ []
unfolding code_after
no_code s last [] h o = refl
no_code s last (p ∷ ps) h o =
    kinds s p
    (λ e. rw e)
    (λ e f. absurd (early h (rw (eqb-true (tag_at s p) 3 f) at (first-follows s last p ps o))))
    (λ e f g. absurd (alone h (rw (eqb-true (tag_at s p) 4 g) at (first-follows s last p ps o))))
    (λ e f g. rw (e, f) (no_code s (tag_at s p) ps (late (tag_at s p) (eqb-false (tag_at s p) 2 e) (eqb-false (tag_at s p) 3 f) (eqb-false (tag_at s p) 4 g)) (rest-ordered s last p ps o)))
  where
    early : (last < 2) ⊎ (4 < last) → follows last 3 ≡ true → ⊥
    early (inl h) q = omega (arith, follows-instr last q)
    early (inr h) q = omega (arith, follows-instr last q)

    alone : (last < 2) ⊎ (4 < last) → follows last 4 ≡ true → ⊥
    alone (inl h) q = omega (arith, follows-site last q)
    alone (inr h) q = omega (arith, follows-site last q)

    late : (tag : ℕ) → (tag ≡ 2 → ⊥) → (tag ≡ 3 → ⊥) → (tag ≡ 4 → ⊥) → (tag < 2) ⊎ (4 < tag)
    late tag a b c = go (ltb tag 2) refl
      where
        go : (x : Bool) → ltb tag 2 ≡ x → (tag < 2) ⊎ (4 < tag)
        go true e = inl (ltb-true tag 2 e)
        go false e = inr (omega (arith, ltb-false tag 2 e))

-- no shared slot behind an initializer or a placement
pub no_shared : (s : List ℕ) (last : ℕ) (ps : List ℕ) → 6 < last → ordered s last ps ≡ true → of_tag 6 s ps ≡ []
unfolding of_tag
no_shared s last [] h o = refl
no_shared s last (p ∷ ps) h o =
    let l : last ≤ tag_at s p = follows-late last (tag_at s p) (omega arith) (first-follows s last p ps o) in
    rw (ne_eqb (tag_at s p) 6 (λ q. omega arith)) (no_shared s (tag_at s p) ps (omega arith) (rest-ordered s last p ps o))

-- ---- a site stands behind its instruction
site-is : (s : List ℕ) (p : ℕ) → is_site (line_of s p).site ≡ eqb (tag_at s (next_at s p)) 4
unfolding is_site line_of site_of site_follows
site-is s p = go (eqb (tag_at s (next_at s p)) 4)
  where
    go : (b : Bool) → is_site (cond b (some (record { yielded = yielded_of s p; reply = reply_of s p })) none) ≡ b
    go true = refl
    go false = refl

tag-behind : (s : List ℕ) (q : ℕ) → length s ≤ q → tag_at s q ≡ 0
unfolding tag_at at8
tag-behind s q h = get_or-eq_default s 0 h

pub site-in : (s : List ℕ) (last q : ℕ) (ps : List ℕ) → Linked s q ps → ordered s last ps ≡ true
    → site_in s ps ≡ (eqb last 3 && eqb (tag_at s q) 4) || has_site (code_after s ps)
unfolding site_in code_after has_site
site-in s last q [] (end h) o = rw (tag-behind s q h, no-and)
site-in s last q (p ∷ ps) (more l) o =
    let ih = site-in s (tag_at s p) (next_at s p) ps l (rest-ordered s last p ps o) in
    kinds s p
    (λ e. rw (e, ne_eqb (tag_at s p) 4 (λ d. omega (arith, eqb-true (tag_at s p) 2 e)), no-and))
    (λ e f. rw (e, f, ne_eqb (tag_at s p) 4 (λ d. omega (arith, eqb-true (tag_at s p) 3 f)), no-and, site-is s p) (rw f at ih))
    (λ e f g. rw (e, f, g, follows-site last (rw (eqb-true (tag_at s p) 4 g) at (first-follows s last p ps o))))
    (λ e f g. rw (e, f, g, no-and) (rw f at ih))

-- so a chunk has one if one of its instructions has
pub marks-hold : (s : List ℕ) (last q : ℕ) (ps : List ℕ) → Linked s q ps → ordered s last ps ≡ true → (signatures j k : ℕ)
    → get_or (site_marks s ps) k false ≡ has_site (get_or (chunks_from s signatures j ps) k no_chunk).code
unfolding site_marks chunks_from chunk_from has_site no_chunk
marks-hold s last q [] (end h) o signatures j zero = refl
marks-hold s last q [] (end h) o signatures j (suc k) = refl
marks-hold s last q (p ∷ ps) (more l) o signatures j k = go (eqb (tag_at s p) 2) refl (marks-hold s (tag_at s p) (next_at s p) ps l (rest-ordered s last p ps o) signatures) k
  where
    go : (b : Bool) → eqb (tag_at s p) 2 ≡ b
        → ((j k : ℕ) → get_or (site_marks s ps) k false ≡ has_site (get_or (chunks_from s signatures j ps) k no_chunk).code)
        → (k : ℕ)
        → get_or (cond b (site_in s ps ∷ site_marks s ps) (site_marks s ps)) k false
        ≡ has_site (get_or (cond b (chunk_from s j p (ltb j signatures) (code_after s ps) ∷ chunks_from s signatures (suc j) ps) (chunks_from s signatures j ps)) k no_chunk).code
    go true e ih zero =
        rw (ne_eqb (tag_at s p) 3 (λ d. omega (arith, eqb-true (tag_at s p) 2 e))) at (site-in s (tag_at s p) (next_at s p) ps l (rest-ordered s last p ps o))
    go true e ih (suc k) = ih (suc j) k
    go false e ih k = ih j k
