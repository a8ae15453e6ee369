-- The fields of a description of good form, one behind another, each with what the scan saw there.
use Prim.Native.Nat.{ℕ, zero, suc, ◌+◌, ◌-◌, ◌<◌, ◌≤◌}
use native.Mathlib.Omega.{arith}
use mathlib.Core.Path.{◌≡◌, refl}
use mathlib.Core.Bool.{Bool, true, false, cond, ◌&&◌, ◌||◌}
use mathlib.Core.List.{List, [], ◌∷◌}
use lib.Dec.{eqb, ltb, leb}
use lib.ListN.{length}
use borrow.Author.Tests.{eqb-true, ltb-true, ltb-false, leb-true}
use Rattle.std.proofs.Common.{Result, Ok, Err}
use Rattle.masks.proofs.Both.{both, never}
use Rattle.answers.specs.declared.Refusal.{Refusal}
use Rattle.description.specs.Fields.{tag_at, len_at, next_at, fields_f, fields_from, header_of, chunk_of, instr_of}
use Rattle.definition.specs.declared.Scan.{Scan}
use Rattle.definition.specs.Module.{signed_params}
use Rattle.answers.specs.Answers.{nowhere, in_field}
use Rattle.definition.specs.Form.{header_fault, chunk_fault, instr_fault, site_fault, table_fault, or_stop, past_header, header_step, past_chunk, chunk_step, past_instr, instr_step, site_step, so_far, placed, table_step, field_step, finished, on_step, scan_from, unscanned, form_of}
use Rattle.form_laws.proofs.Faults.{HeaderFine, header-fine, ChunkFine, chunk-fine, InstrFine, instr-fine, site-due, table_len, table_most, table-fine}

abbrev pub params_then : List ℕ → ℕ → Scan → ℕ
params_then s p t = signed_params s p (ltb t.seen t.signatures)

-- ---- what the scan saw at a field
pub record AtChunk (s : List ℕ) (p : ℕ) (t : Scan) : Type 0 where
  pub tag : tag_at s p ≡ 2
  pub fits : next_at s p ≤ length s
  pub past : 0 < t.place
  pub early : t.place < 5
  pub due : t.seen < t.chunks
  pub fine : ChunkFine (len_at s p) (params_then s p t) (chunk_of s p)

pub record AtInstr (s : List ℕ) (p : ℕ) (t : Scan) : Type 0 where
  pub tag : tag_at s p ≡ 3
  pub fits : next_at s p ≤ length s
  pub past : 1 < t.place
  pub early : t.place < 5
  pub fine : InstrFine (len_at s p) (instr_of s p) t

-- a site or a field of a table, of tag k; c of the tag then
pub record AtOther (s : List ℕ) (p k c : ℕ) (t : Scan) : Type 0 where
  pub tag : tag_at s p ≡ k
  pub fits : next_at s p ≤ length s
  pub past : 4 ≤ k
  pub known : k < 9
  pub later : 0 < t.place
  pub order : t.place ≤ k
  pub site : k ≡ 4 → t.place ≡ 3
  pub len : 4 < k → len_at s p ≡ table_len k
  pub count : 4 < k → c ≤ table_most k
  pub counted : 4 < k → c ≡ so_far t k + 1

-- from the field at p on; w in the end
pub data Walk (s : List ℕ) (w : ℕ) : ℕ → List ℕ → Scan → Type 0 where
  end : {p : ℕ} {t : Scan} → finished s t ≡ Ok w → Walk s w p [] t
  chunk : {p : ℕ} {ps : List ℕ} {t : Scan} → AtChunk s p t → Walk s w (next_at s p) ps (past_chunk (chunk_of s p) (params_then s p t) t) → Walk s w p (p ∷ ps) t
  instr : {p : ℕ} {ps : List ℕ} {t : Scan} → AtInstr s p t → Walk s w (next_at s p) ps (past_instr t) → Walk s w p (p ∷ ps) t
  other : {p : ℕ} {ps : List ℕ} {t : Scan} (k c : ℕ) → AtOther s p k c t → Walk s w (next_at s p) ps (placed k c t) → Walk s w p (p ∷ ps) t

-- ---- from the scan to the walk
-- a step without fault goes on
went : {C : Type 0} (n : ℕ) (r : Refusal) (u : Scan) (k : Scan → Result ℕ Refusal) (w : ℕ) → on_step (or_stop n r u) k ≡ Ok w → (n ≡ 0 → k u ≡ Ok w → C) → C
unfolding on_step
went {C} n r u k w h f = go (eqb n 0) refl h
  where
    go : (b : Bool) → eqb n 0 ≡ b → on_step (cond b (Ok u) (Err r)) k ≡ Ok w → C
    go true e h = f (eqb-true n 0 e) h
    go false e h = never (cc)

module _ (s : List ℕ) (w p : ℕ) (ps : List ℕ) (t : Scan) (l : 0 < t.place) (fits : next_at s p ≤ length s)
    (below : (u : Scan) → 0 < u.place → scan_from s ps u ≡ Ok w → Walk s w (next_at s p) ps u) where
  abbrev Then : Result Scan Refusal → Type 0
  Then f = on_step f (λ u. scan_from s ps u) ≡ Ok w

  no_header : Then (header_step s p t) → Walk s w p (p ∷ ps) t
  unfolding header_step
  no_header h =
      let n = header_fault (eqb t.place 0) (len_at s p) (header_of s p) in
      went n (nowhere n 0) _ _ w h λ e k.
      absurd (omega (arith, eqb-true t.place 0 (header-fine (eqb t.place 0) (len_at s p) (header_of s p) e).0))

  at-chunk : tag_at s p ≡ 2 → Then (chunk_step s p t) → Walk s w p (p ∷ ps) t
  unfolding chunk_step
  at-chunk tag h =
      let signed = ltb t.seen t.signatures in
      let a = ltb 0 t.place && ltb t.place 5 in
      let due = a && ltb t.seen t.chunks in
      let n = chunk_fault s p due (len_at s p) signed (chunk_of s p) in
      went n (in_field n t.seen 65535) (past_chunk (chunk_of s p) (params_then s p t) t) (λ u. scan_from s ps u) w h λ e k.
      let (d, fine) = chunk-fine s p due (len_at s p) signed (chunk_of s p) e in
      let (x, y) = both a _ d in
      let early = ltb-true t.place 5 (both (ltb 0 t.place) _ x).1 in
      chunk (record { tag = tag; fits = fits; past = l; early = early; due = ltb-true t.seen t.chunks y; fine = fine })
      (below (past_chunk (chunk_of s p) (params_then s p t) t) (omega arith) k)

  at-instr : tag_at s p ≡ 3 → Then (instr_step s p t) → Walk s w p (p ∷ ps) t
  unfolding instr_step
  at-instr tag h =
      let due = ltb 1 t.place && ltb t.place 5 in
      let n = instr_fault due (len_at s p) (instr_of s p) t in
      went n (in_field n (t.seen - 1) t.instrs) (past_instr t) (λ u. scan_from s ps u) w h λ e k.
      let (d, fine) = instr-fine due (len_at s p) (instr_of s p) t e in
      let (x, y) = both (ltb 1 t.place) _ d in
      instr (record { tag = tag; fits = fits; past = ltb-true 1 t.place x; early = ltb-true t.place 5 y; fine = fine })
      (below (past_instr t) (omega arith) k)

  at-site : tag_at s p ≡ 4 → Then (site_step s p t) → Walk s w p (p ∷ ps) t
  unfolding site_step
  at-site tag h =
      let n = site_fault s p (eqb t.place 3) (len_at s p) in
      went n (nowhere n 0) (placed 4 t.count t) (λ u. scan_from s ps u) w h λ e k.
      let d = eqb-true t.place 3 (site-due s p (eqb t.place 3) (len_at s p) e) in
      other 4 t.count
      (record {
        tag = tag;
        fits = fits;
        past = omega arith;
        known = omega arith;
        later = l;
        order = omega arith;
        site = λ q. d;
        len = λ q. absurd (omega arith);
        count = λ q. absurd (omega arith);
        counted = λ q. absurd (omega arith);
      })
      (below (placed 4 t.count t) (omega arith) k)

  at_table : (k : ℕ) → tag_at s p ≡ k → 4 < k → k < 9 → Then (table_step s p k t) → Walk s w p (p ∷ ps) t
  unfolding table_step
  at_table k tag past known h =
      let a = ltb 0 t.place && leb t.place k in
      let due = a && (eqb k 5 || eqb t.layout 1) in
      let n = table_fault s p k due (len_at s p) (so_far t k) in
      let c = so_far t k + 1 in
      went n (nowhere n 0) (placed k c t) (λ u. scan_from s ps u) w h λ e g.
      let (d, fine) = table-fine s p k due (len_at s p) (so_far t k) e in
      let order = leb-true t.place k (both (ltb 0 t.place) _ (both a _ d).0).1 in
      other k c
      (record {
        tag = tag;
        fits = fits;
        past = omega arith;
        known = known;
        later = l;
        order = order;
        site = λ q. absurd (omega arith);
        len = λ q. fine.len;
        count = λ q. omega (arith, fine.count);
        counted = λ q. refl;
      })
      (below (placed k c t) (omega arith) g)

step-walk : (s : List ℕ) (w p : ℕ) (ps : List ℕ) (t : Scan) → 0 < t.place
    → ((u : Scan) → 0 < u.place → scan_from s ps u ≡ Ok w → Walk s w (next_at s p) ps u)
    → on_step (field_step s p t) (λ u. scan_from s ps u) ≡ Ok w → Walk s w p (p ∷ ps) t
unfolding field_step on_step
step-walk s w p ps t l below h =
    let k = tag_at s p in
    go (ltb (length s) (next_at s p)) (eqb k 1) (eqb k 2) (eqb k 3) (eqb k 4) (ltb 4 k && ltb k 9) refl refl refl refl refl h
  where
    go : (a b c d e f : Bool) → ltb (length s) (next_at s p) ≡ a → eqb (tag_at s p) 2 ≡ c → eqb (tag_at s p) 3 ≡ d → eqb (tag_at s p) 4 ≡ e
        → (ltb 4 (tag_at s p) && ltb (tag_at s p) 9) ≡ f
        → on_step
        (cond a (Err (nowhere 1 0))
        (cond b (header_step s p t)
        (cond c (chunk_step s p t)
        (cond d (instr_step s p t)
        (cond e (site_step s p t)
        (cond f (table_step s p (tag_at s p) t) (Err (nowhere 1 0)))))))) (λ u. scan_from s ps u) ≡ Ok w → Walk s w p (p ∷ ps) t
    go true b c d e f q x y z o h = never (cc)
    go false true c d e f q x y z o h = no_header s w p ps t l (ltb-false _ _ q) below h
    go false false true d e f q x y z o h = at-chunk s w p ps t l (ltb-false _ _ q) below (eqb-true _ 2 x) h
    go false false false true e f q x y z o h = at-instr s w p ps t l (ltb-false _ _ q) below (eqb-true _ 3 y) h
    go false false false false true f q x y z o h = at-site s w p ps t l (ltb-false _ _ q) below (eqb-true _ 4 z) h
    go false false false false false true q x y z o h =
        let (x, y) = both (ltb 4 (tag_at s p)) _ o in
        at_table s w p ps t l (ltb-false _ _ q) below (tag_at s p) refl (ltb-true 4 (tag_at s p) x) (ltb-true (tag_at s p) 9 y) h
    go false false false false false false q x y z o h = never (cc)

walk : (s : List ℕ) (w f p : ℕ) (t : Scan) → 0 < t.place → scan_from s (fields_f f s p) t ≡ Ok w → Walk s w p (fields_f f s p) t
unfolding fields_f scan_from
walk s w zero p t l h = end h
walk s w (suc f) p t l h = go (ltb p (length s)) h (walk s w f (next_at s p))
  where
    go : (b : Bool) → scan_from s (cond b (p ∷ fields_f f s (next_at s p)) []) t ≡ Ok w
        → ((u : Scan) → 0 < u.place → scan_from s (fields_f f s (next_at s p)) u ≡ Ok w → Walk s w (next_at s p) (fields_f f s (next_at s p)) u)
        → Walk s w p (cond b (p ∷ fields_f f s (next_at s p)) []) t
    go true h below = step-walk s w p (fields_f f s (next_at s p)) t l below h
    go false h below = end h

-- ---- the header stands first
pub record Starts (s : List ℕ) (w : ℕ) : Type 0 where
  pub long : length s ≤ 1048576
  pub some_bytes : 0 < length s
  pub tag : tag_at s 0 ≡ 1
  pub fits : next_at s 0 ≤ length s
  pub fine : HeaderFine (len_at s 0) (header_of s 0)
  pub rest : List ℕ
  pub fields : fields_from s 0 ≡ 0 ∷ rest
  pub walk : Walk s w (next_at s 0) rest (past_header (header_of s 0))

module _ {C : Type 0} (s : List ℕ) (w : ℕ) (k : Scan → Result ℕ Refusal) where
  no_chunk : on_step (chunk_step s 0 unscanned) k ≡ Ok w → C
  unfolding chunk_step
  no_chunk h =
      let n = chunk_fault s 0 false (len_at s 0) false (chunk_of s 0) in
      went n (in_field n 0 65535) _ k w h λ e q. never (chunk-fine s 0 false (len_at s 0) false (chunk_of s 0) e).0

  no-instr : on_step (instr_step s 0 unscanned) k ≡ Ok w → C
  unfolding instr_step
  no-instr h =
      let n = instr_fault false (len_at s 0) (instr_of s 0) unscanned in
      went n (in_field n 0 0) _ k w h λ e q. never (instr-fine false (len_at s 0) (instr_of s 0) unscanned e).0

  no-site : on_step (site_step s 0 unscanned) k ≡ Ok w → C
  unfolding site_step
  no-site h = let n = site_fault s 0 false (len_at s 0) in went n (nowhere n 0) _ k w h λ e q. never (site-due s 0 false (len_at s 0) e)

  no_table : (tag : ℕ) → on_step (table_step s 0 tag unscanned) k ≡ Ok w → C
  unfolding table_step
  no_table tag h =
      let n = table_fault s 0 tag false (len_at s 0) (so_far unscanned tag) in
      went n (nowhere n 0) _ k w h λ e q. never (table-fine s 0 tag false (len_at s 0) (so_far unscanned tag) e).0

  first_step : on_step (field_step s 0 unscanned) k ≡ Ok w
      → (tag_at s 0 ≡ 1 → next_at s 0 ≤ length s → HeaderFine (len_at s 0) (header_of s 0) → k (past_header (header_of s 0)) ≡ Ok w → C) → C
  unfolding field_step on_step header_step
  first_step h f =
      let t = tag_at s 0 in
      go (ltb (length s) (next_at s 0)) (eqb t 1) (eqb t 2) (eqb t 3) (eqb t 4) (ltb 4 t && ltb t 9) refl refl h
    where
      header : ltb (length s) (next_at s 0) ≡ false → eqb (tag_at s 0) 1 ≡ true → on_step (header_step s 0 unscanned) k ≡ Ok w → C
      header q x h =
          let n = header_fault true (len_at s 0) (header_of s 0) in
          went n (nowhere n 0) (past_header (header_of s 0)) k w h λ e g.
          f (eqb-true (tag_at s 0) 1 x) (ltb-false _ _ q) (header-fine true (len_at s 0) (header_of s 0) e).1 g

      go : (a b c d e f : Bool) → ltb (length s) (next_at s 0) ≡ a → eqb (tag_at s 0) 1 ≡ b
          → on_step
          (cond a (Err (nowhere 1 0))
          (cond b (header_step s 0 unscanned)
          (cond c (chunk_step s 0 unscanned)
          (cond d (instr_step s 0 unscanned)
          (cond e (site_step s 0 unscanned)
          (cond f (table_step s 0 (tag_at s 0) unscanned) (Err (nowhere 1 0)))))))) k ≡ Ok w → C
      go true b c d e f q x h = never (cc)
      go false true c d e f q x h = header q x h
      go false false true d e f q x h = no_chunk h
      go false false false true e f q x h = no-instr h
      go false false false false true f q x h = no-site h
      go false false false false false true q x h = no_table (tag_at s 0) h
      go false false false false false false q x h = never (cc)

unfinished : {A : Type 0} (s : List ℕ) (w : ℕ) → finished s unscanned ≡ Ok w → A
unfolding finished
unfinished s w h = never (cc)

scan-starts : (s : List ℕ) (w f : ℕ) → length s ≤ 1048576 → fields_from s 0 ≡ fields_f f s 0 → scan_from s (fields_f f s 0) unscanned ≡ Ok w → Starts s w
unfolding fields_f scan_from
scan-starts s w zero l e h = unfinished s w h
scan-starts s w (suc f) l e h = go (ltb 0 (length s)) refl e h
  where
    ps : List ℕ
    ps = fields_f f s (next_at s 0)

    go : (b : Bool) → ltb 0 (length s) ≡ b → fields_from s 0 ≡ cond b (0 ∷ ps) [] → scan_from s (cond b (0 ∷ ps) []) unscanned ≡ Ok w → Starts s w
    go true b e h =
        first_step s w (λ u. scan_from s ps u) h λ tag fits fine g.
        record {
          long = l;
          some_bytes = ltb-true 0 (length s) b;
          tag = tag;
          fits = fits;
          fine = fine;
          rest = ps;
          fields = e;
          walk = walk s w f (next_at s 0) (past_header (header_of s 0)) (omega arith) g;
        }
    go false b e h = unfinished s w h

-- a description of good form is a header, then fields in which no scan finds a fault
pub starts : (s : List ℕ) (w : ℕ) → form_of s ≡ Ok w → Starts s w
unfolding form_of fields_from
starts s w h = go (ltb 1048576 (length s)) refl h
  where
    go : (b : Bool) → ltb 1048576 (length s) ≡ b → cond b (Err (nowhere 2 0)) (scan_from s (fields_f (length s - 0) s 0) unscanned) ≡ Ok w → Starts s w
    go true b h = never (cc)
    go false b h = scan-starts s w (length s - 0) (ltb-false 1048576 (length s) b) refl h
