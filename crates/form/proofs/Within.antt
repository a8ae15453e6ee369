-- What a step over one field leaves within bounds.
use mathlib.Core.Path.{◌≡◌, refl}
use mathlib.Core.Bool.{Bool, true, false, cond, ◌&&◌, ◌||◌}
use mathlib.Core.List.{List, ◌∷◌}
use Prim.Native.Nat.{ℕ, ◌+◌, ◌-◌, ◌<◌, ◌≤◌}
use native.Mathlib.Omega.{arith}
use Rattle.std.proofs.Common.{Result, Ok, Err}
use Rattle.masks.proofs.Both.{both}
use Rattle.form_laws.proofs.Faults.{HeaderFine, header-fine, ChunkFine, chunk-fine, instr-fine}
use borrow.Author.Tests.{lt-ltb, ltb-true, ltb-false, eqb-true, ne_eqb}
use lib.ListN.{length}
use lib.Dec.{eqb, ltb, leb}
use Rattle.answers.specs.declared.Refusal.{Refusal}
use Rattle.description.specs.Fields.{tag_at, len_at, next_at, header_of, chunk_of, instr_of}
use Rattle.description.proofs.Walk.{next-after}
use Rattle.definition.specs.declared.Scan.{Scan}
use Rattle.definition.specs.Module.{signed_params}
use Rattle.answers.specs.Answers.{nowhere, in_field}
use Rattle.definition.specs.Form.{header_fault, chunk_fault, instr_fault, site_fault, table_fault, or_stop, past_header, header_step, past_chunk, chunk_step, past_instr, instr_step, placed, site_step, so_far, table_step, field_step}
use Rattle.form.specs.late_checks.Counted.{counted}
use Rattle.form.specs.code_steps.Bounds.{Bounded}
use Rattle.form.proofs.code_steps.Bounds.{so-far-le}

-- ---- what a step leaves
pub record After (s : List ℕ) (p : ℕ) (t u : Scan) : Type 0 where
  pub bound : Bounded u (next_at s p)
  pub count : (ps : List ℕ) → counted s t.seen t.instrs (p ∷ ps) ≡ counted s u.seen u.instrs ps

abbrev Within : List ℕ → ℕ → Scan → Result Scan Refusal → Type 0
Within s p t (Ok u) = After s p t u
Within s p t (Err r) = Unit

pub widen : (t : Scan) (n m : ℕ) → Bounded t n → n ≤ m → Bounded t m
widen t n m b h =
    record {
      chunks = b.chunks;
      signatures = b.signatures;
      seen = b.seen;
      unseen = b.unseen;
      instrs = b.instrs;
      uncoded = b.uncoded;
      locals = b.locals;
      stack = b.stack;
      count = omega arith;
      cells = omega arith;
    }

module _ (s : List ℕ) (p : ℕ) (t : Scan) (b : Bounded t p) where
  stop-within : (k : ℕ) (r : Refusal) (u : Scan) → (k ≡ 0 → After s p t u) → Within s p t (or_stop k r u)
  stop-within k r u f = go (eqb k 0) (λ e. f (eqb-true k 0 e))
    where
      go : (x : Bool) → (x ≡ true → After s p t u) → Within s p t (cond x (Ok u) (Err r))
      go true g = g refl
      go false g = tt

  cond-within : (x : Bool) (a c : Result Scan Refusal) → (x ≡ true → Within s p t a) → (x ≡ false → Within s p t c) → Within s p t (cond x a c)
  cond-within true a c f g = f refl
  cond-within false a c f g = g refl

  header-after : tag_at s p ≡ 1 → eqb t.place 0 ≡ true → HeaderFine (len_at s p) (header_of s p) → After s p t (past_header (header_of s p))
  unfolding counted next_at
  header-after tag on f =
      let new : t.place ≡ 0 = eqb-true t.place 0 on in
      let none : t.seen ≡ 0 = omega (arith, b.unseen, new) in
      let fresh : t.instrs ≡ 0 = omega (arith, b.uncoded, new) in
      record {
        bound =
            record {
              chunks = f.chunks;
              signatures = omega (arith, f.signatures, f.chunks);
              seen = omega arith;
              unseen = omega arith;
              instrs = omega arith;
              uncoded = omega arith;
              locals = omega arith;
              stack = omega arith;
              count = omega arith;
              cells = omega (arith, f.slots, f.len);
            };
        count = λ ps. rw (tag, none, fresh);
      }

  header-within : tag_at s p ≡ 1 → Within s p t (header_step s p t)
  unfolding header_step
  header-within tag =
      let k : ℕ = header_fault (eqb t.place 0) (len_at s p) (header_of s p) in
      stop-within k (nowhere k 0) (past_header (header_of s p))
      (λ e. let f = header-fine (eqb t.place 0) (len_at s p) (header_of s p) e in header-after tag f.0 f.1)

  chunk-after : (d signed : Bool) → tag_at s p ≡ 2 → (d && ltb t.seen t.chunks) ≡ true
      → ChunkFine (len_at s p) (signed_params s p signed) (chunk_of s p) → After s p t (past_chunk (chunk_of s p) (signed_params s p signed) t)
  unfolding counted next_at
  chunk-after d signed tag on f =
      let less : t.seen < t.chunks = ltb-true t.seen t.chunks (both d (ltb t.seen t.chunks) on).1 in
      record {
        bound =
            record {
              chunks = b.chunks;
              signatures = b.signatures;
              seen = omega arith;
              unseen = omega (arith, b.chunks);
              instrs = omega arith;
              uncoded = omega arith;
              locals = f.locals;
              stack = f.stack;
              count = omega (arith, b.count);
              cells = omega (arith, b.cells, f.params);
            };
        count = λ ps. rw (tag, lt-ltb t.seen 64 (omega (arith, b.chunks)));
      }

  chunk-within : tag_at s p ≡ 2 → Within s p t (chunk_step s p t)
  unfolding chunk_step
  chunk-within tag =
      let signed : Bool = ltb t.seen t.signatures in
      let d : Bool = ltb 0 t.place && ltb t.place 5 in
      let due : Bool = d && ltb t.seen t.chunks in
      let k : ℕ = chunk_fault s p due (len_at s p) signed (chunk_of s p) in
      stop-within k (in_field k t.seen 65535) (past_chunk (chunk_of s p) (signed_params s p signed) t)
      (λ e. let f = chunk-fine s p due (len_at s p) signed (chunk_of s p) e in chunk-after d signed tag f.0 f.1)

  instr-within : tag_at s p ≡ 3 → Within s p t (instr_step s p t)
  unfolding instr_step counted next_at
  instr-within tag =
      let due : Bool = ltb 1 t.place && ltb t.place 5 in
      let k : ℕ = instr_fault due (len_at s p) (instr_of s p) t in
      stop-within k (in_field k (t.seen - 1) t.instrs) (past_instr t)
      (λ e.
      let f = (instr-fine due (len_at s p) (instr_of s p) t e).1 in
      record {
        bound =
            record {
              chunks = b.chunks;
              signatures = b.signatures;
              seen = b.seen;
              unseen = omega (arith, b.seen, b.chunks);
              instrs = omega (arith, f.count);
              uncoded = omega (arith, f.count);
              locals = b.locals;
              stack = b.stack;
              count = omega (arith, b.count);
              cells = omega (arith, b.cells, b.locals, b.stack, f.len);
            };
        count = λ ps. rw (tag, lt-ltb t.instrs 4096 (omega (arith, f.count)));
      })

  -- a step that keeps all but the place and the count
  placed-after : (tag count : ℕ) → 1 ≤ tag → count ≤ next_at s p → (tag_at s p ≡ 2 → ⊥) → (tag_at s p ≡ 3 → ⊥) → After s p t (placed tag count t)
  unfolding counted next_at
  placed-after tag count low few two three =
      record {
        bound =
            record {
              chunks = b.chunks;
              signatures = b.signatures;
              seen = b.seen;
              unseen = omega (arith, b.seen, b.chunks);
              instrs = b.instrs;
              uncoded = omega (arith, b.instrs);
              locals = b.locals;
              stack = b.stack;
              count = few;
              cells = omega (arith, b.cells);
            };
        count = λ ps. rw (ne_eqb (tag_at s p) 2 two, ne_eqb (tag_at s p) 3 three);
      }

  site_within : tag_at s p ≡ 4 → Within s p t (site_step s p t)
  unfolding site_step
  site_within tag =
      let k : ℕ = site_fault s p (eqb t.place 3) (len_at s p) in
      stop-within k (nowhere k 0) (placed 4 t.count t)
      (λ e. placed-after 4 t.count (omega arith) (omega (arith, b.count, next-after s p)) (λ x. omega arith) (λ x. omega arith))

  table-within : 4 < tag_at s p → Within s p t (table_step s p (tag_at s p) t)
  unfolding table_step
  table-within big =
      let tag : ℕ = tag_at s p in
      let due : Bool = ltb 0 t.place && leb t.place tag && (eqb tag 5 || eqb t.layout 1) in
      let k : ℕ = table_fault s p tag due (len_at s p) (so_far t tag) in
      stop-within k (nowhere k 0) (placed tag (so_far t tag + 1) t)
      (λ e. placed-after tag (so_far t tag + 1) (omega arith) (omega (arith, so-far-le t tag p b.count, next-after s p)) (λ x. omega arith) (λ x. omega arith))

  pub step-within : Within s p t (field_step s p t)
  unfolding field_step
  step-within =
      let g : ℕ = tag_at s p in
      let stop : Result Scan Refusal = Err (nowhere 1 0) in
      let x5 : Result Scan Refusal = cond (ltb 4 g && ltb g 9) (table_step s p g t) stop in
      let x4 : Result Scan Refusal = cond (eqb g 4) (site_step s p t) x5 in
      let x3 : Result Scan Refusal = cond (eqb g 3) (instr_step s p t) x4 in
      let x2 : Result Scan Refusal = cond (eqb g 2) (chunk_step s p t) x3 in
      let x1 : Result Scan Refusal = cond (eqb g 1) (header_step s p t) x2 in
      cond-within (ltb (length s) (next_at s p)) stop x1 (λ e. tt)
      (λ e0. cond-within (eqb g 1) (header_step s p t) x2 (λ e. header-within (eqb-true g 1 e))
      (λ e1. cond-within (eqb g 2) (chunk_step s p t) x3 (λ e. chunk-within (eqb-true g 2 e))
      (λ e2. cond-within (eqb g 3) (instr_step s p t) x4 (λ e. instr-within (eqb-true g 3 e))
      (λ e3. cond-within (eqb g 4) (site_step s p t) x5 (λ e. site_within (eqb-true g 4 e))
      (λ e4. cond-within (ltb 4 g && ltb g 9) (table_step s p g t) stop
      (λ e. table-within (ltb-true 4 g (both (ltb 4 g) (ltb g 9) e).0)) (λ e. tt))))))

pub go-after : (s : List ℕ) (p : ℕ) (t u : Scan) → Bounded t p → field_step s p t ≡ Ok u → After s p t u
go-after s p t u b e = rw e at (step-within s p t b)

-- a field that is passed fits the description
pub go-inside : (s : List ℕ) (p : ℕ) (t u : Scan) → field_step s p t ≡ Ok u → next_at s p ≤ length s
unfolding field_step
go-inside s p t u e = go (ltb (length s) (next_at s p)) refl
  where
    go : (x : Bool) → ltb (length s) (next_at s p) ≡ x → next_at s p ≤ length s
    go true h = let f : ◌≡◌ {A = Result Scan Refusal} (Err (nowhere 1 0)) (Ok u) = rw h at e in let z : ◌≡◌ {A = ℕ} 0 1 = cc in absurd (omega arith)
    go false h = ltb-false (length s) (next_at s p) h
