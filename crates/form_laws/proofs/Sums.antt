-- What the walk counts: chunks, cells, instructions.
use Prim.Native.Nat.{ℕ, ◌+◌, ◌*◌, ◌<◌, ◌≤◌}
use native.Mathlib.Omega.{arith}
use mathlib.Core.Path.{◌≡◌, refl}
use mathlib.Core.Bool.{Bool, true, false, cond, ◌||◌}
use mathlib.Core.List.{List, []}
use lib.Dec.{eqb, ltb}
use lib.ListN.{length}
use borrow.Author.Tests.{eqb-true, eqb-false, ltb-false}
use Rattle.std.proofs.Common.{Ok, Err}
use Rattle.answers.specs.declared.Refusal.{Refusal}
use Rattle.description.specs.Fields.{next_at, fields_from, of_tag, chunk_of, param_of}
use Rattle.definition.specs.declared.Scan.{Scan}
use Rattle.definition.specs.Module.{Line, code_after, signed_params, chunk_from, chunks_from}
use Rattle.answers.specs.Answers.{nowhere}
use Rattle.definition.specs.Form.{parameters, late_look, after_look, finished}
use Rattle.masks.proofs.Both.{never, or_right}
use Rattle.form_laws.specs.Good.{chunk_cells, cells_in, instrs_in}
use Rattle.form_laws.proofs.Each.{row-length}
use Rattle.form_laws.proofs.Walk.{Walk, end, chunk, instr, other}
use Rattle.form_laws.proofs.Front.{code-chunk, code-instr, code_other, chunks-chunk, chunks-other}

-- ---- the end: no chunk is missing, no late look finds a fault
abbrev pub params_of_all : List ℕ → ℕ → List ℕ
params_of_all s signatures = parameters s signatures (of_tag 2 s (fields_from s 0))

unfoldable pub last_look : List ℕ → ℕ → Refusal
last_look s signatures = late_look s (params_of_all s signatures) 0 0 (fields_from s 0)

pub record Ended (s : List ℕ) (w : ℕ) (t : Scan) : Type 0 where
  pub seen : t.chunks ≤ t.seen
  pub words : w ≡ 16 * t.cells
  pub look : (last_look s t.signatures).number ≡ 0

pub ended : (s : List ℕ) (w : ℕ) (t : Scan) → finished s t ≡ Ok w → Ended s w t
unfolding finished after_look last_look
ended s w t h = go (eqb t.place 0 || ltb t.seen t.chunks) refl h
  where
    look : ltb t.seen t.chunks ≡ false → (b : Bool) → eqb (last_look s t.signatures).number 0 ≡ b
        → cond b (Ok (16 * t.cells)) (Err (last_look s t.signatures)) ≡ Ok w → Ended s w t
    look q true e h = record { seen = ltb-false t.seen t.chunks q; words = cc; look = eqb-true (last_look s t.signatures).number 0 e }
    look q false e h = never (cc)

    go : (b : Bool) → (eqb t.place 0 || ltb t.seen t.chunks) ≡ b
        → cond b (Err (nowhere 1 0)) (cond (eqb (last_look s t.signatures).number 0) (Ok (16 * t.cells)) (Err (last_look s t.signatures))) ≡ Ok w
        → Ended s w t
    go true e h = never (cc)
    go false e h = look (or_right (eqb t.place 0) _ e) (eqb (last_look s t.signatures).number 0) refl h

chunk-cells : (s : List ℕ) (n p : ℕ) (signed : Bool) (code : List Line)
    → chunk_cells (chunk_from s n p signed code) ≡ length code * ((chunk_of s p).locals + (chunk_of s p).stack + 6) + signed_params s p signed + 2
unfolding chunk_cells chunk_from
chunk-cells s n p signed code = rw (row-length (param_of s p) 0 (signed_params s p signed))

module _ (s : List ℕ) (w : ℕ) where
  -- the late look goes by the signatures of the scan
  pub walk-look : {p : ℕ} {ps : List ℕ} {t : Scan} → Walk s w p ps t → (last_look s t.signatures).number ≡ 0
  walk-look (end {t = t} h) = (ended s w t h).look
  walk-look (chunk c k) = walk-look k
  walk-look (instr c k) = walk-look k
  walk-look (other j n c k) = walk-look k

  -- as many chunks as the header says
  pub walk-chunks : {p : ℕ} {ps : List ℕ} {t : Scan} → Walk s w p ps t → t.seen ≤ t.chunks
      → t.seen + length (chunks_from s t.signatures t.seen ps) ≡ t.chunks
  unfolding chunks_from
  walk-chunks (end {t = t} h) l = omega (arith, (ended s w t h).seen)
  walk-chunks (chunk {p} {ps} {t} c k) l =
      rw (chunks-chunk s p ps t.signatures t.seen c.tag) (omega (arith, walk-chunks k (omega (arith, c.due))))
  walk-chunks (instr {p} {ps} {t} c k) l = rw (chunks-other s p ps t.signatures t.seen (omega (arith, c.tag))) (walk-chunks k l)
  walk-chunks (other {p} {ps} {t} j n c k) l = rw (chunks-other s p ps t.signatures t.seen (omega (arith, c.tag, c.past))) (walk-chunks k l)

  -- w counts the cells of the code up to the next chunk, and of the chunks
  pub walk-cells : {p : ℕ} {ps : List ℕ} {t : Scan} → Walk s w p ps t
      → w ≡ 16 * (t.cells + length (code_after s ps) * (t.locals + t.stack + 6) + cells_in (chunks_from s t.signatures t.seen ps))
  unfolding code_after chunks_from cells_in
  walk-cells (end {t = t} h) = omega (arith, (ended s w t h).words)
  walk-cells (chunk {p} {ps} {t} c k) =
      let cells = chunk-cells s t.seen p (ltb t.seen t.signatures) (code_after s ps) in
      rw (code-chunk s p ps c.tag, chunks-chunk s p ps t.signatures t.seen c.tag) (omega (arith, cells, walk-cells k))
  walk-cells (instr {p} {ps} {t} c k) =
      rw (code-instr s p ps c.tag, chunks-other s p ps t.signatures t.seen (omega (arith, c.tag))) (omega (arith, walk-cells k))
  walk-cells (other {p} {ps} {t} j n c k) =
      rw (code_other s p ps (omega (arith, c.tag, c.past)), chunks-other s p ps t.signatures t.seen (omega (arith, c.tag, c.past))) (walk-cells k)

  -- at most 58 cells for a byte: a header has 19 bytes and 1028 cells, an instruction 18 and 326, a chunk 11 or more and 18
  pub walk-small : {p : ℕ} {ps : List ℕ} {t : Scan} → Walk s w p ps t → t.cells ≤ 58 * p → p ≤ length s → t.locals ≤ 256 → t.stack ≤ 64
      → w ≤ 928 * length s
  unfolding next_at
  walk-small (end {t = t} h) l m x y = omega (arith, (ended s w t h).words)
  walk-small (chunk c k) l m x y = walk-small k (omega (arith, c.fine.long, c.fine.params)) c.fits c.fine.locals c.fine.stack
  walk-small (instr c k) l m x y = walk-small k (omega (arith, c.fine.len)) c.fits x y
  walk-small (other j n c k) l m x y = walk-small k (omega arith) c.fits x y

  -- each instruction has its bytes behind p: those of the code up to the next chunk, and those of the chunks
  pub walk-instrs : {p : ℕ} {ps : List ℕ} {t : Scan} → Walk s w p ps t → p ≤ length s
      → p + 18 * (length (code_after s ps) + instrs_in (chunks_from s t.signatures t.seen ps)) ≤ length s
  unfolding next_at code_after chunks_from chunk_from instrs_in
  walk-instrs (end h) l = omega arith
  walk-instrs (chunk {p} {ps} {t} c k) l =
      rw (code-chunk s p ps c.tag, chunks-chunk s p ps t.signatures t.seen c.tag) (omega (arith, walk-instrs k c.fits))
  walk-instrs (instr {p} {ps} {t} c k) l =
      rw (code-instr s p ps c.tag, chunks-other s p ps t.signatures t.seen (omega (arith, c.tag))) (omega (arith, c.fine.len, walk-instrs k c.fits))
  walk-instrs (other {p} {ps} {t} j n c k) l =
      rw (code_other s p ps (omega (arith, c.tag, c.past)), chunks-other s p ps t.signatures t.seen (omega (arith, c.tag, c.past)))
      (omega (arith, walk-instrs k c.fits))

  -- no more instructions up to the next chunk than a chunk may have
  pub walk_code : {p : ℕ} {ps : List ℕ} {t : Scan} → Walk s w p ps t → t.instrs ≤ 4096 → t.instrs + length (code_after s ps) ≤ 4096
  unfolding code_after
  walk_code (end h) l = omega arith
  walk_code (chunk {p} {ps} c k) l = rw (code-chunk s p ps c.tag) (omega arith)
  walk_code (instr {p} {ps} c k) l = rw (code-instr s p ps c.tag) (omega (arith, walk_code k (omega (arith, c.fine.count))))
  walk_code (other {p} {ps} j n c k) l = rw (code_other s p ps (omega (arith, c.tag, c.past))) (walk_code k l)

  -- no instruction stands before the first chunk or after the first table
  pub no_code : {p : ℕ} {ps : List ℕ} {t : Scan} → Walk s w p ps t → (1 < t.place → 5 ≤ t.place) → code_after s ps ≡ []
  unfolding code_after
  no_code (end h) l = refl
  no_code (chunk {p} {ps} c k) l = code-chunk s p ps c.tag
  no_code (instr c k) l = absurd (omega (arith, c.early, l c.past))
  no_code (other {p} {ps} {t} j n c k) l =
      rw (code_other s p ps (omega (arith, c.tag, c.past))) (no_code k (λ q. go (eqb j 4) refl))
    where
      go : (b : Bool) → eqb j 4 ≡ b → 5 ≤ j
      go true e = let z = c.site (eqb-true j 4 e) in absurd (omega (arith, l (omega arith)))
      go false e = omega (arith, c.past, eqb-false j 4 e)
