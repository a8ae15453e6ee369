-- THEOREM: a description of good form has all that `Good` says.
use Prim.Native.Nat.{ℕ, ◌+◌, ◌*◌, ◌<◌, ◌≤◌}
use native.Mathlib.Omega.{arith}
use native.Mathlib.Nat.{zero-add}
use mathlib.Core.Path.{◌≡◌, refl, sym, ap, ◌∙◌}
use mathlib.Core.List.{List}
use lib.Dec.{ltb}
use lib.ListN.{length, get_or, length-map}
use borrow.Author.Tests.{le-ltb}
use Rattle.std.proofs.Common.{Ok}
use Rattle.le.specs.Le.{at8}
use Rattle.description.specs.Fields.{tag_at, next_at, fields_from, of_tag, header_of, chunk_of, tags_at, instr_of}
use Rattle.definition.specs.declared.Scan.{Scan}
use Rattle.definition.specs.Module.{Module, Chunk, line_of, signed_params, code_after, chunk_from, chunks_from, module_from, module_of}
use Rattle.definition.specs.Leaves.{no_line, line_at}
use Rattle.definition.specs.Form.{past_chunk, form_of}
use Rattle.form_laws.specs.Good.{no_chunk, chunk_no, words_of, instrs_in, instr_bytes, LineGood, ChunkGood, Good}
use Rattle.form_laws.proofs.Each.{All, all-at, all_map, Each, each_at, row-length}
use Rattle.form_laws.proofs.Faults.{Fits, table_len, table_most}
use Rattle.form_laws.proofs.Walk.{params_then, AtChunk, Walk, end, chunk, instr, other, Starts, starts}
use Rattle.form_laws.proofs.Front.{code-chunk, code-instr, code_other, chunks-chunk, chunks-other, tag-other}
use Rattle.form_laws.proofs.Sums.{params_of_all, last_look, walk-look, walk-chunks, walk-cells, walk-small, walk-instrs, walk_code, no_code}
use Rattle.form_laws.proofs.Tables.{Table, table-rows}
use Rattle.form_laws.proofs.Ordered.{all-ordered}
use Rattle.form_laws.proofs.Late.{Late, late-all, late-line, chunk-params, params_are}

line-good : (m : Module) (c : Chunk) (s : List ℕ) (p locals signatures : ℕ) → c.locals ≡ locals → m.signatures ≡ signatures
    → Fits locals signatures (instr_of s p) → Late m (line_of s p) → LineGood m c (line_of s p)
unfolding line_of
line-good m c s p locals signatures e g f l =
    record {
      op = f.op;
      taken = f.taken;
      given = f.given;
      taken_least = f.taken_least;
      taken_most = f.taken_most;
      given_least = f.given_least;
      given_most = f.given_most;
      sense = f.sense;
      narrow = f.narrow;
      local = λ q. rw e (f.local q);
      callee = λ q. rw g (f.callee q);
      call = l.call;
      yields = l.yields;
    }

abbrev LateIn : List ℕ → Module → List ℕ → Type 0
LateIn s m ps = All (λ q. tag_at s q ≡ 3 → Late m (line_of s q)) ps

module _ (s : List ℕ) (w : ℕ) (m : Module) where
  -- the code up to the next chunk
  lines-good : {p : ℕ} {ps : List ℕ} {t : Scan} → Walk s w p ps t → m.signatures ≡ t.signatures → LateIn s m ps
      → (c : Chunk) → c.locals ≡ t.locals → All (LineGood m c) (code_after s ps)
  unfolding code_after
  lines-good (end h) g l c e = tt
  lines-good (chunk {p} {ps} a k) g l c e = rw (code-chunk s p ps a.tag) tt
  lines-good (instr {p} {ps} {t} a k) g l c e =
      rw (code-instr s p ps a.tag) (line-good m c s p t.locals t.signatures e g a.fine.fit (l.0 a.tag), lines-good k g l.1 c e)
  lines-good (other {p} {ps} j n a k) g l c e = rw (code_other s p ps (omega (arith, a.tag, a.past))) (lines-good k g l.1 c e)

  chunk-good : {p : ℕ} {ps : List ℕ} {t : Scan} → AtChunk s p t → Walk s w (next_at s p) ps (past_chunk (chunk_of s p) (params_then s p t) t) → m.signatures ≡ t.signatures → LateIn s m ps
      → ChunkGood m t.seen (chunk_from s t.seen p (ltb t.seen t.signatures) (code_after s ps))
  unfolding chunk_from line_at signed_params
  chunk-good {p} {ps} {t} a k g l =
      let c = chunk_from s t.seen p (ltb t.seen t.signatures) (code_after s ps) in
      let params = chunk-params s t.seen p (ltb t.seen t.signatures) (code_after s ps) in
      let f = a.fine in
      record {
        number = refl;
        block = f.block;
        locals = f.locals;
        stack = f.stack;
        arity = f.arity;
        tags = rw (row-length (λ i. at8 s (tags_at p + i)) 0 (chunk_of s p).tags) f.tags;
        params = rw params f.params;
        in_locals = rw params f.in_locals;
        unsigned = λ h. rw (params, le-ltb t.seen t.signatures (omega arith));
        code = omega (arith, walk_code s w k (omega arith));
        lines = λ i h. all-at (LineGood m c) no_line (code_after s ps) i (lines-good k g l c refl) h;
      }

  chunks-good : {p : ℕ} {ps : List ℕ} {t : Scan} → Walk s w p ps t → m.signatures ≡ t.signatures → LateIn s m ps
      → Each (ChunkGood m) t.seen (chunks_from s t.signatures t.seen ps)
  unfolding chunks_from
  chunks-good (end h) g l = tt
  chunks-good (chunk {p} {ps} {t} a k) g l =
      rw (chunks-chunk s p ps t.signatures t.seen a.tag) (chunk-good a k g l.1, chunks-good k g l.1)
  chunks-good (instr {p} {ps} {t} a k) g l = rw (chunks-other s p ps t.signatures t.seen (omega (arith, a.tag))) (chunks-good k g l.1)
  chunks-good (other {p} {ps} {t} j n a k) g l =
      rw (chunks-other s p ps t.signatures t.seen (omega (arith, a.tag, a.past))) (chunks-good k g l.1)

numbered : (m : Module) (l k : List Chunk) → l ≡ k → Each (ChunkGood m) 0 k → (n : ℕ) → n < length l → ChunkGood m n (get_or l n no_chunk)
numbered m l k e a n h = rw zero-add at (each_at (ChunkGood m) no_chunk 0 l n (rw e a) h)

all_params : (s : List ℕ) (a : ℕ) → get_or (params_of_all s (header_of s 0).signatures) a 0 ≡ length (chunk_no (module_of s) a).params
unfolding module_of module_from chunk_no
all_params s a = params_are s (header_of s 0).signatures 0 (header_of s 0).signatures (fields_from s 0) a (omega arith)

-- ---- the module of a description that starts so
module _ (s : List ℕ) (w : ℕ) (st : Starts s w) where
  chunks_rest : (module_of s).chunks ≡ chunks_from s (header_of s 0).signatures 0 st.rest
  unfolding module_of module_from
  chunks_rest = rw st.fields (chunks-other s 0 st.rest (header_of s 0).signatures 0 (omega (arith, st.tag)))

  late-fields : LateIn s (module_of s) (fields_from s 0)
  unfolding last_look
  late-fields =
      let params = params_of_all s (header_of s 0).signatures in
      all_map _ _ (fields_from s 0) (λ q h e. late-line (module_of s) s params q (all_params s) (h e))
      (late-all s params 0 0 (fields_from s 0) (walk-look s w st.walk))

  late-rest : LateIn s (module_of s) st.rest
  late-rest = (rw st.fields at late-fields).1

  table : (k : ℕ) → 4 < k → Table (3 + table_len k) (table_most k) (of_tag k s (fields_from s 0))
  table k h = rw (st.fields, tag-other s 0 st.rest k (omega (arith, st.tag))) (table-rows s w k h st.walk (omega arith))

  words : w ≡ words_of (module_of s)
  unfolding words_of module_of module_from
  words = rw chunks_rest (omega (arith, ap length (no_code s w st.walk (omega arith)), walk-cells s w st.walk))

  instrs : instr_bytes * instrs_in (module_of s).chunks ≤ length s
  instrs = rw chunks_rest (omega (arith, walk-instrs s w st.walk st.fits))

  each : Each (ChunkGood (module_of s)) 0 (chunks_from s (header_of s 0).signatures 0 st.rest)
  unfolding module_of module_from
  each = chunks-good s w (module_of s) st.walk refl late-rest

  each-chunk : (n : ℕ) → n < length (module_of s).chunks → ChunkGood (module_of s) n (chunk_no (module_of s) n)
  unfolding chunk_no
  each-chunk n h = numbered (module_of s) (module_of s).chunks _ chunks_rest each n h

  so-good : Good s w
  unfolding module_of module_from next_at
  so-good =
      let f = st.fine in
      let natives = table 5 (omega arith) in
      let shared = table 6 (omega arith) in
      let inits = table 8 (omega arith) in
      let chunks : length (module_of s).chunks ≡ (header_of s 0).chunks = ap length chunks_rest ∙ sym (zero-add _) ∙ walk-chunks s w st.walk (omega arith) in
      record {
        long = st.long;
        some_bytes = st.some_bytes;
        header = st.tag;
        order = all-ordered s w st;
        next = omega (arith, f.len);
        float = f.float;
        handle = f.handle;
        chunks = chunks;
        chunks_most = omega (arith, f.chunks);
        signatures = omega (arith, f.signatures);
        entry = f.entry;
        slots = f.slots;
        natives = rw length-map natives.count;
        shared = rw length-map shared.count;
        inits = rw length-map inits.count;
        words = words;
        small = omega (arith, st.long, walk-small s w st.walk (omega (arith, f.slots, f.len)) st.fits (omega arith) (omega arith));
        instrs = instrs;
        each_chunk = each-chunk;
        native_at = λ k h. natives.place k (rw length-map at h);
        shared_at = λ k h. shared.place k (rw length-map at h);
      }

pub good-form : (s : List ℕ) (w : ℕ) → form_of s ≡ Ok w → Good s w
good-form s w h = so-good s w (starts s w h)
