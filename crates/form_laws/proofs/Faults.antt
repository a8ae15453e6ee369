-- What a field without fault has, kind by kind.
use Prim.Native.Nat.{ℕ, ◌+◌, ◌<◌, ◌≤◌}
use native.Mathlib.Omega.{arith}
use mathlib.Core.Path.{◌≡◌, refl}
use mathlib.Core.Bool.{Bool, true, false, not, cond, ◌&&◌, ◌||◌}
use mathlib.Core.List.{List}
use lib.Dec.{eqb, ltb, leb}
use borrow.Author.Tests.{eqb-true, eq-eqb, ltb-false, leb-false, not-false}
use Rattle.le.specs.Le.{at8}
use Rattle.masks.proofs.Both.{both, or_left, or_right}
use Rattle.description.specs.declared.Header.{Header}
use Rattle.description.specs.declared.ChunkHead.{ChunkHead}
use Rattle.description.specs.declared.Instr.{Instr}
use Rattle.description.specs.Fields.{shape_of, tags_at}
use Rattle.definition.specs.declared.Scan.{Scan}
use Rattle.definition.specs.Module.{signed_params}
use Rattle.definition.specs.Form.{lowest, header_len, handle_fine, local, slots, callee, fit_of, shape_fine, tags_fine, chunk_len, signature_fine, senseless, too_large, misplaced, unfitting, header_fault, chunk_fault, instr_fault, site_fault, table_fault}
use Rattle.form_laws.proofs.Tests.{and-off, none_of}

pub record HeaderFine (n : ℕ) (h : Header) : Type 0 where
  pub len : n ≡ header_len
  pub handle : handle_fine h.handle ≡ true
  pub float : h.float ≤ 31
  pub chunks : h.chunks ≤ 64
  pub signatures : h.signatures ≤ h.chunks
  pub slots : h.slots ≤ 1024
  pub entry : h.entry < h.signatures

pub header-fine : (due : Bool) (len : ℕ) (h : Header) → header_fault due len h ≡ 0 → (due ≡ true) × HeaderFine len h
unfolding header_fault
header-fine due len h e =
    let (x, y, z, o) =
    none_of
    (not due || not (eqb len header_len) || not (handle_fine h.handle) || ltb 1 h.layout || ltb 1 h.owns || (eqb h.layout 0 && not (eqb h.slots 0)))
    (ltb 31 h.float || ltb 64 h.chunks || ltb h.chunks h.signatures || ltb 1024 h.slots)
    (leb h.signatures h.entry) false e in (
      not-false due (search (or_left, or_right)),
      record {
        len = eqb-true len header_len (not-false (eqb len header_len) (search (or_left, or_right)));
        handle = not-false (handle_fine h.handle) (search (or_left, or_right));
        float = ltb-false 31 h.float (search (or_left, or_right));
        chunks = ltb-false 64 h.chunks (search (or_left, or_right));
        signatures = ltb-false h.chunks h.signatures (search (or_left, or_right));
        slots = ltb-false 1024 h.slots (search (or_left, or_right));
        entry = leb-false h.signatures h.entry z;
      },
    )

-- ---- a chunk, its length n and its parameter shapes k
pub record ChunkFine (n k : ℕ) (h : ChunkHead) : Type 0 where
  pub long : 8 ≤ n
  pub block : h.block ≤ 2
  pub locals : h.locals ≤ 256
  pub stack : h.stack ≤ 64
  pub arity : h.arity ≤ 16
  pub tags : h.tags ≤ 16
  pub params : k ≤ 16
  pub in_locals : k ≤ h.locals

at_least : (s : List ℕ) (p : ℕ) (signed : Bool) (tags : ℕ) → 8 ≤ chunk_len s p signed tags
unfolding chunk_len
at_least s p true tags = omega arith
at_least s p false tags = omega arith

pub chunk-fine : (s : List ℕ) (p : ℕ) (due : Bool) (len : ℕ) (signed : Bool) (h : ChunkHead) → chunk_fault s p due len signed h ≡ 0
    → (due ≡ true) × ChunkFine len (signed_params s p signed) h
unfolding chunk_fault
chunk-fine s p due len signed h e =
    let k = signed_params s p signed in
    let l = eqb (chunk_len s p signed h.tags) len in
    let a = l && tags_fine s (tags_at p) h.tags in
    let b = a && signature_fine s p signed in
    let (x, y, z, o) =
    none_of (not due || not b || ltb 1 h.reachable || ltb 2 h.block)
    (ltb 256 h.locals || ltb 64 h.stack || ltb 16 h.arity || ltb 16 h.tags || ltb 16 k) (ltb h.locals k) false e in
    let m = eqb-true (chunk_len s p signed h.tags) len (both l _ (both a _ (not-false b (search (or_left, or_right)))).0).0 in (
      not-false due (search (or_left, or_right)),
      record {
        long = omega (arith, at_least s p signed h.tags);
        block = ltb-false 2 h.block (search (or_left, or_right));
        locals = ltb-false 256 h.locals (search (or_left, or_right));
        stack = ltb-false 64 h.stack (search (or_left, or_right));
        arity = ltb-false 16 h.arity (search (or_left, or_right));
        tags = ltb-false 16 h.tags (search (or_left, or_right));
        params = ltb-false 16 k (search (or_left, or_right));
        in_locals = ltb-false h.locals k z;
      },
    )

-- ---- an instruction in a chunk with so many locals, in a module with so many signatures
pub record Fits (locals signatures : ℕ) (i : Instr) : Type 0 where
  pub op : i.op ≤ 65
  pub taken : i.taken ≤ 64
  pub given : i.given ≤ 4
  pub taken_least : (fit_of i.op).taken_least ≤ i.taken
  pub taken_most : i.taken ≤ (fit_of i.op).taken_most
  pub given_least : (fit_of i.op).given_least ≤ i.given
  pub given_most : i.given ≤ (fit_of i.op).given_most
  pub sense : senseless (fit_of i.op).meaning i ≡ false
  pub narrow : too_large (fit_of i.op).meaning i ≡ false
  pub local : (fit_of i.op).meaning ≡ local → i.a < locals
  pub callee : (fit_of i.op).meaning ≡ callee → i.a < signatures

pub record InstrFine (n : ℕ) (i : Instr) (t : Scan) : Type 0 where
  pub len : n ≡ 15
  pub count : t.instrs ≤ 4095
  pub fit : Fits t.locals t.signatures i

pub instr-fine : (due : Bool) (len : ℕ) (i : Instr) (t : Scan) → instr_fault due len i t ≡ 0 → (due ≡ true) × InstrFine len i t
unfolding instr_fault misplaced unfitting
instr-fine due len i t e =
    let f = fit_of i.op in
    let m = f.meaning in
    let (x, y, z, o) =
    none_of (not due || not (eqb len 15) || ltb 65 i.op || senseless m i)
    (ltb 4095 t.instrs || ltb 64 i.taken || ltb 4 i.given || too_large m i)
    ((eqb m local && leb t.locals i.a) || (eqb m callee && leb t.signatures i.a) || (eqb m slots && eqb i.b 0 && eqb t.layout 0))
    (ltb i.taken f.taken_least || ltb f.taken_most i.taken || ltb i.given f.given_least || ltb f.given_most i.given) e in (
      not-false due (search (or_left, or_right)),
      record {
        len = eqb-true len 15 (not-false (eqb len 15) (search (or_left, or_right)));
        count = ltb-false 4095 t.instrs (search (or_left, or_right));
        fit =
            record {
              op = ltb-false 65 i.op (search (or_left, or_right));
              taken = ltb-false 64 i.taken (search (or_left, or_right));
              given = ltb-false 4 i.given (search (or_left, or_right));
              taken_least = ltb-false i.taken f.taken_least (search (or_left, or_right));
              taken_most = ltb-false f.taken_most i.taken (search (or_left, or_right));
              given_least = ltb-false i.given f.given_least (search (or_left, or_right));
              given_most = ltb-false f.given_most i.given (search (or_left, or_right));
              sense = search (or_left, or_right);
              narrow = search (or_left, or_right);
              local = λ q. leb-false t.locals i.a (and-off (eqb m local) _ (search (or_left, or_right)) (eq-eqb m local q));
              callee = λ q. leb-false t.signatures i.a (and-off (eqb m callee) _ (search (or_left, or_right)) (eq-eqb m callee q));
            };
      },
    )

-- ---- sites and tables
pub site-due : (s : List ℕ) (p : ℕ) (due : Bool) (len : ℕ) → site_fault s p due len ≡ 0 → due ≡ true
unfolding site_fault
site-due s p true len e = refl
site-due s p false len e = absurd (omega arith)

-- the contents' length of tags 5 to 8, and the most fields of each
abbrev pub table_len : ℕ → ℕ
table_len k = cond (eqb k 5) 8 (cond (eqb k 6) 1 (cond (eqb k 7) 6 2))

abbrev pub table_most : ℕ → ℕ
table_most k = cond (eqb k 5) 256 1024

pub record TableFine (tag n k : ℕ) : Type 0 where
  pub len : n ≡ table_len tag
  pub count : k < table_most tag

pub table-fine : (s : List ℕ) (p tag : ℕ) (due : Bool) (len count : ℕ) → table_fault s p tag due len count ≡ 0 → (due ≡ true) × TableFine tag len count
unfolding table_fault
table-fine s p tag due len count e = let (x, y, z) = go (eqb tag 5) (eqb tag 6) (eqb tag 7) e in (x, record { len = y; count = z })
  where
    a : ℕ → Bool
    a n = not due || not (eqb len n)

    shape : Bool
    shape = not (shape_fine (shape_of s (p + 3)))

    kind : (n most : ℕ) (x : Bool) → (x ≡ false → a n ≡ false) → lowest x (ltb most count) false false ≡ 0 → (due ≡ true) × (len ≡ n) × (count ≤ most)
    kind n most x f e =
        let (y, z, o, q) = none_of x (ltb most count) false false e in
        let g = f y in
        (not-false due (or_left (not due) _ g), eqb-true len n (not-false (eqb len n) (or_right (not due) _ g)), ltb-false most count z)

    go : (b c d : Bool)
        → cond b (lowest (a 8 || shape || ltb 1 (at8 s (p + 10))) (ltb 255 count) false false)
        (cond c (lowest (a 1) (ltb 1023 count) false false)
        (cond d (lowest (a 6) (ltb 1023 count) false false)
        (lowest (a 2 || ltb 11 (at8 s (p + 3)) || ltb 1 (at8 s (p + 4))) (ltb 1023 count) false false))) ≡ 0
        → (due ≡ true) × (len ≡ cond b 8 (cond c 1 (cond d 6 2))) × (count < cond b 256 1024)
    go true c d e =
        let (x, y, z) = kind 8 255 (a 8 || shape || ltb 1 (at8 s (p + 10))) (λ q. or_left (a 8) shape (or_left (a 8 || shape) _ q)) e in
        (x, y, omega arith)
    go false true d e = let (x, y, z) = kind 1 1023 (a 1) (λ q. q) e in (x, y, omega arith)
    go false false true e = let (x, y, z) = kind 6 1023 (a 6) (λ q. q) e in (x, y, omega arith)
    go false false false e =
        let m = ltb 11 (at8 s (p + 3)) in
        let (x, y, z) = kind 2 1023 (a 2 || m || ltb 1 (at8 s (p + 4))) (λ q. or_left (a 2) m (or_left (a 2 || m) _ q)) e in
        (x, y, omega arith)
