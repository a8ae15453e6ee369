-- The loop: what it keeps, that each function has the room it asks for, and that the end of the fields is the end of the walk.
use Prim.Native.Nat.{ℕ, ◌+◌, ◌*◌, ◌%◌, ◌^◌, ◌<◌, ◌≤◌}
use mathlib.Core.Path.{◌≡◌, refl, ◌∙◌}
use mathlib.Core.Bool.{Bool, true, false}
use mathlib.Core.List.{List, [], ◌∷◌}
use native.Mathlib.Omega.{arith}
use borrow.Author.Tests.{eq-eqb, ne_eqb}
use lib.Dec.{eqb}
use lib.Pow.{pow-lt}
use lib.ListN.{length, get_or}
use Rattle.words.specs.clearing.Clearing.{cleared}
use Rattle.words.proofs.clearing.Clearing.{cleared-zero}
use Rattle.description.specs.declared.Header.{Header}
use Rattle.description.specs.Fields.{tag_at, next_at, header_of, fields_from}
use Rattle.description.proofs.Walk.{next-after, fields-turn, fields-end}
use Rattle.description.specs.reader.Reading.{after}
use Rattle.description.proofs.reader.Laws.{after-within, fields-after}
use Rattle.definition.specs.Module.{code_after, chunks_from}
use Rattle.form_laws.specs.Good.{Good}
use Rattle.layout.specs.declared.Tables.{Tables}
use Rattle.layout.specs.Indexed.{tables_of, Indexed, Fresh}
use Rattle.index_fill.specs.declared.model.FillState.{FillState}
use Rattle.index_fill.specs.model.Model.{areas, one_more, first_tables, first_work, code_words, code_work, slot_words, tables_after, words_after, words_from, walked_words, unmarked_words, tables_from}
use Rattle.index_fill.proofs.model.Room.{Room, areas_in, area_of, room_after}
use Rattle.index_fill.proofs.model.Keep.{due, keep-after}
use Rattle.index_fill.proofs.model.AtWork.{length-after}
use Rattle.index_fill.proofs.model.Begin.{fields_of, room-first}
use Rattle.index_fill.proofs.model.Filled.{tables-hold, fresh-index, all-fresh}
use Rattle.index_fill.proofs.model.Anew.{index-anew, refilled}
use Rattle.index_fill.specs.Refilled.{Refilled}
use Rattle.index_fill.specs.Fits.{ForChunk, ForInstr, ForCode, ForSlots}
use Rattle.layout.specs.Layout.{row_head, head_words}

-- the walk from here on gives what the whole walk gives
pub record Going (s begin : List ℕ) (q : ℕ) (keep : Bool) (ws : List ℕ) (t : Tables) (w : FillState) (at : ℕ) : Type 0 where
  pub words : words_from s (fields_from s at) t w ws ≡ words_from s (fields_of s) (first_tables s q) (first_work (first_tables s q) keep) begin
  pub tables : tables_from s (fields_from s at) t ≡ tables_from s (fields_of s) (first_tables s q)
  pub room : Room s (fields_from s at) t w q
  pub long : length ws ≡ length begin
  pub enough : q ≤ length ws
  pub short : length s ≤ 1048576
  pub place : at < 2097152
  pub natives : t.natives ≤ at
  pub shared : t.shared ≤ at
  pub inits : t.inits ≤ at

pub going-first : (s ws : List ℕ) (q : ℕ) (keep : Bool) (t : Tables) (w : FillState) (at : ℕ) → Good s q → q ≤ length ws → t ≡ first_tables s q → w ≡ first_work t keep → at ≡ after s 0
    → Going s ws q keep ws t w at
unfolding first_tables
going-first s ws q keep t w at g l e f h =
    rw (h, f, e)
    (record {
      words = rw (fields-after s 0);
      tables = rw (fields-after s 0);
      room = rw (fields-after s 0) (room-first s q g keep);
      long = refl;
      enough = l;
      short = g.long;
      place = omega (arith, g.long, after-within s 0);
      natives = omega arith;
      shared = omega arith;
      inits = omega arith;
    })

-- ---- the first tables
-- a shift that loses nothing
pub shifted : (k : ℕ) → k ≤ 31 → 1 * 2 ^ k % 4294967296 ≡ 2 ^ k
shifted k h =
    let l : 2 ^ k < 2 ^ 32 = pow-lt {j = 32} (omega arith) in
    omega arith

pub float_fits : (s : List ℕ) (q : ℕ) (h : Header) → Good s q → h ≡ header_of s 0 → h.float ≤ 31
float_fits s q h g e = rw e g.float

pub first_fits : (s : List ℕ) (q : ℕ) (t : Tables) → Good s q → t ≡ first_tables s q → (t.chunks ≤ 64) × (t.slots ≤ 1024)
first_fits s q t g e = rw e ((room-first s q g false).chunks_most, (room-first s q g false).slots_most)

-- ---- room
module _ (s : List ℕ) (p : ℕ) (ps : List ℕ) (t : Tables) (w : FillState) (q n : ℕ) (r : Room s (p ∷ ps) t w q) (l : q ≤ n) (b : p < 2097152) where
  for-chunk : tag_at s p ≡ 2 → ForChunk s p t w n
  unfolding chunks_from code_after areas_in
  for-chunk e =
      let d = due s p ps t w [] q r (eq-eqb (tag_at s p) 2 e) in
      let x = rw (eq-eqb (tag_at s p) 2 e, area_of) at r.words in
      let y = r.small in
      record { place = omega arith; seen = omega (arith, r.chunks_most); numbers = omega arith; rows = omega arith }

  for-instr : tag_at s p ≡ 3 → ForInstr p w n
  unfolding chunks_from code_after
  for-instr e =
      let a = ne_eqb (tag_at s p) 2 (λ q. omega arith) in
      let k = rw (a, eq-eqb (tag_at s p) 3 e) at r.row in
      let z : row_head ≤ w.size = k (omega arith) in
      let x = rw (a, eq-eqb (tag_at s p) 3 e) at r.words in
      record { place = omega arith; numbers = omega arith; row = omega arith; next = omega (arith, r.small); instrs = omega (arith, r.small) }

  pub for-code : ForCode (tag_at s p) s p t w n
  for-code = record { chunk = for-chunk; instr = for-instr; site = omega arith }

module _ (s begin : List ℕ) (q : ℕ) (keep : Bool) (ws : List ℕ) (t : Tables) (w : FillState) (at : ℕ) (g : Going s begin q keep ws t w at) where
  pub going-code : (tag : ℕ) → at < length s → tag ≡ tag_at s at → ForCode tag s at t w (length ws)
  going-code tag h e =
      rw e (for-code s at (fields_from s (next_at s at)) t w q (length ws) (rw (fields-turn s at h) at g.room) g.enough g.place)

  pub going-slots : (v : List ℕ) → length v ≡ length ws → (at < 2 ^ 62) × ForSlots t (length v)
  going-slots v e =
      let r = g.room in (
        omega (arith, g.place),
        record {
          chunks = r.chunks_most;
          slots = r.slots_most;
          shared = omega (arith, g.shared, g.place);
          inits = omega (arith, g.inits, g.place);
          words = omega (arith, r.areas, r.words, g.enough);
        },
      )

  pub going-tables : (at < 2 ^ 62) × (t.natives < 2 ^ 32) × (t.shared < 2 ^ 32) × (t.inits < 2 ^ 32)
  going-tables = omega arith

-- ---- one field
one-le : (b : Bool) (n m : ℕ) → n < m → one_more b n ≤ m
one-le true n m h = omega arith
one-le false n m h = omega arith

pub going_next : (s begin ws v x : List ℕ) (q : ℕ) (keep : Bool) (t u : Tables) (w y : FillState) (at next tag : ℕ) → Going s begin q keep ws t w at → at < length s
    → tag ≡ tag_at s at → y ≡ code_work tag s at t w → v ≡ code_words tag s at t w ws → x ≡ slot_words tag s at t y.keep v → u ≡ tables_after tag s at t
    → next ≡ next_at s at → next < at + 65539 → Going s begin q keep x u y next
unfolding words_from words_after tables_from tables_after
going_next s begin ws v x q keep t u w y at next tag g h e ey ev ex eu en l =
    let a : at < next_at s at = next-after s at in
    let z = length-after s at t w ws in
    let ez = rw (ey, keep-after tag s at t w) at ex in
    rw (en, eu, ey, ez, ev, e)
    (record {
      words = rw (fields-turn s at h) at g.words;
      tables = rw (fields-turn s at h) at g.tables;
      room = room_after s at (fields_from s (next_at s at)) t w q (rw (fields-turn s at h) at g.room);
      long = z ∙ g.long;
      enough = omega (arith, g.enough);
      short = g.short;
      place = omega (arith, g.short);
      natives = one-le (eqb (tag_at s at) 5) t.natives (next_at s at) (omega (arith, g.natives));
      shared = one-le (eqb (tag_at s at) 6) t.shared (next_at s at) (omega (arith, g.shared));
      inits = one-le (eqb (tag_at s at) 8) t.inits (next_at s at) (omega (arith, g.inits));
    })

-- ---- the end
pub going_done : (s begin : List ℕ) (q : ℕ) (keep : Bool) (ws : List ℕ) (t : Tables) (w : FillState) (at : ℕ) → Going s begin q keep ws t w at → length s ≤ at
    → Good s q → q ≤ length begin → (t ≡ tables_of s) × (ws ≡ walked_words s q keep begin)
unfolding words_from tables_from walked_words
going_done s begin q keep ws t w at g h good l =
    let x = rw (fields-end s at h) at g.words in
    let y = rw (fields-end s at h) at g.tables in
    (y ∙ tables-hold s begin q keep good l, x)

-- ---- the words cleared first
-- the slots end before the first chunk's inputs
pub front_fits : (s : List ℕ) (q : ℕ) (h : Header) → Good s q → h ≡ header_of s 0 → head_words + 16 * (h.chunks + h.slots) ≤ q
unfolding first_tables first_work
front_fits s q h g e = rw e (omega (arith, (room-first s q g false).areas, (room-first s q g false).words))

pub filled : (s ws u v : List ℕ) (q : ℕ) (h : Header) → Good s q → h ≡ header_of s 0 → u ≡ cleared ws (head_words + 16 * (h.chunks + h.slots)) → q ≤ length u
    → v ≡ walked_words s q false u → Indexed s v × Fresh s v
unfolding walked_words
filled s ws u v q h g e f l x = rw x (fresh-index s u q g l zeros, all-fresh s u q g l zeros)
  where
    zeros : (k : ℕ) → k < head_words + 16 * ((header_of s 0).chunks + (header_of s 0).slots) → get_or u k 0 ≡ 0
    zeros k i = rw f (cleared-zero ws _ k (rw e i))

-- ---- the marks cleared first
pub first-slots : (s : List ℕ) (q : ℕ) (t : Tables) (n : ℕ) → Good s q → q ≤ n → t ≡ first_tables s q → ForSlots t n
unfolding first_tables first_work
first-slots s q t n g l e =
    let r = room-first s q g true in
    rw e (record { chunks = r.chunks_most; slots = r.slots_most; shared = omega arith; inits = omega arith; words = omega (arith, r.words) })

pub anew : (s ws u v : List ℕ) (q : ℕ) (t : Tables) → Good s q → q ≤ length ws → t ≡ first_tables s q → u ≡ unmarked_words t t.slots ws
    → v ≡ walked_words s q true u → Indexed s v × Refilled s ws v
unfolding walked_words
anew s ws u v q t g l e f x = rw (x, f, e) (index-anew s ws q g l, refilled s ws q g l)
