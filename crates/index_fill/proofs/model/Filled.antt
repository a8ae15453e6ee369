-- The walk over the fields of a description of good form leaves its index, and fresh slots where their words are 0.
use Prim.Native.Nat.{ℕ, zero, suc, ◌+◌, ◌*◌, ◌-◌, ◌/◌, ◌%◌, ◌<◌, ◌≤◌}
use mathlib.Core.Path.{◌≡◌, refl, sym, ap, ◌∙◌}
use mathlib.Core.Bool.{Bool, true, false, not, cond}
use mathlib.Core.List.{List, [], ◌∷◌, map}
use native.Mathlib.Omega.{arith}
use lib.Dec.{eqb, leb}
use lib.ListN.{length, get_or, length-map, get_or-replicate}
use Rattle.masks.specs.declared.Mask.{Mask}
use Rattle.masks.specs.Mask.{constant}
use Rattle.masks.specs.Names.{NONE}
use Rattle.flows.specs.Flow.{no_flow}
use Rattle.le.specs.Le.{at8}
use Rattle.description.specs.Fields.{tag_at, next_at, header_of, of_tag}
use Rattle.words.specs.Layout.{Storable, encode, cell_at}
use Rattle.words.proofs.Laws.{holds-cell}
use Rattle.definition.specs.Module.{Module, flag, chunks_from, init_of, module_from, module_of}
use Rattle.definition.specs.Data.{is_body}
use Rattle.definition.specs.Leaves.{streams}
use Rattle.definition.specs.Start.{has_site, init_mask}
use Rattle.form_laws.specs.Good.{Good, chunk_no}
use Rattle.layout.specs.Layout.{area_of, numbers_at, slot_at, input_at, rows_at, row_at, row_field, word_at, head_words}
use Rattle.layout.specs.Indexed.{bit, tables_of, chunk_place, suspends_at, NumbersHold, Indexed, fresh_slot, Fresh}
use Rattle.layout.specs.declared.Tables.{Tables}
use Rattle.index_fill.specs.declared.model.FillState.{FillState}
use Rattle.index_fill.specs.model.Model.{slot_of, first_tables, first_work, tables_after, code_work, words_after, words_from, tables_from}
use Rattle.index_fill.proofs.model.Keep.{inner, keeps}
use Rattle.index_fill.proofs.model.AtWork.{FillReady, length-after}
use Rattle.index_fill.proofs.model.Chunks.{ChunkHolds, moved, EachHolds, each}
use Rattle.index_fill.proofs.model.Orderly.{linked, marks-hold}
use Rattle.index_fill.proofs.model.Slots.{inits_in, init_word, mark_if, marked, inited}
use Rattle.index_fill.proofs.model.Counts.{counted, tables-are}
use Rattle.index_fill.proofs.model.Begin.{fields_of, module-is, places-are, natives-are, shared-are, ordered-rest, chunks-are, room-first}

pub length_from : (s ps : List ℕ) (t : Tables) (w : FillState) (ws : List ℕ) → length (words_from s ps t w ws) ≡ length ws
unfolding words_from
length_from s [] t w ws = refl
length_from s (p ∷ ps) t w ws =
    length_from s ps (tables_after (tag_at s p) s p t) (code_work (tag_at s p) s p t w) (words_after s p t w ws) ∙ length-after s p t w ws

-- ---- masks of initializers
smaller : (b : Bool) (m n : Mask) → m.bits < 65536 → n.bits < 65536 → (cond b m n).bits < 65536
smaller true m n x y = x
smaller false m n x y = y

constant-small : (place : ℕ) (truth : Bool) → (constant place truth).bits < 65536
unfolding constant
constant-small place truth =
    smaller (eqb place 0) _ _ (omega arith)
    (smaller (eqb place 1) _ _ (smaller truth _ _ (omega arith) (omega arith))
    (smaller (eqb place 2) _ _ (omega arith)
    (smaller (eqb place 3) _ _ (omega arith)
    (smaller (eqb place 4) _ _ (omega arith)
    (smaller (eqb place 5) _ _ (omega arith)
    (smaller (eqb place 6) _ _ (omega arith)
    (smaller (eqb place 7) _ _ (omega arith)
    (smaller (eqb place 8) _ _ (omega arith)
    (smaller (eqb place 9) _ _ (omega arith)
    (smaller (eqb place 10) _ _ (omega arith) (omega arith)))))))))))

init-small : (s ps : List ℕ) (k : ℕ) → (get_or (map (init_of s) ps) k NONE).bits < 65536
unfolding init_of
init-small s [] k = omega arith
init-small s (p ∷ ps) zero = constant-small (at8 s (p + 3)) (flag (at8 s (p + 4)))
init-small s (p ∷ ps) (suc k) = init-small s ps k

init-bits : (s ps : List ℕ) (k : ℕ) → get_or (map (λ p. (init_of s p).bits) ps) k 0 ≡ (get_or (map (init_of s) ps) k NONE).bits
init-bits s [] k = refl
init-bits s (p ∷ ps) zero = refl
init-bits s (p ∷ ps) (suc k) = init-bits s ps k

-- the word of a slot's mask
init-word : (s ps : List ℕ) (m : Module) (b k : ℕ) → length m.shared ≡ b → m.inits ≡ map (init_of s) (of_tag 8 s ps)
    → init_word (inits_in s ps) b k 0 ≡ (init_mask m k).bits
unfolding init_mask
init-word s ps m b k e f = rw (e, f) (go (leb b k))
  where
    go : (x : Bool) → cond x (get_or (inits_in s ps) (k - b) 0) 0 ≡ (cond x (get_or (map (init_of s) (of_tag 8 s ps)) (k - b) NONE) NONE).bits
    go true = init-bits s (of_tag 8 s ps) (k - b)
    go false = refl

mask-small : (s ps : List ℕ) (m : Module) (k : ℕ) → m.inits ≡ map (init_of s) (of_tag 8 s ps) → (init_mask m k).bits < 65536
unfolding init_mask
mask-small s ps m k f = rw f (smaller (leb (length m.shared) k) _ _ (init-small s (of_tag 8 s ps) (k - length m.shared)) (omega arith))

-- ---- a fresh slot: its mask's word, and then 0
fresh-words : (m : Mask) (k : ℕ) → 0 < k → k < 15 → get_or (encode (fresh_slot m)) k 0 ≡ 0
unfolding encode no_flow
fresh-words m zero a h = absurd (omega arith)
fresh-words m (suc k) a h = get_or-replicate 15 k 0 0 (omega arith)

fresh-fit : (m : Mask) → m.bits < 65536 → Storable (fresh_slot m)
unfolding no_flow
fresh-fit m h = record { mask = h; four = refl; origin = omega arith; receiver = omega arith }

fresh-first : (m : Mask) → get_or (encode (fresh_slot m)) 0 0 ≡ m.bits
unfolding encode no_flow
fresh-first m = omega arith

pub fresh-slot : (ws : List ℕ) (a : ℕ) (m : Mask) → m.bits < 65536 → get_or ws a 0 ≡ m.bits → ((k : ℕ) → 0 < k → k < 15 → get_or ws (a + k) 0 ≡ 0)
    → cell_at ws a ≡ fresh_slot m
fresh-slot ws a m s f z = holds-cell ws a (fresh_slot m) (fresh-fit m s) (record { word = go })
  where
    go : (k : ℕ) → k < 15 → get_or ws (a + k) 0 ≡ get_or (encode (fresh_slot m)) k 0
    go zero h =
        let e : a + zero ≡ a = omega arith in
        ap (λ (i : ℕ). get_or ws i 0) e ∙ f ∙ sym (fresh-first m)
    go (suc k) h = z (suc k) (omega arith) h ∙ sym (fresh-words m (suc k) (omega arith) h)

module _ (s ws : List ℕ) (q : ℕ) (keep : Bool) (g : Good s q) (room : q ≤ length ws) where
  abbrev first : Tables
  first = first_tables s q

  abbrev last : List ℕ
  last = words_from s (fields_of s) (first_tables s q) (first_work (first_tables s q) keep) ws

  pub ready-first : FillReady s (fields_of s) (first_tables s q) (first_work (first_tables s q) keep) ws q
  ready-first = record { room = room-first s q g keep; long = room }

  chunk-holds : (k : ℕ) → k < length (module_of s).chunks
      → ChunkHolds last k (16 * area_of (module_of s) k) (module_of s).entry (chunk_no (module_of s) k) (chunk_place s k) (has_site (chunk_no (module_of s) k).code)
  unfolding EachHolds area_of chunk_no chunk_place module_from first_tables first_work
  chunk-holds k h =
      let l = rw (module-is s q g) at h in
      let cs = chunks_from s (header_of s 0).signatures 0 (fields_of s) in
      let c = chunks-are s q g in
      rw (module-is s q g, places-are s q g, ← marks-hold s 1 (next_at s 0) (fields_of s) (linked s (next_at s 0)) (ordered-rest s q g) (header_of s 0).signatures 0 k)
      (moved last (0 + k) k _ _ _ _ _ _ (omega arith) (omega arith) (each s (fields_of s) first (first_work first keep) ws q ready-first k l))

  numbers-hold : (k : ℕ) → k < length (module_of s).chunks → NumbersHold s last k
  unfolding rows_at input_at
  numbers-hold k h =
      let x = chunk-holds k h in
      let e : numbers_at k ≡ numbers_at k + word_at = omega arith in
      let z : 16 * area_of (module_of s) k ≡ 16 * area_of (module_of s) k + 16 * 0 = omega arith in
      record {
        at = ap (λ (a : ℕ). get_or last a 0) e ∙ x.at;
        rows = x.rows;
        count = x.count;
        locals = x.locals;
        stack = x.stack;
        reachable = x.reachable;
        inputs = x.inputs ∙ z;
        params = x.params;
        streams = x.streams;
      }

  fields-hold : (n i : ℕ) → n < length (module_of s).chunks → i < length (chunk_no (module_of s) n).code
      → get_or last (row_at (module_of s) n i + row_field) 0 ≡ get_or (chunk_place s n).code i 0
  unfolding row_at rows_at
  fields-hold n i h l = (chunk-holds n h).fields i l

  pub suspends-hold : (n : ℕ) → n < length (module_of s).chunks → suspends_at last n ≡ has_site (chunk_no (module_of s) n).code
  unfolding suspends_at
  suspends-hold n h = rw (chunk-holds n h).site (go (has_site (chunk_no (module_of s) n).code))
    where
      go : (b : Bool) → not (eqb (bit b) 0) ≡ b
      go true = refl
      go false = refl

  -- ---- the slots
  pub slots-are : (n : ℕ) → slot_at (module_of s) n ≡ slot_of first n
  unfolding slot_at first_tables
  slots-are n = rw g.chunks

  pub slot_is : (n : ℕ) → n < (module_of s).slots → n < first.slots
  unfolding first_tables module_from
  slot_is n h = rw (module-is s q g) at h

  mark-word : (n : ℕ) → n < (module_of s).slots → get_or last (slot_at (module_of s) n + 15) 0 ≡ mark_if (is_body (module_of s) n) (get_or ws (slot_at (module_of s) n + 15) 0)
  unfolding is_body module_from
  mark-word n h = rw (slots-are n, module-is s q g) (marked s (fields_of s) first (first_work first keep) ws q ready-first n (slot_is n h))

  marks-are : (n : ℕ) → n < (module_of s).slots → get_or ws (slot_at (module_of s) n + 15) 0 < 65536
      → get_or last (slot_at (module_of s) n + 15) 0 / 65536 ≡ bit (is_body (module_of s) n)
  marks-are n h low = rw (mark-word n h) (go (is_body (module_of s) n))
    where
      go : (b : Bool) → mark_if b (get_or ws (slot_at (module_of s) n + 15) 0) / 65536 ≡ bit b
      go true = omega arith
      go false = omega arith

  -- the writes of a round stay
  pub writes-stay : (n : ℕ) → n < (module_of s).slots → get_or last (slot_at (module_of s) n + 15) 0 % 65536 ≡ get_or ws (slot_at (module_of s) n + 15) 0 % 65536
  writes-stay n h = rw (mark-word n h) (go (is_body (module_of s) n))
    where
      go : (b : Bool) → mark_if b (get_or ws (slot_at (module_of s) n + 15) 0) % 65536 ≡ get_or ws (slot_at (module_of s) n + 15) 0 % 65536
      go true = omega arith
      go false = refl

  -- ---- the tables
  pub tables-hold : tables_from s (fields_of s) (first_tables s q) ≡ tables_of s
  unfolding counted tables_of first_tables module_from is_body
  tables-hold =
      let natives : 0 + length (of_tag 5 s (fields_of s)) ≡ length (module_of s).natives = rw (module-is s q g, length-map) (omega arith) in
      let shared : 0 + length (of_tag 6 s (fields_of s)) ≡ length (module_of s).shared = rw (module-is s q g, length-map) (omega arith) in
      let inits : 0 + length (of_tag 8 s (fields_of s)) ≡ length (module_of s).inits = rw (module-is s q g, length-map) (omega arith) in
      let m = module-is s q g in
      tables-are s (fields_of s) (first_tables s q)
      ∙ (λ i.
      record {
        chunks = sym g.chunks i;
        signatures = (sym m i).signatures;
        entry = (sym m i).entry;
        slots = (sym m i).slots;
        float = (sym m i).float;
        handle = (sym m i).handle;
        owns = (sym m i).owns;
        layout = (sym m i).layout;
        natives_at = get_or (sym (natives-are s q g) i) 0 0;
        natives = natives i;
        shared_at = get_or (sym (shared-are s q g) i) 0 0;
        shared = shared i;
        inits = inits i;
        past_placed = is_body (sym m i) (sym m i).slots;
        queue_at = g.words i;
      })

  -- the index, where no slot is marked before the walk
  pub index-holds : ((n : ℕ) → n < (module_of s).slots → get_or ws (slot_at (module_of s) n + 15) 0 < 65536) → Indexed s last
  index-holds low =
      record {
        good = rw g.words at g;
        room = omega (arith, length_from s (fields_of s) first (first_work first keep) ws, g.words);
        numbers = numbers-hold;
        fields = fields-hold;
        marks = λ n h. marks-are n h (low n h);
      }

-- ---- the slots, where their words are 0 before the walk
module _ (s ws : List ℕ) (q : ℕ) (g : Good s q) (room : q ≤ length ws) (zeros : (k : ℕ) → k < head_words + 16 * ((header_of s 0).chunks + (header_of s 0).slots) → get_or ws k 0 ≡ 0) where
  abbrev begin : Tables
  begin = first_tables s q

  abbrev end : List ℕ
  end = words_from s (fields_of s) (first_tables s q) (first_work (first_tables s q) false) ws

  none_yet : (n j : ℕ) → n < begin.slots → j < 16 → get_or ws (slot_of begin n + j) 0 ≡ 0
  unfolding first_tables
  none_yet n j h l = zeros (slot_of begin n + j) (omega arith)

  no-mark : (n : ℕ) → n < (module_of s).slots → get_or ws (slot_at (module_of s) n + 15) 0 ≡ 0
  no-mark n h = rw (slots-are s ws q false g room n) (none_yet n 15 (slot_is s ws q false g room n h) (omega arith))

  inits-are : (module_of s).inits ≡ map (init_of s) (of_tag 8 s (fields_of s))
  unfolding module_from
  inits-are = rw (module-is s q g)

  shared_long : length (module_of s).shared ≡ length (of_tag 6 s (fields_of s))
  unfolding module_from
  shared_long = rw (module-is s q g, length-map)

  slots-fresh : (n : ℕ) → n < (module_of s).slots → cell_at end (slot_at (module_of s) n) ≡ fresh_slot (init_mask (module_of s) n)
  unfolding first_tables first_work
  slots-fresh n h =
      let l = slot_is s ws q false g room n h in
      let z = none_yet n in
      let e : slot_of begin n + 0 ≡ slot_of begin n = omega arith in
      let r = ready-first s ws q false g room in
      rw (slots-are s ws q false g room n)
      (fresh-slot end (slot_of begin n) (init_mask (module_of s) n) (mask-small s (fields_of s) (module_of s) n inits-are)
      (inited s (fields_of s) begin (first_work begin false) ws q r refl 1 (ordered-rest s q g) n l (length (of_tag 6 s (fields_of s))) (omega arith)
      ∙ ap (init_word (inits_in s (fields_of s)) (length (of_tag 6 s (fields_of s))) n) (ap (λ (a : ℕ). get_or ws a 0) (sym e) ∙ z 0 l (omega arith))
      ∙ init-word s (fields_of s) (module_of s) (length (of_tag 6 s (fields_of s))) n shared_long inits-are)
      (λ k a b. keeps s (fields_of s) begin (first_work begin false) ws q r.room (slot_of begin n + k) (inner n k l (λ f. a) b refl) ∙ z k l (omega arith)))

  pub fresh-index : Indexed s end
  fresh-index = index-holds s ws q false g room (λ n h. omega (arith, no-mark n h))

  pub all-fresh : Fresh s end
  all-fresh =
      record {
        suspends = suspends-hold s ws q false g room;
        slots = slots-fresh;
        unwritten = λ n h. omega (arith, writes-stay s ws q false g room n h, no-mark n h);
      }
