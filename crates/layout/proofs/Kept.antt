-- Writes that keep the index: v has the index words of ws. A write to words that are none of the index's does, and nearly every write of the run
-- is one: to the reply, a slot, an input, a result, a stack place or local of a row, a row's height, the queue. The other two are the last word
-- of a slot, whose mark stays, and the word that says whether a chunk suspends.
use Prim.Native.Nat.{ℕ, ◌+◌, ◌*◌, ◌/◌, ◌<◌, ◌≤◌}
use mathlib.Core.Path.{◌≡◌, refl, sym, ap, ◌∙◌}
use mathlib.Core.Bool.{Bool, true, false, not}
use mathlib.Core.List.{List}
use mathlib.Core.Logic.{◌⊎◌, inl, inr}
use native.Mathlib.Omega.{arith}
use borrow.Author.Tests.{ltb-true, ltb-false}
use lib.Dec.{eqb, ltb}
use lib.ListN.{length, get_or, set, length-set}
use lib.Seq.{get_or-set_other}
use Rattle.cells.specs.declared.Cell.{Cell}
use Rattle.ring.specs.declared.Queue.{Queue}
use Rattle.words.specs.Layout.{put_cell}
use Rattle.words.proofs.Laws.{length-put_cell, put_cell-out}
use Rattle.ring.specs.Ring.{pushed}
use Rattle.definition.specs.Module.{Module, module_of}
use Rattle.form_laws.specs.Good.{chunk_no, row_cells, words_of}
use Rattle.layout.specs.Layout.{area_cells, area_of, numbers_at, slot_at, rows_at, row_at, row_field, word_at, word_suspends}
use Rattle.layout.specs.Indexed.{Indexed, NumbersHold, suspends_at, chunk_at}
use Rattle.layout.specs.Kept.{Kept, Steady}
use Rattle.layout.proofs.Apart.{by_order, row_before, area-apart, areas-behind, slots-first, numbers-in, slots-in, rows-begin, row-begins, row_apart, row-in-area, row_in, rows-in-area, slots-behind}

-- ---- what is kept
numbers_keep : (s ws v : List ℕ) (n : ℕ) → n < length (module_of s).chunks → Kept (module_of s) ws v → NumbersHold s ws n → NumbersHold s v n
numbers_keep s ws v n h k x =
    record {
      at = let z : numbers_at n ≡ numbers_at n + word_at = omega arith in ap (λ (j : ℕ). get_or v j 0) z ∙ word 0 (omega arith) (λ e. omega arith) ∙ ap (λ (j : ℕ). get_or ws j 0) (sym z) ∙ x.at;
      rows = word 1 (omega arith) (λ e. omega arith) ∙ x.rows;
      count = word 2 (omega arith) (λ e. omega arith) ∙ x.count;
      locals = word 3 (omega arith) (λ e. omega arith) ∙ x.locals;
      stack = word 4 (omega arith) (λ e. omega arith) ∙ x.stack;
      reachable = word 5 (omega arith) (λ e. omega arith) ∙ x.reachable;
      inputs = word 7 (omega arith) (λ e. omega arith) ∙ x.inputs;
      params = word 8 (omega arith) (λ e. omega arith) ∙ x.params;
      streams = word 9 (omega arith) (λ e. omega arith) ∙ x.streams;
    }
  where
    word : (j : ℕ) → j < 10 → (j ≡ 6 → ⊥) → get_or v (numbers_at n + j) 0 ≡ get_or ws (numbers_at n + j) 0
    word j l d = k.numbers n j h l d

pub indexed-keep : (s ws v : List ℕ) → Kept (module_of s) ws v → Indexed s ws → Indexed s v
indexed-keep s ws v k x =
    record {
      good = x.good;
      room = omega (arith, x.room, k.long);
      numbers = λ n h. numbers_keep s ws v n h k (x.numbers n h);
      fields = λ n i h l. k.fields n i h l ∙ x.fields n i h l;
      marks = λ n h. k.marks n h ∙ x.marks n h;
    }

pub indexed-steady : (s ws v : List ℕ) → Steady (module_of s) ws v → Indexed s ws → Indexed s v
indexed-steady s ws v k x = indexed-keep s ws v k.kept x

pub suspends-steady : (s ws v : List ℕ) (n : ℕ) → Steady (module_of s) ws v → n < length (module_of s).chunks → suspends_at v n ≡ suspends_at ws n
unfolding suspends_at
suspends-steady s ws v n k h = ap (λ (w : ℕ). not (eqb w 0)) (k.suspends n h)

-- a chunk's numbers stay
pub chunk-steady : (s ws v : List ℕ) (n : ℕ) → Steady (module_of s) ws v → n < length (module_of s).chunks → chunk_at s v n ≡ chunk_at s ws n
unfolding chunk_at
chunk-steady s ws v n k h = rw (suspends-steady s ws v n k h)

pub kept_trans : (m : Module) (ws v u : List ℕ) → Kept m ws v → Kept m v u → Kept m ws u
kept_trans m ws v u a b =
    record {
      long = b.long ∙ a.long;
      numbers = λ n k h l d. b.numbers n k h l d ∙ a.numbers n k h l d;
      fields = λ n i h l. b.fields n i h l ∙ a.fields n i h l;
      marks = λ n h. b.marks n h ∙ a.marks n h;
    }

pub steady-refl : (m : Module) (ws : List ℕ) → Steady m ws ws
steady-refl m ws =
    record {
      kept = record { long = refl; numbers = λ n k h l d. refl; fields = λ n i h l. refl; marks = λ n h. refl };
      suspends = λ n h. refl;
    }

pub steady-trans : (m : Module) (ws v u : List ℕ) → Steady m ws v → Steady m v u → Steady m ws u
steady-trans m ws v u a b =
    record { kept = kept_trans m ws v u a.kept b.kept; suspends = λ n h. b.suspends n h ∙ a.suspends n h }

-- ---- words that are none of the index's: len words from at on
pub record Free (m : Module) (at len : ℕ) : Type 0 where
  pub numbers : (n k : ℕ) → n < length m.chunks → k < 10 → at ≤ numbers_at n + k → numbers_at n + k < at + len → ⊥
  pub fields : (n i : ℕ) → n < length m.chunks → i < length (chunk_no m n).code → at ≤ row_at m n i + row_field → row_at m n i + row_field < at + len → ⊥
  pub marks : (n : ℕ) → n < m.slots → at ≤ slot_at m n + 15 → slot_at m n + 15 < at + len → ⊥

outside : (at len j : ℕ) → (at ≤ j → j < at + len → ⊥) → (j < at) ⊎ (at + len ≤ j)
outside at len j d = go (ltb j at) (ltb j (at + len)) refl refl
  where
    go : (a b : Bool) → ltb j at ≡ a → ltb j (at + len) ≡ b → (j < at) ⊎ (at + len ≤ j)
    go true b p q = inl (ltb-true j at p)
    go false true p q = absurd (d (ltb-false j at p) (ltb-true j (at + len) q))
    go false false p q = inr (ltb-false j (at + len) q)

-- a write to free words is steady
pub steady-free : (m : Module) (at len : ℕ) (ws v : List ℕ) → Free m at len → length v ≡ length ws
    → ((j : ℕ) → (j < at) ⊎ (at + len ≤ j) → get_or v j 0 ≡ get_or ws j 0) → Steady m ws v
steady-free m at len ws v f e same =
    record {
      kept =
          record {
            long = e;
            numbers = λ n k h l d. same (numbers_at n + k) (outside at len _ (f.numbers n k h l));
            fields = λ n i h l. same (row_at m n i + row_field) (outside at len _ (f.fields n i h l));
            marks = λ n h. ap (λ (w : ℕ). w / 65536) (same (slot_at m n + 15) (outside at len _ (f.marks n h)));
          };
      suspends = λ n h. same (numbers_at n + word_suspends) (outside at len _ (f.numbers n 6 h (omega arith)));
    }

-- ---- which words are free
-- before the chunks' numbers, and behind W
pub front-free : (m : Module) (at len : ℕ) → at + len ≤ 64 → Free m at len
front-free m at len h =
    record {
      numbers = λ n k l j a b. omega arith;
      fields = λ n i l j a b. omega (arith, areas-behind m n, row-begins m n i);
      marks = λ n l a b. omega (arith, slots-behind m n);
    }

pub queue-free : (m : Module) (at len : ℕ) → words_of m ≤ at → Free m at len
queue-free m at len h =
    record {
      numbers = λ n k l j a b. omega (arith, numbers-in m n l);
      fields = λ n i l j a b. omega (arith, row_in m n i l j);
      marks = λ n l a b. omega (arith, slots-in m n l);
    }

-- in the area of the chunk k, apart from the second word of each of its rows
in_area : (m : Module) (k at len : ℕ) → k < length m.chunks → 16 * area_of m k ≤ at → at + len ≤ 16 * (area_of m k + area_cells (chunk_no m k))
    → ((i : ℕ) → i < length (chunk_no m k).code → at ≤ row_at m k i + row_field → row_at m k i + row_field < at + len → ⊥) → Free m at len
in_area m k at len h below above apart =
    record {
      numbers = λ n j l i a b. omega (arith, areas-behind m k);
      fields =
          λ n i l j a b. by_order n k
          (λ o. omega (arith, row_before m n i k j o (omega arith)))
          (λ e. apart i (rw e at j) (rw e at a) (rw e at b))
          (λ o. omega (arith, area-apart m k n o (omega arith), row-begins m n i));
      marks = λ n l a b. omega (arith, slots-first m n k l);
    }

-- the inputs and the result of a chunk
pub facts-free : (m : Module) (k at len : ℕ) → k < length m.chunks → 16 * area_of m k ≤ at → at + len ≤ rows_at m k → Free m at len
facts-free m k at len h below above =
    in_area m k at len h below (omega (arith, rows-in-area m k)) (λ i l a b. omega (arith, rows-begin m k i))

-- the row of the instruction j of the chunk k, before or behind its second word
pub row-free : (m : Module) (k j at len : ℕ) → k < length m.chunks → j < length (chunk_no m k).code → row_at m k j ≤ at
    → at + len ≤ row_at m k j + 16 * row_cells (chunk_no m k) → (at + len ≤ row_at m k j + row_field) ⊎ (row_at m k j + 2 ≤ at) → Free m at len
row-free m k j at len h l below above side =
    in_area m k at len h (omega (arith, row-begins m k j)) (omega (arith, row-in-area m k j l))
    (λ i o a b. by_order i j
    (λ q. omega (arith, row_apart m k i j q))
    (λ e. same side (rw e at a) (rw e at b))
    (λ q. omega (arith, row_apart m k j i q)))
  where
    same : (at + len ≤ row_at m k j + row_field) ⊎ (row_at m k j + 2 ≤ at) → at ≤ row_at m k j + row_field → row_at m k j + row_field < at + len → ⊥
    same (inl q) a b = omega arith
    same (inr q) a b = omega arith

-- ---- the cells of the run, and the height of a row
pub reply-free : (m : Module) → Free m 0 15
reply-free m = front-free m 0 15 (omega arith)

-- ---- the writes
pub steady-put : (m : Module) (ws : List ℕ) (at : ℕ) (c : Cell) → Free m at 15 → Steady m ws (put_cell ws at c)
steady-put m ws at c f = steady-free m at 15 ws (put_cell ws at c) f (length-put_cell ws at c) (λ j o. put_cell-out ws at c j o)

pub steady-set : (m : Module) (ws : List ℕ) (at x : ℕ) → Free m at 1 → Steady m ws (set ws at x)
steady-set m ws at x f = steady-free m at 1 ws (set ws at x) f (length-set ws at x) other
  where
    other : (j : ℕ) → (j < at) ⊎ (at + 1 ≤ j) → get_or (set ws at x) j 0 ≡ get_or ws j 0
    other j (inl o) = get_or-set_other ws at j x 0 (λ e. omega arith)
    other j (inr o) = get_or-set_other ws at j x 0 (λ e. omega arith)

pub steady-push : (m : Module) (ws : List ℕ) (base : ℕ) (q : Queue) (x : ℕ) → words_of m ≤ base → Steady m ws (pushed ws base q x)
unfolding pushed
steady-push m ws base q x h = steady-set m ws _ x (queue-free m _ 1 (omega arith))

-- a chunk is found to suspend
pub kept-suspends : (m : Module) (ws : List ℕ) (c x : ℕ) → c < length m.chunks → Kept m ws (set ws (numbers_at c + word_suspends) x)
kept-suspends m ws c x h =
    record {
      long = length-set ws at x;
      numbers = λ n k l o d. other (numbers_at n + k) (λ e. d (omega arith));
      fields = λ n i l o. other (row_at m n i + row_field) (λ e. omega (arith, areas-behind m n, row-begins m n i));
      marks = λ n l. ap (λ (w : ℕ). w / 65536) (other (slot_at m n + 15) (λ e. omega (arith, slots-behind m n)));
    }
  where
    at : ℕ
    at = numbers_at c + word_suspends

    other : (j : ℕ) → (j ≡ at → ⊥) → get_or (set ws at x) j 0 ≡ get_or ws j 0
    other j d = get_or-set_other ws at j x 0 d

-- ---- the index after a write
module _ (s ws : List ℕ) (x : Indexed s ws) where
  pub indexed-put : (at : ℕ) (c : Cell) → Free (module_of s) at 15 → Indexed s (put_cell ws at c)
  indexed-put at c f = indexed-steady s ws (put_cell ws at c) (steady-put (module_of s) ws at c f) x
