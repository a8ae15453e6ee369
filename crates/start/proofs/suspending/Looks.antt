-- A look at the chunks, one by one, and the looks one after the other.
use Prim.Native.Nat.{ℕ, zero, suc, ◌+◌, ◌<◌, ◌≤◌}
use native.Mathlib.Omega.{arith}
use native.Mathlib.Numerals.{add-one}
use mathlib.Core.Path.{◌≡◌, refl, sym, ap, ◌∙◌}
use mathlib.Core.Bool.{Bool, true, false, not, ◌&&◌, ◌||◌, true≢false}
use mathlib.Core.List.{List}
use lib.Dec.{eqb}
use lib.ListN.{length, get_or, set, drop, drop_of_length-le}
use lib.Seq.{drop-cons, set-get_or, get_or-set_same, get_or-set_other}
use Rattle.words.proofs.RowLaws.{outside_refl, outside_trans, outside_set, outside-widen}
use Rattle.description.specs.declared.Instr.{Instr}
use Rattle.definition.specs.Module.{Module, Chunk, module_of}
use Rattle.definition.specs.Leaves.{no_line, line_at}
use Rattle.definition.specs.Start.{calls_one, suspend_more, suspend_loop}
use Rattle.form_laws.proofs.Each.{row-at}
use Rattle.form_laws.specs.Good.{no_chunk, chunk_no}
use Rattle.layout.specs.declared.Chunk.{Chunk as ChunkNumbers}
use Rattle.layout.specs.Layout.{numbers_at, word_suspends}
use Rattle.layout.specs.Indexed.{Indexed, suspends_at, chunk_at}
use Rattle.layout.proofs.Apart.{numbers-in}
use Rattle.layout.proofs.Read.{count-is}
use Rattle.layout.proofs.Kept.{indexed-keep, kept_trans, kept-suspends, steady-refl}
use Rattle.run_state.proofs.Rows.{row-set}
use Rattle.masks.proofs.Both.{neither}
use Rattle.rule_laws.proofs.Told.{call-callee}
use Rattle.start.specs.suspending.Suspending.{suspends_in, look_at, NumbersOnly, Looked}
use Rattle.ops.specs.Numbers.{op_call}

-- ---- what is marked
pub marked-refl : (s ws : List ℕ) → NumbersOnly s ws ws
marked-refl s ws = record { kept = (steady-refl (module_of s) ws).kept; outside = outside_refl 64 _ ws }

pub marked-trans : (s ws v u : List ℕ) → NumbersOnly s ws v → NumbersOnly s v u → NumbersOnly s ws u
marked-trans s ws v u a b =
    record { kept = kept_trans (module_of s) ws v u a.kept b.kept; outside = outside_trans a.outside b.outside }

pub marked-indexed : (s ws v : List ℕ) → NumbersOnly s ws v → Indexed s ws → Indexed s v
marked-indexed s ws v a x = indexed-keep s ws v a.kept x

pub suspends-at : (s ws : List ℕ) (n : ℕ) → n < length (module_of s).chunks → get_or (suspends_in s ws) n false ≡ suspends_at ws n
suspends-at s ws n h =
    let z : 0 + n ≡ n = omega arith in
    row-at (suspends_at ws) false 0 (length (module_of s).chunks) n h ∙ ap (suspends_at ws) z

-- the number of a chunk says whether it suspends
pub suspends-is : (s ws : List ℕ) (n : ℕ) (ch : ChunkNumbers) → n < length (module_of s).chunks → ch ≡ chunk_at s ws n → ch.suspends ≡ get_or (suspends_in s ws) n false
unfolding chunk_at
suspends-is s ws n ch h e = ap (λ (c : ChunkNumbers). c.suspends) e ∙ sym (suspends-at s ws n h)

-- ---- the calls of a chunk
pub callee-there : (s ws : List ℕ) (c i : ℕ) (ch : ChunkNumbers) (ins : Instr) → Indexed s ws → c < length (module_of s).chunks → ch ≡ chunk_at s ws c → i < ch.count
    → ins ≡ (line_at (chunk_no (module_of s) c) i).instr → ins.op ≡ op_call → ins.a < length (module_of s).chunks
callee-there s ws c i ch ins x h e l q o =
    let line = (x.good.each_chunk c h).lines i (omega (arith, count-is s ws c ch e)) in
    let op : (line_at (chunk_no (module_of s) c) i).instr.op ≡ op_call = ap (λ (y : Instr). y.op) (sym q) ∙ o in
    omega (arith, line.callee (call-callee _ op), x.good.signatures, ap (λ (y : Instr). y.a) q)

module _ (s ws : List ℕ) (c i : ℕ) (ch : ChunkNumbers) (e : ch ≡ chunk_at s ws c) (l : i < ch.count) (ss : List Bool) (ins : Instr) (q : ins ≡ (line_at (chunk_no (module_of s) c) i).instr)
    (b : Bool) (a : b ≡ (eqb ins.op op_call && get_or ss ins.a false)) where
  calls-turn : calls_one ss (drop i (chunk_no (module_of s) c).code) ≡ b || calls_one ss (drop (i + 1) (chunk_no (module_of s) c).code)
  unfolding calls_one line_at
  calls-turn =
      let h : i < length (chunk_no (module_of s) c).code = omega (arith, count-is s ws c ch e) in
      rw (add-one i, drop-cons (chunk_no (module_of s) c).code i no_line h, a, q)

  pub calls-next : b ≡ false → calls_one ss (drop i (chunk_no (module_of s) c).code) ≡ calls_one ss (chunk_no (module_of s) c).code
      → calls_one ss (drop (i + 1) (chunk_no (module_of s) c).code) ≡ calls_one ss (chunk_no (module_of s) c).code
  calls-next z so = sym (calls-turn ∙ ap (λ (x : Bool). x || calls_one ss (drop (i + 1) (chunk_no (module_of s) c).code)) z) ∙ so

  pub calls-stop : b ≡ true → calls_one ss (drop i (chunk_no (module_of s) c).code) ≡ calls_one ss (chunk_no (module_of s) c).code
      → true ≡ calls_one ss (chunk_no (module_of s) c).code
  calls-stop z so = sym (calls-turn ∙ ap (λ (x : Bool). x || calls_one ss (drop (i + 1) (chunk_no (module_of s) c).code)) z) ∙ so

pub calls-end : (s ws : List ℕ) (c i : ℕ) (ch : ChunkNumbers) → ch ≡ chunk_at s ws c → ch.count ≤ i → (ss : List Bool)
    → calls_one ss (drop i (chunk_no (module_of s) c).code) ≡ calls_one ss (chunk_no (module_of s) c).code → false ≡ calls_one ss (chunk_no (module_of s) c).code
unfolding calls_one
calls-end s ws c i ch e l ss so =
    let h : length (chunk_no (module_of s) c).code ≤ i = omega (arith, count-is s ws c ch e) in
    sym (ap (calls_one ss) (drop_of_length-le (chunk_no (module_of s) c).code h)) ∙ so

-- ---- the look at one chunk
-- nothing is found
look-same : (s ws : List ℕ) (c : ℕ) (d : Bool) → (get_or (suspends_in s ws) c false || d) ≡ get_or (suspends_in s ws) c false
    → Looked s ws ws (set (suspends_in s ws) c (get_or (suspends_in s ws) c false || d)) false
look-same s ws c d e =
    record {
      marked = marked-refl s ws;
      suspends = sym (ap (set (suspends_in s ws) c) e ∙ set-get_or (suspends_in s ws) c false);
      same = λ z. refl;
    }

module _ (s ws : List ℕ) (x : Indexed s ws) (c : ℕ) (h : c < length (module_of s).chunks) (ch : ChunkNumbers) (e : ch ≡ chunk_at s ws c) where
  pub look_known : ch.suspends ≡ true → Looked s ws ws (look_at s ws c) false
  look_known t =
      let q : get_or (suspends_in s ws) c false ≡ true = sym (suspends-is s ws c ch h e) ∙ t in
      look-same s ws c _ (rw q)

  module _ (f : ch.suspends ≡ false) (b : Bool) (a : b ≡ calls_one (suspends_in s ws) (chunk_no (module_of s) c).code) where
    or-calls : (get_or (suspends_in s ws) c false || calls_one (suspends_in s ws) (chunk_no (module_of s) c).code) ≡ b
    or-calls = ap (λ (y : Bool). y || calls_one (suspends_in s ws) (chunk_no (module_of s) c).code) (sym (suspends-is s ws c ch h e) ∙ f) ∙ sym a

    pub look_none : b ≡ false → Looked s ws ws (look_at s ws c) false
    look_none n = look-same s ws c _ (or-calls ∙ n ∙ sym f ∙ suspends-is s ws c ch h e)

    pub look-found : b ≡ true → Looked s ws (set ws (numbers_at c + word_suspends) 1) (look_at s ws c) true
    unfolding suspends_at
    look-found t =
        record {
          marked =
              record {
                kept = kept-suspends (module_of s) ws c 1 h;
                outside = outside-widen 64 _ (outside_set ws (numbers_at c + word_suspends) 1) (omega arith) (omega arith);
              };
          suspends =
              row-set (suspends_at ws) (suspends_at (set ws (numbers_at c + word_suspends) 1)) 0 (length (module_of s).chunks) c h other
              ∙ ap (set (suspends_in s ws) c) (here ∙ sym (or-calls ∙ t));
          same = λ z. absurd (true≢false z);
        }
      where
        other : (k : ℕ) → 0 ≤ k → k < 0 + length (module_of s).chunks → (k ≡ 0 + c → ⊥) → suspends_at (set ws (numbers_at c + word_suspends) 1) k ≡ suspends_at ws k
        other k l m n = ap (λ (w : ℕ). not (eqb w 0)) (get_or-set_other ws (numbers_at c + word_suspends) (numbers_at k + word_suspends) 1 0 (λ q. n (omega arith)))

        here : suspends_at (set ws (numbers_at c + word_suspends) 1) (0 + c) ≡ true
        here =
            let z : 0 + c ≡ c = omega arith in
            ap (suspends_at (set ws (numbers_at c + word_suspends) 1)) z
            ∙ ap (λ (w : ℕ). not (eqb w 0)) (get_or-set_same ws (numbers_at c + word_suspends) 1 0 (omega (arith, numbers-in (module_of s) c h, x.room)))

-- ---- one look at every chunk
pub record Looking (s begin ws : List ℕ) (c : ℕ) (changed : Bool) : Type 0 where
  pub below : c ≤ length (module_of s).chunks
  pub marked : NumbersOnly s begin ws
  pub rest : suspend_more (drop c (module_of s).chunks) (suspends_in s ws) ≡ suspend_more (module_of s).chunks (suspends_in s begin)
  pub same : changed ≡ false → suspends_in s ws ≡ suspends_in s begin

pub looking-first : (s ws : List ℕ) → Looking s ws ws 0 false
looking-first s ws = record { below = omega arith; marked = marked-refl s ws; rest = refl; same = λ z. refl }

more_turn : (m : Module) (c : ℕ) (ss : List Bool) → c < length m.chunks → (chunk_no m c).number ≡ c
    → suspend_more (drop c m.chunks) ss ≡ suspend_more (drop (c + 1) m.chunks) (set ss c (get_or ss c false || calls_one ss (chunk_no m c).code))
unfolding suspend_more chunk_no
more_turn m c ss h e =
    rw (add-one c, drop-cons m.chunks c no_chunk h)
    (ap (λ (n : ℕ). suspend_more (drop (suc c) m.chunks) (set ss n (get_or ss n false || calls_one ss (chunk_no m c).code))) e)

pub looking-next : (s begin ws v : List ℕ) (c : ℕ) (changed b : Bool) → Looking s begin ws c changed → Indexed s begin → c < length (module_of s).chunks
    → Looked s ws v (look_at s ws c) b → Looking s begin v (c + 1) (b || changed)
looking-next s begin ws v c changed b l x h k =
    record {
      below = omega arith;
      marked = marked-trans s begin ws v l.marked k.marked;
      rest =
          ap (suspend_more (drop (c + 1) (module_of s).chunks)) k.suspends
          ∙ sym (more_turn (module_of s) c (suspends_in s ws) h (x.good.each_chunk c h).number)
          ∙ l.rest;
      same = λ z. let (p, q) = neither b changed z in k.same p ∙ l.same q;
    }

pub looking-last : (s begin ws : List ℕ) (c : ℕ) (changed : Bool) → Looking s begin ws c changed → length (module_of s).chunks ≤ c
    → Looked s begin ws (suspend_more (module_of s).chunks (suspends_in s begin)) changed
unfolding suspend_more
looking-last s begin ws c changed l h =
    record {
      marked = l.marked;
      suspends = sym (ap (λ (cs : List Chunk). suspend_more cs (suspends_in s ws)) (drop_of_length-le (module_of s).chunks h)) ∙ l.rest;
      same = l.same;
    }

-- ---- looks one after the other
pub record Left (s begin ws : List ℕ) (left : ℕ) : Type 0 where
  pub marked : NumbersOnly s begin ws
  pub rest : suspend_loop left (module_of s).chunks (suspends_in s ws) ≡ suspend_loop (length (module_of s).chunks) (module_of s).chunks (suspends_in s begin)

pub left-first : (s ws : List ℕ) (n : ℕ) → n ≡ length (module_of s).chunks → Left s ws ws n
left-first s ws n e = record { marked = marked-refl s ws; rest = rw e }

-- a list that a look leaves is left by all
loop-still : (n : ℕ) (cs : List Chunk) (ss : List Bool) → suspend_more cs ss ≡ ss → suspend_loop n cs ss ≡ ss
unfolding suspend_loop
loop-still zero cs ss e = refl
loop-still (suc n) cs ss e = ap (suspend_loop n cs) e ∙ loop-still n cs ss e

module _ (s begin ws v : List ℕ) (left : ℕ) (l : Left s begin ws left) (b : Bool) (k : Looked s ws v (suspend_more (module_of s).chunks (suspends_in s ws)) b) where
  pub left_less : (next : ℕ) → left ≡ suc next → Left s begin v next
  unfolding suspend_loop
  left_less next e =
      record {
        marked = marked-trans s begin ws v l.marked k.marked;
        rest =
            ap (suspend_loop next (module_of s).chunks) k.suspends
            ∙ ap (λ (n : ℕ). suspend_loop n (module_of s).chunks (suspends_in s ws)) (sym e)
            ∙ l.rest;
      }

  pub left-none : b ≡ false → Left s begin v 0
  unfolding suspend_loop
  left-none z =
      record {
        marked = marked-trans s begin ws v l.marked k.marked;
        rest = k.same z ∙ sym (loop-still left (module_of s).chunks (suspends_in s ws) (sym k.suspends ∙ k.same z)) ∙ l.rest;
      }

pub left-last : (s begin ws : List ℕ) (left : ℕ) → Left s begin ws left → left ≤ 0
    → NumbersOnly s begin ws × (suspends_in s ws ≡ suspend_loop (length (module_of s).chunks) (module_of s).chunks (suspends_in s begin))
unfolding suspend_loop
left-last s begin ws left l h =
    let e : left ≡ 0 = omega arith in
    (l.marked, ap (λ (n : ℕ). suspend_loop n (module_of s).chunks (suspends_in s ws)) (sym e) ∙ l.rest)
