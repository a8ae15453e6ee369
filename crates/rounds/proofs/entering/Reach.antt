-- The machine enters the first reachable chunk from one on: unreachable chunks before it have no states.
use Prim.Native.Nat.{ℕ, zero, suc, ◌+◌, ◌-◌, ◌<◌, ◌≤◌}
use native.Mathlib.Omega.{arith}
use mathlib.Core.Path.{◌≡◌, sym, ap, ◌∙◌}
use mathlib.Core.Bool.{Bool, true, false, cond}
use mathlib.Core.Option.{Option}
use mathlib.Core.List.{List, [], ◌∷◌, ◌++◌}
use borrow.Author.Count.{below_more}
use lib.ListN.{length, drop}
use lib.Seq.{drop-cons, drop-length}
use Rattle.definition.specs.Machine.{Where, due, enter}
use Rattle.definition.specs.Module.{Chunk, row, module_of}
use Rattle.definition.specs.State.{State, Facts, Live}
use Rattle.definition.specs.Start.{start}
use Rattle.form_laws.proofs.Each.{suc-out}
use Rattle.form_laws.specs.Good.{no_chunk, chunk_no}
use Rattle.layout.specs.declared.Tables.{Tables}
use Rattle.layout.specs.declared.Chunk.{Chunk as ChunkNumbers}
use Rattle.layout.specs.Indexed.{tables_of, chunk_at}
use Rattle.layout.proofs.Read.{chunks-are}
use Rattle.run_state.specs.Course.{states_in, past_in, analysis_in}
use Rattle.rounds.specs.entering.Reach.{NextReachable}

-- ---- the search for it
abbrev pub Skipped : List ℕ → ℕ → ℕ → Type 0
Skipped s from c = (k : ℕ) → from ≤ k → k < c → (chunk_no (module_of s) k).reachable ≡ false

reachable-is : (s ws : List ℕ) (c : ℕ) (ch : ChunkNumbers) (b : Bool) → ch ≡ chunk_at s ws c → ch.reachable ≡ b → (chunk_no (module_of s) c).reachable ≡ b
unfolding chunk_at
reachable-is s ws c ch b e f = sym (ap (λ (x : ChunkNumbers). x.reachable) e) ∙ f

module _ (s ws : List ℕ) (t : Tables) (tables : t ≡ tables_of s) (from c : ℕ) (low : from ≤ c) (skipped : Skipped s from c) where
  module _ (ch : ChunkNumbers) (e : ch ≡ chunk_at s ws c) where
    pub skip-one : ch.reachable ≡ false → Skipped s from (c + 1)
    skip-one f k l m =
        below_more (λ (j : ℕ). from ≤ j → (chunk_no (module_of s) j).reachable ≡ false) c (λ j o q. skipped j q o) (λ q. reachable-is s ws c ch false e f) k m l

    pub found_here : c < t.chunks → ch.reachable ≡ true → NextReachable s from c
    found_here l f =
        record { low = low; high = omega (arith, chunks-are s t tables); skipped = skipped; found = λ o. reachable-is s ws c ch true e f }

  pub found_none : c ≤ t.chunks → t.chunks ≤ c → NextReachable s from t.chunks
  found_none l m =
      record {
        low = omega arith;
        high = omega (arith, chunks-are s t tables);
        skipped = λ k o q. skipped k o (omega arith);
        found = λ o. absurd (omega (arith, chunks-are s t tables));
      }

-- ---- the machine enters it
row_more : {A : Type 0} (f : ℕ → A) (i n : ℕ) → row f i (suc n) ≡ row f i n ++ (f (i + n) ∷ [])
unfolding row
row_more f i zero = let z : i ≡ i + 0 = omega arith in ap (λ (k : ℕ). f k ∷ []) z
row_more f i (suc n) = ap (λ (l : List _). f i ∷ l) (row_more f (suc i) n ∙ ap (λ (k : ℕ). row f (suc i) n ++ (f k ∷ [])) (sym (suc-out i n)))

-- the states of one chunk more
pub past_more : (s ws : List ℕ) (n : ℕ) → past_in s ws (suc n) ≡ past_in s ws n ++ (cond (chunk_no (module_of s) n).reachable (states_in s ws n) [] ∷ [])
unfolding past_in
past_more s ws n = row_more (λ k. cond (chunk_no (module_of s) k).reachable (states_in s ws k) []) 0 n ∙ (let z : 0 + n ≡ n = omega arith in ap (λ (i : ℕ). row (λ k. cond (chunk_no (module_of s) k).reachable (states_in s ws k) []) 0 n ++ (cond (chunk_no (module_of s) i).reachable (states_in s ws i) [] ∷ [])) z)

-- the chunks from n on
chunks-from : (s : List ℕ) (n : ℕ) → n < length (module_of s).chunks → drop n (module_of s).chunks ≡ chunk_no (module_of s) n ∷ drop (suc n) (module_of s).chunks
unfolding chunk_no
chunks-from s n h = drop-cons (module_of s).chunks n no_chunk h

module _ (s ws : List ℕ) (v : Bool) (end : Live → List (List (Option State)) → Where Chunk Live Facts State) (f : Live) where
  -- the machine goes on from the chunk n
  abbrev enters_at : ℕ → List (List (Option State)) → List Chunk → Where Chunk Live Facts State
  enters_at n past cs = enter (analysis_in s ws) v end n f past cs

  abbrev enters_from : ℕ → Where Chunk Live Facts State
  enters_from n = enters_at n (past_in s ws n) (drop n (module_of s).chunks)

  step : (n : ℕ) → n < length (module_of s).chunks → (chunk_no (module_of s) n).reachable ≡ false → enters_from n ≡ enters_from (suc n)
  unfolding enter
  step n h e =
      ap (enters_at n (past_in s ws n)) (chunks-from s n h)
      ∙ rw e (ap (λ (p : List (List (Option State))). enters_at (suc n) p (drop (suc n) (module_of s).chunks)) (sym (past_more s ws n ∙ rw e)))

  skips : (d n : ℕ) → d + n ≤ length (module_of s).chunks → ((k : ℕ) → n ≤ k → k < d + n → (chunk_no (module_of s) k).reachable ≡ false) → enters_from n ≡ enters_from (d + n)
  skips zero n h e = let z : n ≡ 0 + n = omega arith in ap enters_from z
  skips (suc d) n h e =
      step n (omega arith) (e n (omega arith) (omega arith))
      ∙ skips d (suc n) (omega arith) (λ k a b. e k (omega arith) (omega arith))
      ∙ ap enters_from (suc-out d n)

  reaches : (n r : ℕ) → NextReachable s n r → enters_from n ≡ enters_from r
  reaches n r x =
      let z : r - n + n ≡ r = omega (arith, x.low) in
      skips (r - n) n (omega (arith, x.high, x.low)) (λ k a b. x.skipped k a (omega (arith, x.low))) ∙ ap enters_from z

  pub enters-found : (n r : ℕ) → NextReachable s n r → r < length (module_of s).chunks
      → enters_from n
      ≡ due
      (record {
        validating = v;
        number = r;
        chunk = chunk_no (module_of s) r;
        rest = drop (suc r) (module_of s).chunks;
        past = past_in s ws r;
        states = start (chunk_no (module_of s) r) f.known;
        queue = 0 ∷ [];
        facts = f;
      })
  unfolding enter
  enters-found n r x h = reaches n r x ∙ ap (enters_at r (past_in s ws r)) (chunks-from s r h) ∙ rw (x.found h)

  pub enters_none : (n r : ℕ) → NextReachable s n r → length (module_of s).chunks ≤ r → enters_from n ≡ end f (past_in s ws (length (module_of s).chunks))
  unfolding enter
  enters_none n r x h =
      let e : r ≡ length (module_of s).chunks = omega (arith, x.high) in
      reaches n r x ∙ ap enters_from e
      ∙ ap (enters_at (length (module_of s).chunks) (past_in s ws (length (module_of s).chunks))) (drop-length (module_of s).chunks)
