-- Words written in front of the slots change nothing of where a run stands: its states, facts and queue lie behind.
use Prim.Native.Nat.{ℕ, suc, ◌+◌, ◌*◌, ◌%◌, ◌<◌, ◌≤◌}
use native.Mathlib.Omega.{arith}
use mathlib.Core.Path.{◌≡◌, refl, ap}
use mathlib.Core.Bool.{Bool, true, false, cond}
use mathlib.Core.List.{List, []}
use lib.ListN.{length, get_or, drop}
use Rattle.masks.specs.Mask.{of}
use Rattle.cells.specs.declared.Cell.{Cell}
use Rattle.words.specs.Layout.{cell_at}
use Rattle.words.proofs.Laws.{cell_at-same}
use Rattle.words.specs.Rows.{cells_at}
use Rattle.words.proofs.RowLaws.{cells_at-same}
use Rattle.definition.specs.Module.{module_of}
use Rattle.form_laws.specs.Good.{chunk_no, words_of}
use Rattle.layout.specs.Layout.{slot_at, input_at, result_at, head_words}
use Rattle.layout.proofs.Apart.{areas-behind, slots-behind, area-last, inputs-begin, result-begins, row-begins}
use Rattle.visit.specs.Held.{facts_in, writes_in, live_in}
use Rattle.run_state.specs.declared.Run.{Run}
use Rattle.run_state.specs.Course.{states_in, past_in, machine_in, Prepared, Between, Low, LowBefore}
use Rattle.run_state.proofs.Rows.{row_same, SameRow, states-kept, low-kept}
use Rattle.run_state.proofs.Queues.{queue-kept, queued-kept}

module _ (s ws v : List ℕ) (long : length v ≡ length ws) (behind : (j : ℕ) → head_words + 16 * length (module_of s).chunks ≤ j → get_or v j 0 ≡ get_or ws j 0) where
  queue-words : (j : ℕ) → words_of (module_of s) ≤ j → get_or v j 0 ≡ get_or ws j 0
  queue-words j l = behind j (omega (arith, areas-behind (module_of s) (length (module_of s).chunks), area-last (module_of s)))

  row-same-words : (n i : ℕ) → SameRow s n ws v i
  row-same-words n i j l m = behind j (omega (arith, l, row-begins (module_of s) n i, areas-behind (module_of s) n))

  states-front : (n : ℕ) → Low s ws n → states_in s v n ≡ states_in s ws n
  states-front n low = states-kept s n ws v low (λ i l. row-same-words n i)

  low-front : (n : ℕ) → Low s ws n → Low s v n
  low-front n low = low-kept s n ws v low (λ i l. row-same-words n i)

  past-front : (n : ℕ) → LowBefore s ws n → past_in s v n ≡ past_in s ws n
  unfolding past_in LowBefore
  past-front n low = row_same _ _ 0 n (λ k a b. one k (omega arith) (chunk_no (module_of s) k).reachable refl)
    where
      one : (k : ℕ) → k < n → (b : Bool) → (chunk_no (module_of s) k).reachable ≡ b → cond b (states_in s v k) [] ≡ cond b (states_in s ws k) []
      one k l true e = states-front k (low k l e)
      one k l false e = refl

  before-front : (n : ℕ) → LowBefore s ws n → LowBefore s v n
  unfolding LowBefore
  before-front n low k l e = low-front k (low k l e)

  live-front : (changed : Bool) → live_in s v changed ≡ live_in s ws changed
  unfolding live_in facts_in writes_in
  live-front changed =
      λ i. record {
        known =
            record {
              inputs = row_same _ _ 0 (module_of s).signatures (λ k a b. inputs k) i;
              results = row_same _ _ 0 (module_of s).signatures (λ k a b. result k) i;
              masks = row_same _ _ 0 (module_of s).slots (λ k a b. ap (λ (c : Cell). c.mask) (cell k)) i;
              flows = row_same _ _ 0 (module_of s).slots (λ k a b. ap (λ (c : Cell). c.flow) (cell k)) i;
            };
        writes = row_same _ _ 0 (module_of s).slots (λ k a b. ap (λ (w : ℕ). of (w % 65536)) (slot k 15)) i;
        changed = changed;
      }
    where
      slot : (k j : ℕ) → get_or v (slot_at (module_of s) k + j) 0 ≡ get_or ws (slot_at (module_of s) k + j) 0
      slot k j = behind _ (omega (arith, slots-behind (module_of s) k))

      cell : (k : ℕ) → cell_at v (slot_at (module_of s) k) ≡ cell_at ws (slot_at (module_of s) k)
      cell k = cell_at-same v ws _ _ (λ j o. slot k j)

      result : (k : ℕ) → cell_at v (result_at (module_of s) k) ≡ cell_at ws (result_at (module_of s) k)
      result k = cell_at-same v ws _ _ (λ j o. behind _ (omega (arith, result-begins (module_of s) k, areas-behind (module_of s) k)))

      inputs : (k : ℕ) → cells_at v (input_at (module_of s) k 0) (length (chunk_no (module_of s) k).params) ≡ cells_at ws (input_at (module_of s) k 0) (length (chunk_no (module_of s) k).params)
      inputs k = cells_at-same v ws _ _ _ (λ j o. behind _ (omega (arith, inputs-begin (module_of s) k 0, areas-behind (module_of s) k)))

  pub machine-front : (r : Run) → Between s ws r → machine_in s v r ≡ machine_in s ws r
  unfolding machine_in
  machine-front r b =
      λ i. record {
        validating = r.validating;
        number = r.chunk;
        chunk = chunk_no (module_of s) r.chunk;
        rest = drop (suc r.chunk) (module_of s).chunks;
        past = past-front r.chunk b.before i;
        states = states-front r.chunk b.low i;
        queue = queue-kept ws v (words_of (module_of s)) long queue-words r.queue i;
        facts = live-front r.changed i;
      }

  pub between-front : (r : Run) → Prepared s v → Between s ws r → Between s v r
  between-front r p b =
      record {
        prepared = p;
        chunk = b.chunk;
        reachable = b.reachable;
        queued = queued-kept s ws v r.chunk r.queue long queue-words b.queued;
        low = low-front r.chunk b.low;
        before = before-front r.chunk b.before;
      }
