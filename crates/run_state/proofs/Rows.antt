-- The states of a chunk after a write: a row that keeps its words keeps its state, and one row written is one state set.
use Prim.Native.Nat.{ℕ, zero, suc, ◌+◌, ◌*◌, ◌-◌, ◌<◌, ◌≤◌}
use native.Mathlib.Omega.{arith}
use mathlib.Core.Path.{◌≡◌, refl, sym, ap, ap₂, ◌∙◌}
use mathlib.Core.Bool.{Bool, true, false, cond}
use mathlib.Core.Option.{none, some}
use mathlib.Core.List.{List, [], ◌∷◌}
use lib.ListN.{length, get_or, set}
use Rattle.words.specs.Rows.{cells_at}
use Rattle.words.proofs.RowLaws.{cells_at-same}
use Rattle.definition.specs.Module.{row, module_of}
use Rattle.form_laws.proofs.Each.{suc-out, row-length, row-at}
use Rattle.form_laws.specs.Good.{chunk_no, row_cells}
use Rattle.layout.specs.Layout.{row_at, locals_at, row_head, stack_at}
use Rattle.layout.proofs.Apart.{by_order, row_before, row-begins, row_in, rows_end, area-apart, result-begins, result-next}
use Rattle.layout.proofs.Kept.{steady-refl, steady-trans}
use Rattle.row_join.specs.joining.Leave.{state_by, state_in}
use Rattle.run_state.specs.Course.{state_at, states_in, past_in, Low, LowBefore, RowsOnly}

-- ---- lists built element by element
pub row_same : {A : Type 0} (f g : ℕ → A) (i n : ℕ) → ((k : ℕ) → i ≤ k → k < i + n → f k ≡ g k) → row f i n ≡ row g i n
unfolding row
row_same f g i zero e = refl
row_same f g i (suc n) e = ap₂ ◌∷◌ (e i (omega arith) (omega arith)) (row_same f g (suc i) n (λ k l m. e k (omega arith) (omega arith)))

pub row-set : {A : Type 0} (f g : ℕ → A) (i n t : ℕ) → t < n → ((k : ℕ) → i ≤ k → k < i + n → (k ≡ i + t → ⊥) → g k ≡ f k)
    → row g i n ≡ set (row f i n) t (g (i + t))
unfolding row
row-set f g i zero t l e = absurd (omega arith)
row-set f g i (suc n) zero l e =
    let z : i ≡ i + 0 = omega arith in
    ap₂ ◌∷◌ (ap g z) (row_same g f (suc i) n (λ k a b. e k (omega arith) (omega arith) (λ q. omega arith)))
row-set f g i (suc n) (suc t) l e =
    ap₂ ◌∷◌ (e i (omega arith) (omega arith) (λ q. omega arith))
    (row-set f g (suc i) n t (omega arith) (λ k a b d. e k (omega arith) (omega arith) (λ q. d (omega arith)))
    ∙ ap (λ (m : ℕ). set (row f (suc i) n) t (g m)) (sym (suc-out i t)))

-- ---- the state of a row
-- v has the words of ws from at on, size of them
abbrev pub SameWords : List ℕ → List ℕ → ℕ → ℕ → Type 0
SameWords ws v at size = (j : ℕ) → at ≤ j → j < at + size → get_or v j 0 ≡ get_or ws j 0

pub by-offset : (ws v : List ℕ) (at size : ℕ) → ((k : ℕ) → k < size → get_or v (at + k) 0 ≡ get_or ws (at + k) 0) → SameWords ws v at size
by-offset ws v at size h j l m = let e : at + (j - at) ≡ j = omega arith in rw e at (h (j - at) (omega arith))

pub cells-kept : (ws v : List ℕ) (at size : ℕ) → SameWords ws v at size → (a n : ℕ) → at ≤ a → a + 16 * n ≤ at + size → cells_at v a n ≡ cells_at ws a n
cells-kept ws v at size e a n l m = cells_at-same v ws a a n (λ j h. e (a + j) (omega arith) (omega arith))

state-by : (ws v : List ℕ) (at stack locals h : ℕ) → h ≤ stack + 1 → SameWords ws v at (row_head + 16 * (stack + locals))
    → state_by v at stack locals h ≡ state_by ws at stack locals h
unfolding state_by
state-by ws v at stack locals zero l e = refl
state-by ws v at stack locals (suc h) l e =
    λ i. some
    (record {
      stack = cells-kept ws v at (row_head + 16 * (stack + locals)) e (stack_at at) h (omega arith) (omega arith) i;
      locals = cells-kept ws v at (row_head + 16 * (stack + locals)) e (locals_at at stack) locals (omega arith) (omega arith) i;
    })

pub state-kept : (ws v : List ℕ) (at stack locals : ℕ) → get_or ws at 0 ≤ stack + 1 → SameWords ws v at (row_head + 16 * (stack + locals))
    → state_in v at stack locals ≡ state_in ws at stack locals
unfolding state_in
state-kept ws v at stack locals l e =
    ap (state_by v at stack locals) (e at (omega arith) (omega arith)) ∙ state-by ws v at stack locals (get_or ws at 0) l e

-- ---- the states of a chunk
module _ (s : List ℕ) (n : ℕ) where
  -- the row of the instruction i has the same words
  abbrev pub SameRow : List ℕ → List ℕ → ℕ → Type 0
  SameRow ws v i = SameWords ws v (row_at (module_of s) n i) (16 * row_cells (chunk_no (module_of s) n))

  pub states-length : (ws : List ℕ) → length (states_in s ws n) ≡ length (chunk_no (module_of s) n).code
  unfolding states_in
  states-length ws = row-length (state_at s n ws) 0 (length (chunk_no (module_of s) n).code)

  pub states-at : (ws : List ℕ) (i : ℕ) → i < length (chunk_no (module_of s) n).code → get_or (states_in s ws n) i none ≡ state_at s n ws i
  unfolding states_in
  states-at ws i l =
      let z : 0 + i ≡ i = omega arith in
      row-at (state_at s n ws) none 0 (length (chunk_no (module_of s) n).code) i l ∙ ap (state_at s n ws) z

  module _ (ws v : List ℕ) (low : Low s ws n) where
    one_kept : (i : ℕ) → i < length (chunk_no (module_of s) n).code → SameRow ws v i → state_at s n v i ≡ state_at s n ws i
    unfolding Low
    one_kept i l e =
        state-kept ws v (row_at (module_of s) n i) (chunk_no (module_of s) n).stack (chunk_no (module_of s) n).locals (low i l)
        (λ j a b. e j a (omega arith))

    pub states-kept : ((i : ℕ) → i < length (chunk_no (module_of s) n).code → SameRow ws v i) → states_in s v n ≡ states_in s ws n
    unfolding states_in
    states-kept e =
        row_same (state_at s n v) (state_at s n ws) 0 (length (chunk_no (module_of s) n).code)
        (λ i a b. one_kept i (omega arith) (e i (omega arith)))

    -- all but the row of the instruction t
    pub states-set : (t : ℕ) → t < length (chunk_no (module_of s) n).code
        → ((i : ℕ) → i < length (chunk_no (module_of s) n).code → (i ≡ t → ⊥) → SameRow ws v i)
        → states_in s v n ≡ set (states_in s ws n) t (state_at s n v t)
    unfolding states_in
    states-set t l e =
        let z : 0 + t ≡ t = omega arith in
        row-set (state_at s n ws) (state_at s n v) 0 (length (chunk_no (module_of s) n).code) t l
        (λ i a b d. one_kept i (omega arith) (e i (omega arith) (λ q. d (omega arith))))
        ∙ ap (λ (k : ℕ). set (row (state_at s n ws) 0 (length (chunk_no (module_of s) n).code)) t (state_at s n v k)) z

    pub low-kept : ((i : ℕ) → i < length (chunk_no (module_of s) n).code → SameRow ws v i) → Low s v n
    unfolding Low
    low-kept e i l = omega (arith, low i l, e i l (row_at (module_of s) n i) (omega arith) (omega arith))

    pub low-set : (t : ℕ) → ((i : ℕ) → i < length (chunk_no (module_of s) n).code → (i ≡ t → ⊥) → SameRow ws v i)
        → get_or v (row_at (module_of s) n t) 0 ≤ (chunk_no (module_of s) n).stack + 1 → Low s v n
    unfolding Low
    low-set t e h i l =
        by_order i t
        (λ o. let w = e i l (λ q. omega arith) (row_at (module_of s) n i) (omega arith) (omega arith) in omega (arith, low i l))
        (λ q. rw q h)
        (λ o. let w = e i l (λ q. omega arith) (row_at (module_of s) n i) (omega arith) (omega arith) in omega (arith, low i l))

-- ---- a write to the rows of one chunk and the queue
pub rows-only-refl : (s : List ℕ) (n : ℕ) (ws : List ℕ) → RowsOnly s n ws ws
rows-only-refl s n ws = record { steady = steady-refl (module_of s) ws; under = λ j l. refl; above = λ j l m. refl }

pub rows-only-trans : (s : List ℕ) (n : ℕ) (ws v u : List ℕ) → RowsOnly s n ws v → RowsOnly s n v u → RowsOnly s n ws u
rows-only-trans s n ws v u a b =
    record {
      steady = steady-trans (module_of s) ws v u a.steady b.steady;
      under = λ j l. b.under j l ∙ a.under j l;
      above = λ j l m. b.above j l m ∙ a.above j l m;
    }

module _ (s : List ℕ) (n : ℕ) (h : n < length (module_of s).chunks) (ws v : List ℕ) (r : RowsOnly s n ws v) where
  -- the rows of another chunk
  pub other-rows : (k i : ℕ) → k < length (module_of s).chunks → (k ≡ n → ⊥) → i < length (chunk_no (module_of s) k).code → SameRow s k ws v i
  other-rows k i l d o j a b =
      by_order k n
      (λ q. r.under j (omega (arith, row_before (module_of s) k i n o q (omega arith), result-begins (module_of s) n, result-next (module_of s) n)))
      (λ q. absurd (d q))
      (λ q. r.above j
      (omega (arith, rows_end (module_of s) n, area-apart (module_of s) n k q (omega arith), row-begins (module_of s) k i))
      (omega (arith, row_in (module_of s) k i l o)))

  pub other-states : (k : ℕ) → k < length (module_of s).chunks → (k ≡ n → ⊥) → Low s ws k → states_in s v k ≡ states_in s ws k
  other-states k l d low = states-kept s k ws v low (λ i o. other-rows k i l d o)

  pub other-low : (k : ℕ) → k < length (module_of s).chunks → (k ≡ n → ⊥) → Low s ws k → Low s v k
  other-low k l d low = low-kept s k ws v low (λ i o. other-rows k i l d o)

  -- the chunks before it
  pub past-kept : LowBefore s ws n → past_in s v n ≡ past_in s ws n
  unfolding past_in LowBefore
  past-kept low = row_same _ _ 0 n (λ k a b. one k (omega arith) (chunk_no (module_of s) k).reachable refl)
    where
      one : (k : ℕ) → k < n → (b : Bool) → (chunk_no (module_of s) k).reachable ≡ b → cond b (states_in s v k) [] ≡ cond b (states_in s ws k) []
      one k l true e = other-states k (omega arith) (λ q. omega arith) (low k l e)
      one k l false e = refl

  pub low-before-kept : LowBefore s ws n → LowBefore s v n
  unfolding LowBefore
  low-before-kept low k l e = other-low k (omega arith) (λ q. omega arith) (low k l e)
