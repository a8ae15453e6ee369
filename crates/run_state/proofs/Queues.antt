-- The queue after a write: words below W leave it as it is, a push puts its entry last and leaves the rows.
use Prim.Native.Nat.{ℕ, zero, suc, ◌+◌, ◌-◌, ◌<◌, ◌≤◌}
use native.Mathlib.Omega.{arith}
use mathlib.Core.Path.{◌≡◌, refl, sym, ap, ◌∙◌}
use mathlib.Core.List.{List, [], ◌∷◌, ◌++◌}
use lib.ListN.{length, get_or, get_or-append}
use lib.Seq.{get_or_at}
use Rattle.ring.specs.declared.Queue.{Queue}
use Rattle.ring.specs.Ring.{QueueReady, cap_of, slot, entry_at, tab, queue_of, pushed, grown}
use Rattle.ring.proofs.Ring.{tab-eq, entries-push, ready-push, push-below}
use Rattle.definition.specs.Module.{module_of}
use Rattle.form_laws.specs.Good.{chunk_no, words_of}
use Rattle.layout.proofs.Apart.{by_order, row_in, rows_in}
use Rattle.layout.proofs.Kept.{steady-push}
use Rattle.run_state.specs.Course.{states_in, Low, Queued, RowsOnly}
use Rattle.run_state.proofs.Rows.{SameRow, states-kept, low-kept}

-- ---- the entries
tab-length : {A : Type 0} (f : ℕ → A) (n k : ℕ) → length (tab f k n) ≡ n
tab-length f zero k = refl
tab-length f (suc n) k = ap suc (tab-length f n (suc k))

tab-at : {A : Type 0} (f : ℕ → A) (d : A) (n k i : ℕ) → i < n → get_or (tab f k n) i d ≡ f (k + i)
tab-at f d zero k i l = absurd (omega arith)
tab-at f d (suc n) k zero l = let e : k ≡ k + 0 = omega arith in ap f e
tab-at f d (suc n) k (suc i) l = let e : suc k + i ≡ k + suc i = omega arith in tab-at f d n (suc k) i (omega arith) ∙ ap f e

pub queue-length : (w : List ℕ) (base : ℕ) (q : Queue) → length (queue_of w base q) ≡ q.count
unfolding queue_of
queue-length w base q = tab-length (entry_at w base (cap_of w base) q.head) q.count 0

pub queue-at : (w : List ℕ) (base : ℕ) (q : Queue) (k : ℕ) → k < q.count → get_or (queue_of w base q) k 0 ≡ entry_at w base (cap_of w base) q.head k
unfolding queue_of
queue-at w base q k l =
    let e : 0 + k ≡ k = omega arith in
    tab-at (entry_at w base (cap_of w base) q.head) 0 q.count 0 k l ∙ ap (entry_at w base (cap_of w base) q.head) e

-- ---- a write below the queue
module _ (w v : List ℕ) (base : ℕ) (long : length v ≡ length w) (same : (j : ℕ) → base ≤ j → get_or v j 0 ≡ get_or w j 0) where
  pub entry_kept : (h k : ℕ) → entry_at v base (cap_of v base) h k ≡ entry_at w base (cap_of w base) h k
  unfolding slot
  entry_kept h k = same _ (omega arith) ∙ ap (λ (n : ℕ). entry_at w base (n - base) h k) long

  pub queue-kept : (q : Queue) → queue_of v base q ≡ queue_of w base q
  unfolding queue_of
  queue-kept q = tab-eq _ _ q.count 0 (λ k a b. entry_kept q.head k)

  pub ready-kept : (q : Queue) → QueueReady w base q → QueueReady v base q
  ready-kept q r = record { fits = omega (arith, r.fits); head = omega (arith, r.head); count = omega (arith, r.count) }

pub queued-kept : (s ws v : List ℕ) (n : ℕ) (q : Queue) → length v ≡ length ws → ((j : ℕ) → words_of (module_of s) ≤ j → get_or v j 0 ≡ get_or ws j 0)
    → Queued s ws n q → Queued s v n q
queued-kept s ws v n q long same x =
    record {
      ready = ready-kept ws v (words_of (module_of s)) long same q x.ready;
      entries = λ k l. omega (arith, x.entries k l, entry_kept ws v (words_of (module_of s)) long same q.head k);
    }

-- ---- a push
module _ (s ws : List ℕ) (n : ℕ) (q : Queue) (x : ℕ) where
  pub push-rows-only : n < length (module_of s).chunks → RowsOnly s n ws (pushed ws (words_of (module_of s)) q x)
  push-rows-only h =
      record {
        steady = steady-push (module_of s) ws (words_of (module_of s)) q x (omega arith);
        under = λ j l. push-below ws (words_of (module_of s)) q x j (omega (arith, rows_in (module_of s) n h));
        above = λ j l m. push-below ws (words_of (module_of s)) q x j m;
      }

  push-rows : n < length (module_of s).chunks → (i : ℕ) → i < length (chunk_no (module_of s) n).code → SameRow s n ws (pushed ws (words_of (module_of s)) q x) i
  push-rows h i l j a b = push-below ws (words_of (module_of s)) q x j (omega (arith, row_in (module_of s) n i h l))

  pub push-states : n < length (module_of s).chunks → Low s ws n → states_in s (pushed ws (words_of (module_of s)) q x) n ≡ states_in s ws n
  push-states h low = states-kept s n ws (pushed ws (words_of (module_of s)) q x) low (push-rows h)

  pub push-low : n < length (module_of s).chunks → Low s ws n → Low s (pushed ws (words_of (module_of s)) q x) n
  push-low h low = low-kept s n ws (pushed ws (words_of (module_of s)) q x) low (push-rows h)

  pub queued-push : Queued s ws n q → q.count < cap_of ws (words_of (module_of s)) → x < length (chunk_no (module_of s) n).code
      → Queued s (pushed ws (words_of (module_of s)) q x) n (grown q)
  queued-push r l h = record { ready = ready-push ws base q x r.ready l; entries = entries }
    where
      base : ℕ
      base = words_of (module_of s)

      v : List ℕ
      v = pushed ws base q x

      each : (k : ℕ) → k < q.count + 1 → get_or (queue_of ws base q ++ (x ∷ [])) k 0 < length (chunk_no (module_of s) n).code
      each k m =
          by_order k q.count
          (λ o. omega (arith, get_or-append (queue_of ws base q) (x ∷ []) 0 k (omega (arith, queue-length ws base q)), queue-at ws base q k o, r.entries k o))
          (λ e. omega (arith, get_or_at (queue_of ws base q) x [] 0 k (queue-length ws base q ∙ sym e)))
          (λ o. absurd (omega arith))

      entries : (k : ℕ) → k < q.count + 1 → entry_at v base (cap_of v base) q.head k < length (chunk_no (module_of s) n).code
      entries k m =
          omega (arith, each k m, queue-at v base (grown q) k m, ap (λ (l : List ℕ). get_or l k 0) (entries-push ws base q x r.ready l))
