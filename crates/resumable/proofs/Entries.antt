-- Whether a queue stands in its words; its entries are below a number exactly where the one due is, and the rest.
use Prim.Native.Nat.{ℕ, zero, suc, ◌-◌, ◌<◌, ◌≤◌}
use native.Mathlib.Omega.{arith}
use mathlib.Core.Path.{◌≡◌, sym, ap, ◌∙◌}
use mathlib.Core.Bool.{◌&&◌}
use mathlib.Core.List.{List}
use lib.Dec.{ltb, leb}
use lib.ListN.{length, get_or}
use Rattle.ring.specs.declared.Queue.{Queue}
use Rattle.ring.specs.Ring.{QueueReady, cap_of, due_of, entry_at, popped_of}
use Rattle.ring.proofs.Ring.{entries-pop}
use Rattle.run_state.proofs.Queues.{queue-at}
use Rattle.resumable.specs.Decides.{Decides}
use Rattle.resumable.specs.Resumable.{EntriesBelow}
use Rattle.resumable.proofs.Decides.{reworded, both, lt-decided, le_decided}

pub ready-decided : (w : List ℕ) (base : ℕ) (q : Queue) → base ≤ length w
    → Decides (ltb q.head (length w - base) && leb q.count (length w - base)) (QueueReady w base q)
ready-decided w base q f =
    reworded (λ p. record { fits = f; head = p.0; count = p.1 }) (λ r. (r.head, r.count))
    (both (lt-decided q.head (length w - base)) (le_decided q.count (length w - base)))

module _ (w : List ℕ) (base : ℕ) (q : Queue) (r : QueueReady w base q) (h : 0 < q.count) where
  first : entry_at w base (cap_of w base) q.head 0 ≡ due_of w base q
  first = sym (queue-at w base q 0 h) ∙ ap (λ (l : List ℕ). get_or l 0 0) (entries-pop w base q r h)

  later : (k : ℕ) → k < q.count - 1
      → entry_at w base (cap_of w base) q.head (suc k) ≡ entry_at w base (cap_of w base) (popped_of w base q).head k
  later k l =
      sym (queue-at w base q (suc k) (omega arith))
      ∙ ap (λ (l : List ℕ). get_or l (suc k) 0) (entries-pop w base q r h)
      ∙ queue-at w base (popped_of w base q) k l

  module _ (n : ℕ) where
    pub due_below : EntriesBelow w base q n → due_of w base q < n
    unfolding EntriesBelow
    due_below all = omega (arith, first, all 0 h)

    pub rest_below : EntriesBelow w base q n → EntriesBelow w base (popped_of w base q) n
    unfolding EntriesBelow
    rest_below all k l = omega (arith, later k l, all (suc k) (omega arith))

    pub all-below : due_of w base q < n → EntriesBelow w base (popped_of w base q) n → EntriesBelow w base q n
    unfolding EntriesBelow
    all-below d all zero l = omega (arith, first)
    all-below d all (suc k) l = omega (arith, later k (omega arith), all k (omega arith))

pub none_below : (w : List ℕ) (base : ℕ) (q : Queue) (n : ℕ) → q.count ≤ 0 → EntriesBelow w base q n
unfolding EntriesBelow
none_below w base q n z k l = absurd (omega arith)
