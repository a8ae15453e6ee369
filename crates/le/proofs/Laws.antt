-- Laws of writes: one after the other, their length, and what the list is after them.
use mathlib.Core.Path.{◌≡◌, ◌∙◌}
use mathlib.Core.List.{List, [], ◌∷◌, ◌++◌, append_assoc}
use Prim.Native.Nat.{ℕ, suc, ◌+◌, ◌≤◌}
use native.Mathlib.Nat.{add-zero, zero-add, add-suc, suc-add}
use native.Mathlib.Omega.{arith}
use lib.ListN.{length, take, drop, set, length-append}
use lib.Seq.{sets, sets-eq, length-sets}
use Rattle.le.specs.Wrote.{put, WroteN}

sets-sets : (l : List ℕ) (i : ℕ) (a b : List ℕ) → sets (sets l i a) (i + length a) b ≡ sets l i (a ++ b)
sets-sets l i [] b = rw add-zero
sets-sets l i (x ∷ a) b = rw (add-suc i (length a), ← suc-add i (length a)) (sets-sets (set l i x) (suc i) a b)

-- two writes one after the other are one write of the appended bytes
pub put-put : (l : List ℕ) (i : ℕ) (a b : List ℕ) → put (put l i a) (i + length a) b ≡ put l i (a ++ b)
unfolding put
put-put l i a b = sets-sets l i a b

pub length-put : (l : List ℕ) (i : ℕ) (a : List ℕ) → length (put l i a) ≡ length l
unfolding put
length-put l i a = length-sets l i a

-- what stands before, the bytes, and what stays behind them
pub put-parts : (l : List ℕ) (i : ℕ) (a : List ℕ) → i + length a ≤ length l → put l i a ≡ take i l ++ (a ++ drop (i + length a) l)
unfolding put
put-parts l i a h = sets-eq a l i h ∙ rw append_assoc

-- a write at the start
pub put-start : (l a : List ℕ) → length a ≤ length l → put l 0 a ≡ a ++ drop (length a) l
put-start l a h = rw zero-add at (put-parts l 0 a (omega arith))

-- one write, and then the next
pub and_then : {l l₁ l₂ : List ℕ} {at p r n m : ℕ} {a b : List ℕ} → WroteN l at n a l₁ p → WroteN l₁ p m b l₂ r → WroteN l at (n + m) (a ++ b) l₂ r
and_then {l} {l₁} {l₂} {at} {p} {r} {n} {m} {a} {b} x y =
    record {
      bytes = y.bytes ∙ rw (x.bytes, x.next, ← x.size) (put-put l at a b);
      size = omega (arith, length-append a b);
      next = omega arith;
    }

-- the length of what was written to
pub same_length : {l l' : List ℕ} {at r n : ℕ} {a : List ℕ} → WroteN l at n a l' r → length l' ≡ length l
same_length {l} {l'} {at} {r} {n} {a} w = rw w.bytes (length-put l at a)

-- the same write, its size said otherwise
pub resize : {l l' : List ℕ} {at r n m : ℕ} {a : List ℕ} → WroteN l at n a l' r → n ≡ m → WroteN l at m a l' r
resize w e = record { bytes = w.bytes; size = w.size ∙ e; next = rw (← e) w.next }
