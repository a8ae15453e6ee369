-- What of an index is left to write, entry by entry.
use Prim.Native.Nat.{ℕ, ◌+◌, ◌≤◌}
use native.Mathlib.Nat.{zero-add}
use native.Mathlib.Omega.{arith}
use mathlib.Core.Path.{◌≡◌, refl, ap, ◌∙◌}
use mathlib.Core.List.{List, [], ◌∷◌}
use lib.ListN.{length, length-append}
use Rattle.le.specs.Le.{le16, le32}
use Rattle.le.specs.Wrote.{put, WroteN, Wrote}
use Rattle.le.proofs.Laws.{put-put, length-put}
use Rattle.lookup.specs.declared.Entry.{Entry}
use Rattle.report_index.specs.Index.{entry_bytes, index_bytes}

pub entry_length : (e : Entry) → length (entry_bytes e) ≡ 12
unfolding entry_bytes le16 le32
entry_length e = refl

pub index-length : (e : Entry) (es : List Entry) → length (index_bytes (e ∷ es)) ≡ 12 + length (index_bytes es)
unfolding index_bytes
index-length e es = omega (arith, length-append (entry_bytes e) (index_bytes es), entry_length e)

-- the bytes of these entries, written at the place, complete the whole, which is written at the start of l₀
pub record Left (l₀ whole : List ℕ) (es : List Entry) (l : List ℕ) (to : ℕ) : Type 0 where
  pub bytes : put l to (index_bytes es) ≡ put l₀ 0 whole
  pub size : to + length (index_bytes es) ≡ length whole

pub left-start : (l : List ℕ) {es fs : List Entry} → es ≡ fs → Left l (index_bytes fs) es l 0
left-start l e = rw e (record { bytes = refl; size = zero-add _ })

module _ {l₀ whole l : List ℕ} {to : ℕ} where
  pub left-long : {es : List Entry} → Left l₀ whole es l to → length l ≡ length l₀
  left-long {es} h = omega (arith, length-put l to (index_bytes es), ap length h.bytes, length-put l₀ 0 whole)

  pub left-room : {e : Entry} {es : List Entry} → Left l₀ whole (e ∷ es) l to → length whole ≤ length l₀ → to + 12 ≤ length l
  left-room {e} {es} h r = omega (arith, index-length e es, left-long h)

  pub left-turn : {e : Entry} {es : List Entry} {l' : List ℕ} {r : ℕ} → Left l₀ whole (e ∷ es) l to → WroteN l to 12 (entry_bytes e) l' r → Left l₀ whole es l' r
  unfolding index_bytes
  left-turn {e} {es} h w =
      record {
        bytes = rw (w.bytes, w.next, ← w.size) (put-put l to (entry_bytes e) (index_bytes es) ∙ h.bytes);
        size = omega (arith, index-length e es);
      }

  pub left_end : Left l₀ whole [] l to → Wrote l₀ 0 whole l to
  unfolding index_bytes put
  left_end h = record { bytes = h.bytes; size = refl; next = omega arith }
