-- The listing of a call, by what the call is said to leave; that it fits, so that it is laid whole.
use Prim.Native.Nat.{ℕ, ◌<◌, ◌≤◌}
use native.Mathlib.Omega.{arith}
use mathlib.Core.Path.{◌≡◌, sym, ◌∙◌, ap}
use mathlib.Core.Bool.{Bool, true, false, cond}
use mathlib.Core.List.{List, [], ◌++◌}
use borrow.Author.Tests.{lt-ltb, le-ltb}
use lib.Dec.{ltb}
use lib.ListN.{length, drop, replicate, length-append, length-replicate}
use Rattle.std.specs.Prelude.{Result, Err}
use Rattle.answers.specs.declared.Accepted.{Accepted}
use Rattle.answers.specs.declared.Refusal.{Refusal}
use Rattle.answers.specs.Answers.{nowhere}
use Rattle.definition.specs.Call.{call}
use Rattle.le.proofs.Laws.{put-start}
use Rattle.listing.specs.Laid.{Laid}
use Rattle.listing.specs.Listing.{listing}
use Rattle.listing.proofs.Long.{refused-long}
use Rattle.listing_laws.proofs.Fits.{listing-fits}
use Rattle.factlisting.specs.Factlist.{called, factlist, text_room, Listed}

pub listed-long : (s : List ℕ) (r : Refusal) → 16384 < length s → r ≡ nowhere 2 0 → factlist s ≡ listing (Err r) []
unfolding factlist
listed-long s r h e = rw (lt-ltb 16384 (length s) h, e)

pub listed-call : (s ws buf : List ℕ) (r : Result Accepted Refusal) (buf' : List ℕ) → length s ≤ 16384 → ws ≡ replicate 16384 0 → buf ≡ replicate 16384 0
    → r ≡ (call s ws buf 1000000).answer → buf' ≡ (call s ws buf 1000000).report → factlist s ≡ listing r buf'
unfolding factlist called
listed-call s ws buf r buf' h e f a b = rw (le-ltb 16384 (length s) h, a, b, e, f)

-- THEOREM: every listing fits
pub factlist-fits : (s : List ℕ) → length (factlist s) ≤ text_room
unfolding factlist called listing
factlist-fits s = go (ltb 16384 (length s))
  where
    go : (b : Bool) → length (cond b (listing (Err (nowhere 2 0)) []) (listing (called s).answer (called s).report)) ≤ text_room
    go true = omega (arith, refused-long (nowhere 2 0))
    go false = listing-fits s (replicate 16384 0) (replicate 16384 0) 1000000 (omega (arith, length-replicate {A = ℕ} 16384 0))

-- so text that is laid as far as it goes is laid whole
pub laid-whole : (s : List ℕ) {bs l l' : List ℕ} {r : ℕ} → text_room ≤ length l → factlist s ≡ bs → Laid l 0 bs l' r → Listed s l l' r
laid-whole s {bs} {l} {l'} {r} h e x =
    let f : length bs ≤ text_room = rw e at (factlist-fits s) in
    let n : r ≡ length bs = omega (arith, x.next) in
    record { long = n ∙ ap length (sym e); bytes = x.bytes ∙ put-start l bs (omega arith) ∙ (λ k. sym e k ++ drop (sym n k) l) }

pub listed-within : (s : List ℕ) {l l' : List ℕ} {r : ℕ} → Listed s l l' r → r ≤ length l'
listed-within s {l} {l'} {r} x = omega (arith, x.long, ap length x.bytes, length-append (factlist s) (drop r l))
