-- What the program `factlist` prints for the bytes of its input.
use Rattle.std.specs.Prelude.{ℕ, cond, ◌≡◌, List, [], ◌++◌, ltb, length, drop, replicate, Err}
use Rattle.answers.specs.Answers.{nowhere}
use Rattle.definition.specs.Call.{Outcome, call}
use Rattle.listing.specs.Listing.{listing}

-- the call, with 16,384 words, a report of 16,384 bytes and the limit 1,000,000
unfoldable pub called : List ℕ → Outcome
called s = call s (replicate 16384 0) (replicate 16384 0) 1000000

-- longer input is turned back without a call
unfoldable pub factlist : List ℕ → List ℕ
factlist s = cond (ltb 16384 (length s)) (listing (Err (nowhere 2 0)) []) (listing (called s).answer (called s).report)

-- the bytes that are room for every listing
abbrev pub text_room : ℕ
text_room = 65536

-- the text of l became l': the whole listing, r bytes, and behind it what stood there
pub record Listed (s l l' : List ℕ) (r : ℕ) : Type 0 where
  pub long : r ≡ length (factlist s)
  pub bytes : l' ≡ factlist s ++ drop r l
