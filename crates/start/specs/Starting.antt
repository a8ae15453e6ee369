-- What is settled before the rounds: a refusal for any room and limit, or what a run begins with.
use Rattle.std.specs.Prelude.{ℕ, ◌+◌, ◌*◌, ◌<◌, ◌≤◌, ◌≡◌, false, List, length, get_or, Result, Ok, Err}
use Rattle.definition.specs.Module.{module_of}
use Rattle.definition.specs.Leaves.{opened}
use Rattle.definition.specs.Start.{first_facts, has_site}
use Rattle.definition.specs.Call.{turned, on_ran, run_of, decided}
use Rattle.form_laws.specs.Good.{chunk_no}
use Rattle.layout.specs.Layout.{head_words}
use Rattle.layout.specs.Indexed.{suspends_at}
use Rattle.layout.specs.Kept.{Kept}
use Rattle.visit.specs.Held.{live_in}
use Rattle.run_state.specs.Course.{Prepared, known_as}
use Rattle.answers.specs.declared.Refusal.{Refusal}

unfoldable pub StartedAs : List ℕ → List ℕ → List ℕ → Result ℕ Refusal → Type 0
StartedAs s ws v (Ok n) =
    Prepared s v
    × (live_in s v false ≡ opened (first_facts (module_of s)))
    × (length v ≡ length ws)
    × ((cap limit : ℕ) → decided (module_of s) cap limit ≡ on_ran (known_as s) n (run_of (known_as s) cap limit (first_facts (module_of s))))
StartedAs s ws v (Err f) = (cap limit : ℕ) → decided (module_of s) cap limit ≡ turned f

-- ---- a run that is taken up again
-- the chunks that suspend, so far, are those with a site of their own
unfoldable pub SitesSuspend : List ℕ → List ℕ → Type 0
SitesSuspend s ws = (n : ℕ) → n < length (module_of s).chunks → suspends_at ws n ≡ has_site (chunk_no (module_of s) n).code

-- nothing was written but the reply's words and which chunks suspend
pub record Reknown (s ws v : List ℕ) : Type 0 where
  pub kept : Kept (module_of s) ws v
  pub front : (j : ℕ) → 15 ≤ j → j < head_words → get_or v j 0 ≡ get_or ws j 0
  pub behind : (j : ℕ) → head_words + 16 * length (module_of s).chunks ≤ j → get_or v j 0 ≡ get_or ws j 0

-- as `StartedAs`, whatever the facts
unfoldable pub RebuiltAs : List ℕ → List ℕ → List ℕ → Result ℕ Refusal → Type 0
RebuiltAs s ws v (Ok n) =
    Prepared s v
    × Reknown s ws v
    × ((cap limit : ℕ) → decided (module_of s) cap limit ≡ on_ran (known_as s) n (run_of (known_as s) cap limit (first_facts (module_of s))))
RebuiltAs s ws v (Err f) = (cap limit : ℕ) → decided (module_of s) cap limit ≡ turned f
