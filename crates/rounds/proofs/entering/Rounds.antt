-- Where the machine stands when it has gone on to the next reachable chunk, or found none.
use Prim.Native.Nat.{ℕ, ◌<◌, ◌≤◌}
use native.Mathlib.Omega.{arith}
use mathlib.Core.Path.{◌≡◌, refl, sym, ap, ◌∙◌}
use mathlib.Core.Bool.{Bool, true, false}
use mathlib.Core.Option.{Option}
use mathlib.Core.List.{List}
use borrow.Author.Tests.{ltb-true, ltb-false}
use lib.Dec.{ltb}
use lib.ListN.{length, drop}
use Rattle.definition.specs.Machine.{Where, due, enter, finish}
use Rattle.definition.specs.Module.{Chunk, row, module_of}
use Rattle.definition.specs.State.{State, Facts, Live}
use Rattle.definition.specs.Start.{known_of}
use Rattle.visit.specs.Held.{live_in}
use Rattle.run_state.specs.declared.Run.{Run}
use Rattle.run_state.specs.Course.{final_in, past_in, analysis_in, Low, LowBefore, Prepared}
use Rattle.rounds.specs.entering.Entering.{where_in, Goes, Opened}
use Rattle.rounds.specs.entering.Reach.{NextReachable}
use Rattle.rounds.proofs.entering.Reach.{enters-found, enters_none}
use Rattle.rounds.specs.entering.Began.{entered, Began}
use Rattle.std.specs.Prelude.{Some, None, Ok}

-- the machine goes on from the chunk n, with the states of those before
pub enters-due : (s ws : List ℕ) (v : Bool) (end : Live → List (List (Option State)) → Where Chunk Live Facts State) (changed : Bool) (n r : ℕ)
    → NextReachable s n r → r < length (module_of s).chunks
    → enter (analysis_in s ws) v end n (live_in s ws changed) (past_in s ws n) (drop n (module_of s).chunks) ≡ due (entered s ws r v changed)
unfolding live_in
enters-due s ws v end changed n r x h = enters-found s ws v end (live_in s ws changed) n r x h

-- the chunks that were passed have no states
pub low-reached : (s ws : List ℕ) (n r : ℕ) → NextReachable s n r → LowBefore s ws n → LowBefore s ws r
unfolding LowBefore
low-reached s ws n r x low k l e = go (ltb k n) refl
  where
    go : (b : Bool) → ltb k n ≡ b → Low s ws k
    go true q = low k (ltb-true k n q) e
    go false q = let f = x.skipped k (ltb-false k n q) l in let z : ◌≡◌ {A = ℕ} 0 1 = cc in absurd (omega arith)

-- ---- a pass over all chunks begins
pub low-all : (s ws : List ℕ) (r : ℕ) → NextReachable s 0 r → LowBefore s ws r
unfolding LowBefore
low-all s ws r x = low-reached s ws 0 r x (λ k l e. absurd (omega arith))

module _ (s ws : List ℕ) (validating : Bool) (steps n : ℕ) (x : NextReachable s 0 n) where
  pub opens : (v : List ℕ) (r : Run) → n < length (module_of s).chunks → Began s ws v n validating false steps r → Opened s ws v validating steps (Ok (Some r))
  unfolding Opened where_in Goes known_of past_in row
  opens v r h b =
      (ap due b.machine ∙ sym (enters-due s ws validating (finish (analysis_in s ws)) false 0 n x h), (b.between, b.due, b.same-steps), b.long)

  pub opens-none : Prepared s ws → length (module_of s).chunks ≤ n → Opened s ws ws validating steps (Ok None)
  unfolding Opened where_in Goes known_of past_in row finish final_in live_in
  opens-none p h =
      (sym (enters_none s ws validating (finish (analysis_in s ws)) (live_in s ws false) 0 n x h), record { prepared = p; low = low }, refl)
    where
      low : LowBefore s ws (length (module_of s).chunks)
      low =
          low-all s ws (length (module_of s).chunks)
          (record { low = omega arith; high = omega arith; skipped = λ k a b. x.skipped k a (omega arith); found = λ o. absurd (omega arith) })
