-- The tests together decide whether a run can go on.
use Prim.Native.Nat.{ℕ, ◌<◌, ◌≤◌}
use native.Mathlib.Omega.{arith}
use mathlib.Core.Path.{◌≡◌, sym, ap, ◌∙◌}
use mathlib.Core.Bool.{Bool, true, ◌&&◌}
use mathlib.Core.List.{List}
use lib.ListN.{length}
use Rattle.definition.specs.Module.{module_of}
use Rattle.form_laws.specs.Good.{chunk_no, words_of}
use Rattle.layout.specs.declared.Tables.{Tables}
use Rattle.layout.specs.declared.Chunk.{Chunk as ChunkNumbers}
use Rattle.layout.specs.Indexed.{tables_of, chunk_at}
use Rattle.layout.proofs.Read.{count-is}
use Rattle.run_state.specs.declared.Run.{Run}
use Rattle.run_state.specs.Course.{Prepared, LowBefore}
use Rattle.resumable.specs.Decides.{Decides}
use Rattle.resumable.specs.Resumable.{CanGoOn, LowReached, EntriesBelow, QueueDue}
use Rattle.resumable.proofs.Decides.{reworded, both, flag-decided}

pub base-is : (s : List ℕ) (t : Tables) → t ≡ tables_of s → t.queue_at ≡ words_of (module_of s)
unfolding tables_of
base-is s t e = ap (λ (x : Tables). x.queue_at) e

pub not_there : (s ws : List ℕ) (r : Run) → length (module_of s).chunks ≤ r.chunk → CanGoOn s ws r → ⊥
unfolding CanGoOn
not_there s ws r l g = omega (arith, g.0.chunk)

module _ (s ws : List ℕ) (t : Tables) (p : Prepared s ws) (e : t ≡ tables_of s) (r : Run)
    (h : r.chunk < length (module_of s).chunks) (ch : ChunkNumbers) (n : ch ≡ chunk_at s ws r.chunk) where
  reachable-is : ch.reachable ≡ (chunk_no (module_of s) r.chunk).reachable
  unfolding chunk_at
  reachable-is = ap (λ (x : ChunkNumbers). x.reachable) n

  -- an entry of the chunk at work is due, its rows are low and those of the chunks before it, and it is reachable
  abbrev Found : Type 0
  Found =
      ((QueueDue ws t.queue_at r.queue ch.count × LowReached s ws r.chunk) × LowBefore s ws r.chunk) × (ch.reachable ≡ true)

  found-on : Found → CanGoOn s ws r
  unfolding CanGoOn EntriesBelow LowReached
  found-on f =
      let d : QueueDue ws (words_of (module_of s)) r.queue (length (chunk_no (module_of s) r.chunk).code) = rw (base-is s t e, count-is s ws r.chunk ch n) at f.0.0.0 in
      let q = sym reachable-is ∙ f.1 in (
        record {
          prepared = p;
          chunk = h;
          reachable = q;
          queued = record { ready = d.ready; entries = d.entries };
          low = f.0.0.1 q;
          before = f.0.1;
        },
        d.some,
      )

  on-found : CanGoOn s ws r → Found
  unfolding CanGoOn EntriesBelow LowReached
  on-found g =
      let b = g.0 in
      let d : QueueDue ws (words_of (module_of s)) r.queue (length (chunk_no (module_of s) r.chunk).code) = record { ready = b.queued.ready; some = g.1; entries = b.queued.entries } in
      (((rw (base-is s t e, count-is s ws r.chunk ch n) d, λ q. b.low), b.before), reachable-is ∙ b.reachable)

  pub go-decided : (due low before : Bool) → Decides due (QueueDue ws t.queue_at r.queue ch.count) → Decides low (LowReached s ws r.chunk)
      → Decides before (LowBefore s ws r.chunk) → Decides (((due && low) && before) && ch.reachable) (CanGoOn s ws r)
  go-decided due low before d l b =
      reworded found-on on-found (both (both (both d l) b) (flag-decided ch.reachable))
