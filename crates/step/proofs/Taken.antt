-- A visit whose facts were written and whose ways were passed is one taking of the machine.
use Prim.Native.Nat.{ℕ, ◌-◌, ◌<◌, ◌≤◌}
use native.Mathlib.Omega.{arith}
use mathlib.Core.Path.{◌≡◌, refl, sym, ◌∙◌}
use mathlib.Core.Bool.{Bool, true, false, cond}
use mathlib.Core.List.{List, []}
use lib.ListN.{length}
use Rattle.ring.specs.declared.Queue.{Queue}
use Rattle.definition.specs.Res.{ok, bad}
use Rattle.definition.specs.Machine.{puts, adds}
use Rattle.definition.specs.Module.{module_of}
use Rattle.definition.specs.State.{join}
use Rattle.definition.specs.Ways.{leaving}
use Rattle.definition.specs.Leaves.{gives}
use Rattle.form_laws.specs.Good.{chunk_no, words_of}
use Rattle.layout.specs.declared.Chunk.{Chunk}
use Rattle.layout.specs.Indexed.{chunk_at}
use Rattle.row_join.specs.declared.joining.Leaving.{Leaving}
use Rattle.visit.specs.declared.RowVisit.{RowVisit}
use Rattle.visit.specs.Held.{live_in, Looking, visit_in}
use Rattle.run_state.specs.declared.Run.{Run}
use Rattle.run_state.specs.Course.{states_in, past_in, work_in, seen_in, room_in, analysis_in, Low, LowBefore, Queued, Between, RowsOnly, FactsOnly}
use Rattle.run_state.proofs.Rows.{row_same, past-kept, low-before-kept}
use Rattle.run_state.proofs.Stays.{rows-live, rows-prepared, facts-prepared, facts-states, facts-low}
use Rattle.run_state.proofs.Queues.{queue-kept}
use Rattle.propagate.specs.Passing.{ways_in}
use Rattle.step.specs.Alike.{Alike}
use Rattle.step.proofs.Alike.{ways-alike}
use Rattle.step.specs.Taking.{taking_of, fault_of}
use Rattle.step.proofs.Taking.{taking-stops, taking-goes}
use Rattle.step.proofs.Frames.{looking-facts, alike-facts}

-- ---- after a write to the facts
module _ (s ws u : List ℕ) (f : FactsOnly s ws u) where
  pub facts-before : (n : ℕ) → n ≤ length (module_of s).chunks → LowBefore s ws n → LowBefore s u n
  unfolding LowBefore
  facts-before n h low k l e = facts-low s ws u f k (omega arith) (low k l e)

  pub facts-past : (n : ℕ) → n ≤ length (module_of s).chunks → LowBefore s ws n → past_in s u n ≡ past_in s ws n
  unfolding past_in LowBefore
  facts-past n h low = row_same _ _ 0 n (λ k a b. one k (omega arith) (chunk_no (module_of s) k).reachable refl)
    where
      one : (k : ℕ) → k < n → (b : Bool) → (chunk_no (module_of s) k).reachable ≡ b → cond b (states_in s u k) [] ≡ cond b (states_in s ws k) []
      one k l true e = facts-states s ws u f k (omega arith) (low k l e)
      one k l false e = refl

  pub facts-work : (n : ℕ) (q : Queue) → n < length (module_of s).chunks → Low s ws n → work_in s u n q ≡ work_in s ws n q
  unfolding work_in
  facts-work n q h low =
      λ i. record { states = facts-states s ws u f n h low i; queue = queue-kept ws u (words_of (module_of s)) f.steady.kept.long f.queue q i }

module _ (s ws w u : List ℕ) (r : Run) (v : RowVisit) (q : Queue) (ch : Chunk) (l : Leaving)
    (between : Between s ws r) (look : Looking s ws v) (same : v.chunk ≡ r.chunk) (e : ch ≡ chunk_at s ws v.chunk)
    (alike : Alike ws ch v (visit_in s ws v) l) (fine : fault_of r.validating (visit_in s ws v) ≡ 0) (f : FactsOnly s ws w) where
  -- what the ways put, over the words before
  puts-same : puts join (room_in s w) (work_in s w v.chunk q) (ways_in w ch v l) ≡ puts join (room_in s ws) (work_in s ws v.chunk q) (leaving (visit_in s ws v))
  puts-same =
      λ i. puts join (f.steady.kept.long i - words_of (module_of s)) (facts-work s ws w f v.chunk q look.chunk low i)
      (ways-alike w ch v (visit_in s ws v) l (alike-facts s ws w v look f ch e (visit_in s ws v) l alike) i)
    where
      low : Low s ws v.chunk
      low = rw same between.low

  pub stops : (n : ℕ) → puts join (room_in s w) (work_in s w v.chunk q) (ways_in w ch v l) ≡ bad n → taking_of s ws r q v.at ≡ bad n
  stops n p = taking-stops s ws r v q look same between.prepared.known fine n (sym puts-same ∙ p)

  module _ (p : Queue) (changed : Bool) (live : live_in s w changed ≡ adds (analysis_in s ws) r.validating (live_in s ws r.changed) (gives (visit_in s ws v)))
      (put : puts join (room_in s w) (work_in s w v.chunk q) (ways_in w ch v l) ≡ ok (work_in s u v.chunk p))
      (o : RowsOnly s v.chunk w u) (low : Low s u v.chunk) (queued : Queued s u v.chunk p) where
    pub goes : (steps : ℕ) → taking_of s ws r q v.at ≡ ok (seen_in s u (record { validating = r.validating; chunk = r.chunk; queue = p; steps = steps; changed = changed }))
    unfolding seen_in
    goes steps =
        taking-goes s ws r v q look same between.prepared.known fine (work_in s u v.chunk p) (sym puts-same ∙ put)
        ∙ (λ i. ok (record { facts = (sym live ∙ sym (rows-live s v.chunk look.chunk w u o (looking-facts s ws w v look f).indexed changed)) i; work = work_in s u (same i) p }))

    pub still-between : (steps : ℕ) → Between s u (record { validating = r.validating; chunk = r.chunk; queue = p; steps = steps; changed = changed })
    still-between steps =
        record {
          prepared = rows-prepared s v.chunk look.chunk w u o (facts-prepared s ws w f between.prepared);
          chunk = between.chunk;
          reachable = between.reachable;
          queued = rw (sym same) queued;
          low = rw (sym same) low;
          before = rw (sym same) (low-before-kept s v.chunk look.chunk w u o (facts-before s ws w f v.chunk (omega (arith, look.chunk)) (rw same between.before)));
        }

    pub past-stays : past_in s u r.chunk ≡ past_in s ws r.chunk
    past-stays =
        rw (sym same)
        (past-kept s v.chunk look.chunk w u o (facts-before s ws w f v.chunk (omega (arith, look.chunk)) (rw same between.before))
        ∙ facts-past s ws w f v.chunk (omega (arith, look.chunk)) (rw same between.before))

    pub long-stays : length u ≡ length ws
    long-stays = o.steady.kept.long ∙ f.steady.kept.long
