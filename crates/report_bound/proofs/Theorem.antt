-- No report that is decided is longer than the bound of its module.
use Prim.Native.Nat.{ℕ, ◌+◌, ◌*◌, ◌<◌, ◌≤◌}
use native.Mathlib.Omega.{arith}
use native.Mathlib.Nat.{zero-add}
use mathlib.Core.Path.{◌≡◌, refl, sym, ap, ◌∙◌}
use mathlib.Core.Bool.{Bool, true, false}
use mathlib.Core.Option.{Option, none, some}
use mathlib.Core.List.{List, [], ◌∷◌, ◌++◌, Memᴰ}
use lib.ListN.{length, get_or, length-append, length-map}
use Rattle.le.specs.Le.{le32}
use Rattle.answers.specs.Answers.{accepts}
use Rattle.definition.specs.Machine.{Final}
use Rattle.definition.specs.Module.{Module, Chunk, module_of}
use Rattle.definition.specs.State.{State, Facts}
use Rattle.definition.specs.Leaves.{Known, visit_of}
use Rattle.definition.specs.Start.{first_facts, known_of}
use Rattle.definition.specs.Report.{Report, Record, signatures_from, slot_cells, record_of, inspection_of, branch_of, from_chunks, report_of, field, signature_bytes, slot_bytes, record_bytes, inspection_bytes, branch_bytes, each, report_bytes}
use Rattle.definition.specs.Call.{reported, decide, call}
use Rattle.machine_laws.proofs.All.{All, all-mem}
use Rattle.report_laws.proofs.Back.{ProperRecord, ProperReport}
use Rattle.report_laws.proofs.Reports.{decided-proper}
use Rattle.report_laws.proofs.Walk.{field-long}
use Rattle.consistent.specs.Consistent.{Consistent, Recorded, visit_at, facts_of}
use Rattle.consistent.proofs.Records.{Beside, beside-mem, Numbered, numbered, of-chunks, said, unsaid}
use Rattle.consistent.proofs.Decided.{of-decide}
use Rattle.consistent.proofs.Theorem.{consistent}
use Rattle.consistent.proofs.Accepted.{accepted-left}
use Rattle.report_bound.specs.Most.{most_report}
use Rattle.report_bound.proofs.States.{state-few}
use Rattle.report_bound.proofs.Heights.{within-heights}
use Rattle.report_bound.proofs.Totals.{Within, chunks_bytes, chunks-few, signatures-long, inputs-alike, inputs_most, signatures_of, declared-few, slots-long, chunks-parts}

-- ---- the report of a run that is consistent
module _ (m : Module) (reply : ℕ) (x : Final Facts State) (numbers : Numbered 0 m.chunks)
    (c : Consistent m (report_of (known_of m (first_facts m)) reply x)) (ok : ProperReport (report_of (known_of m (first_facts m)) reply x)) where
  abbrev K : Known
  K = known_of m (first_facts m)

  abbrev R : Report
  R = report_of K reply x

  reachable : (t : Bool) {b : Bool} → b ≡ t → (b ≡ false → ⊥) → b ≡ true
  reachable true e h = e
  reachable false e h = absurd (h e)

  -- a state of a chunk has the bound of its instruction
  states-within : (d : Chunk) (st : List (Option State)) → Beside d st m.chunks x.states → Within K x.facts m d st
  unfolding known_of report_of visit_at visit_of
  states-within d st b j s r =
      let there : Recorded R d.number j s = said K reply x numbers d st j s b r in
      let mem = beside-mem d st m.chunks x.states b in
      let reach = reachable d.reachable refl (λ e. c.arrives.none d mem e j s there) in
      let a = c.arrives.chunks d mem reach in
      let listed = of-chunks _ (λ d i t. record_of K d x.facts i t ∷ []) m.chunks x.states d st j s b r (Memᴰ.head refl) in (
        reach,
        a.inside j s there,
        state-few K d (facts_of R) j s (a.sized j s there).stack (a.fine j s there).fits (a.fine j s there).height x.facts
            (all-mem ok.records listed) (a.sized j s there).locals _ (within-heights m R d st a (λ i t. said K reply x numbers d st i t b) (λ i t. unsaid K reply x numbers d st i t b) j s r),
      )

  signatures-few : length (each signature_bytes R.signatures) ≤ signatures_of m m.chunks
  unfolding facts_of first_facts
  signatures-few =
      let f = c.arrives.declared in
      omega (
        arith,
        signatures-long ok.signatures,
        inputs-alike (facts_of R).inputs (first_facts m).inputs f.chunks (λ n l. (f.inputs n l).long),
        declared-few m 0 m.signatures m.chunks (zero-add m.signatures) numbers,
      )

  slots-few : length (each slot_bytes R.slots) ≡ 52 * m.slots
  unfolding facts_of
  slots-few = omega (arith, slots-long ok.slots, c.arrives.declared.slots, length-map R.slots (λ y. y.mask))

  report-few : length (report_bytes R) ≤ most_report m
  unfolding known_of report_of report_bytes most_report le32 chunks_bytes
  report-few =
      let s = each signature_bytes R.signatures in
      let t = each slot_bytes R.slots in
      let r = each record_bytes R.records in
      let i = each inspection_bytes R.inspections in
      let b = each branch_bytes R.branches in
      omega (
        arith,
        length-append (field 16 (le32 reply)) (s ++ (t ++ (r ++ (i ++ b)))),
        field-long 16 (le32 reply),
        length-append s (t ++ (r ++ (i ++ b))),
        length-append t (r ++ (i ++ b)),
        length-append r (i ++ b),
        length-append i b,
        signatures-few,
        slots-few,
        chunks-few K x.facts m m.chunks x.states states-within,
        chunks-parts m m.chunks,
      )

-- THEOREM: a report that is decided is no longer than the bound
pub no_longer : (s : List ℕ) (words limit : ℕ) (r : Report) (n : ℕ) → decide s words limit ≡ reported r n → length (report_bytes r) ≤ most_report (module_of s)
no_longer s words limit r n h =
    let (k, cap, f, w) = of-decide s words limit r n h in
    rw (← w.says)
    (report-few (module_of s) w.reply w.final (numbered s) (rw (← w.says) at (consistent s words limit r n h)) (rw (← w.says) at (decided-proper s words limit n r h)))

-- THEOREM: no call that is accepted has a longer report, whatever it is lent
pub accepted-within : (s ws buf : List ℕ) (limit long steps : ℕ) → (call s ws buf limit).answer ≡ accepts long steps → long ≤ most_report (module_of s)
accepted-within s ws buf limit long steps h =
    let d = accepted-left s ws buf limit long steps h in
    rw (← d.size) (no_longer s (length ws) limit d.report steps d.decides)
