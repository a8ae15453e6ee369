-- `report_index::lookup_indexed` meets its contract.
use mathlib.Core.Path.{sym, ◌∙◌}
use native.Mathlib.Omega.{arith}
use borrow.Author.Tests.{not-true, not-false}
use Rattle.lookup.specs.Find.{at_end, names}
use Rattle.report_index.specs.Index.{entries_of}
use Rattle.report_index.proofs.Alike.{agreed-rise, answers-disagree, answers-entry, answers-end}
use Rattle.report_index.proofs.lookup_indexed.Goals as goal

pub returns-then-not-agree : goal.returns-then-not-agree
returns-then-not-agree c = rw c.nowhere.ensures (answers-disagree _ _ _ _ (sym c.agree.ensures ∙ c.if-not-agree.true))

pub seek-k-requires : goal.seek-k-requires
unfolding entries_of
seek-k-requires c = record { n_in_bounds = omega arith; n_value = agreed-rise _ _ (sym c.agree.ensures ∙ c.if-not-agree.false) }

pub returns-then-e-chunk : goal.returns-then-e-chunk
unfolding names
returns-then-e-chunk c =
    let e = c.entry_no-e.ensures in
    rw e (answers-entry _ _ (sym c.agree.ensures ∙ c.if-not-agree.false) _ _ _ c.seek-k.ensures c.if-k-n.true (rw e at c.if-e-chunk.true))

pub returns-else-e-chunk : goal.returns-else-e-chunk
unfolding at_end names
returns-else-e-chunk c =
    let e = c.entry_no-e.ensures in
    answers-end _ _ (sym c.agree.ensures ∙ c.if-not-agree.false) _ _ _ c.seek-k.ensures (λ l. rw e at c.if-e-chunk.false)

pub returns-else-k-n : goal.returns-else-k-n
unfolding at_end
returns-else-k-n c = answers-end _ _ (sym c.agree.ensures ∙ c.if-not-agree.false) _ _ _ c.seek-k.ensures (λ l. absurd (omega arith))
