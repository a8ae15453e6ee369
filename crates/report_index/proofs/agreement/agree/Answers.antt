-- `report_index::agreement::agree` meets its contract.
use Prim.Native.Nat.{◌%◌}
use native.Mathlib.Omega.{arith}
use mathlib.Core.Path.{sym, ◌∙◌}
use lib.ListN.{length}
use borrow.Author.Tests.{ne_eqb, eq-eqb, not-true, not-false}
use Rattle.report_index.specs.Index.{entries_of, agrees}
use Rattle.report_index.proofs.agreement.agree.Goals as goal

pub returns-then-index-ne0 : goal.returns-then-index-ne0
unfolding agrees
returns-then-index-ne0 c = rw (ne_eqb (length c.args.index.now % 12) 0 c.if-index-ne0.true)

pub returns-then-not-rise : goal.returns-then-not-rise
unfolding agrees entries_of
returns-then-not-rise c = rw (eq-eqb (length c.args.index.now % 12) 0 c.if-index-ne0.false, ← c.rise.ensures, c.if-not-rise.true)

pub match_records-requires : goal.match_records-requires
match_records-requires c = record { n_in_bounds = omega arith; n_value = sym c.rise.ensures ∙ c.if-not-rise.false }

pub returns : goal.returns
unfolding agrees entries_of
returns c = rw (eq-eqb (length c.args.index.now % 12) 0 c.if-index-ne0.false, ← c.rise.ensures, c.if-not-rise.false) c.match_records.ensures
