-- `form_rules::tables::table_fault` meets its contract.
use Rattle.definition.specs.Form.{table_fault}
use borrow.Author.Tests.{ne_eqb}
use Rattle.form_rules.proofs.tables.table_fault.Goals as goal

pub returns-then-tag-eq5 : goal.returns-then-tag-eq5
unfolding table_fault
returns-then-tag-eq5 c = rw c.if-tag-eq5.true (cc)

pub returns-then-tag-eq6 : goal.returns-then-tag-eq6
unfolding table_fault
returns-then-tag-eq6 c = rw c.if-tag-eq6.true (cc)

pub returns-then-tag-eq7 : goal.returns-then-tag-eq7
unfolding table_fault
returns-then-tag-eq7 c = rw c.if-tag-eq7.true (cc)

pub returns : goal.returns
unfolding table_fault
returns c = rw (ne_eqb _ _ c.if-tag-eq5.false, ne_eqb _ _ c.if-tag-eq6.false, ne_eqb _ _ c.if-tag-eq7.false) (cc)
