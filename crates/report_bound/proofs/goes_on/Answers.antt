-- `report_bound::goes_on` meets its contract.
use borrow.Author.Rules.{rules}
use mathlib.Core.Path.{◌≡◌}
use Rattle.report_bound.specs.Most.{is_next, goes_on}
use Rattle.report_bound.proofs.goes_on.Goals as goal

pub returns : goal.returns
unfolding goes_on
returns c =
    let next : c.eq.result ≡ is_next c.rule_of-rule.result.exit = search rules in
    rw (c.is_reset.ensures, next, c.rule_of-rule.ensures)
