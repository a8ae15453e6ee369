-- `listing::line` meets its contract.
use Rattle.listing.specs.Listing.{field_line}
use Rattle.description.specs.Fields.{tag_at}
use mathlib.Core.Path.{sym, ◌∙◌}
use borrow.Author.Tests.{ne_eqb}
use Rattle.listing.proofs.Laid.{laid_none}
use Rattle.listing.proofs.line.Goals as goal

pub returns-in-16 : goal.returns-in-16
unfolding field_line tag_at
returns-in-16 c = rw (sym c.u8_at.ensures ∙ c.in-16.is, ← c.u32_at.ensures) c.accepted.ensures

pub returns-in-19 : goal.returns-in-19
unfolding field_line tag_at
returns-in-19 c = rw (sym c.u8_at.ensures ∙ c.in-19.is) c.recorded.ensures

pub returns-in-20 : goal.returns-in-20
unfolding field_line tag_at
returns-in-20 c = rw (sym c.u8_at.ensures ∙ c.in-20.is) c.inspection.ensures

pub returns-in-21 : goal.returns-in-21
unfolding field_line tag_at
returns-in-21 c = rw (sym c.u8_at.ensures ∙ c.in-21.is) c.branch-s.ensures

pub returns-in_default : goal.returns-in_default
unfolding field_line tag_at
returns-in_default c =
    let r = c.in_default.in_default-own.rest in
    rw (← c.u8_at.ensures, ne_eqb _ _ r.0.0.0.1, ne_eqb _ _ r.0.0.1, ne_eqb _ _ r.0.1, ne_eqb _ _ r.1)
    (laid_none _ _ c.requires.0)
