-- `masks::Mask::kind` meets its contract.
use mathlib.Core.Path.{ap, sym}
use Rattle.masks.specs.Mask.{of, kind}
use borrow.Author.Tests.{eq-eqb, ne_eqb}
use lib.Bits.{or_zero_r}
use Rattle.masks.proofs.Mask.kind.Goals as goal

pub returns-then-self-ne0 : goal.returns-then-self-ne0
unfolding kind
returns-then-self-ne0 c = rw (ne_eqb _ _ c.if-self-ne0.true)

pub returns : goal.returns
unfolding kind
returns c = rw (eq-eqb _ _ c.if-self-ne0.false) (ap of (sym (or_zero_r _)))
