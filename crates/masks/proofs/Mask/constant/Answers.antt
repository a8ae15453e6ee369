-- `masks::Mask::constant` meets its contract.
use borrow.Author.Tests.{ne_eqb}
use Rattle.masks.specs.Mask.{constant}
use Rattle.masks.proofs.Mask.constant.Goals as goal

pub returns-in-0 : goal.returns-in-0
unfolding constant
returns-in-0 c = rw c.in-0.is

pub returns-then-truth : goal.returns-then-truth
unfolding constant
returns-then-truth c = rw (c.in-1.is, c.if-truth.true)

pub returns-else-truth : goal.returns-else-truth
unfolding constant
returns-else-truth c = rw (c.in-1.is, c.if-truth.false)

pub returns-in-2 : goal.returns-in-2
unfolding constant
returns-in-2 c = rw c.in-2.is

pub returns-in-3 : goal.returns-in-3
unfolding constant
returns-in-3 c = rw c.in-3.is

pub returns-in-4 : goal.returns-in-4
unfolding constant
returns-in-4 c = rw c.in-4.is

pub returns-in-5 : goal.returns-in-5
unfolding constant
returns-in-5 c = rw c.in-5.is

pub returns-in-6 : goal.returns-in-6
unfolding constant
returns-in-6 c = rw c.in-6.is

pub returns-in-7 : goal.returns-in-7
unfolding constant
returns-in-7 c = rw c.in-7.is

pub returns-in-8 : goal.returns-in-8
unfolding constant
returns-in-8 c = rw c.in-8.is

pub returns-in-9 : goal.returns-in-9
unfolding constant
returns-in-9 c = rw c.in-9.is

pub returns-in-10 : goal.returns-in-10
unfolding constant
returns-in-10 c = rw c.in-10.is

pub returns-in_default : goal.returns-in_default
unfolding constant
returns-in_default c = rw (ne_eqb _ _ c.in_default.in_default-own.rest.0.0.0.0.0.0.0.0.0.0.1, ne_eqb _ _ c.in_default.in_default-own.rest.0.0.0.0.0.0.0.0.0.1, ne_eqb _ _ c.in_default.in_default-own.rest.0.0.0.0.0.0.0.0.1, ne_eqb _ _ c.in_default.in_default-own.rest.0.0.0.0.0.0.0.1, ne_eqb _ _ c.in_default.in_default-own.rest.0.0.0.0.0.0.1, ne_eqb _ _ c.in_default.in_default-own.rest.0.0.0.0.0.1, ne_eqb _ _ c.in_default.in_default-own.rest.0.0.0.0.1, ne_eqb _ _ c.in_default.in_default-own.rest.0.0.0.1, ne_eqb _ _ c.in_default.in_default-own.rest.0.0.1, ne_eqb _ _ c.in_default.in_default-own.rest.0.1, ne_eqb _ _ c.in_default.in_default-own.rest.1)
