-- `wants::want_of` meets its contract.
use Rattle.definition.specs.Wants.{want_by}
use Rattle.wants.proofs.want_of.Goals as goal

pub returns-in-Free : goal.returns-in-Free
unfolding want_by
returns-in-Free c = rw c.in-Free.is c.nothing.ensures

pub returns-in-First : goal.returns-in-First
unfolding want_by
returns-in-First c = rw c.in-First.is c.one.ensures

pub returns-in-Both : goal.returns-in-Both
unfolding want_by
returns-in-Both c = rw c.in-Both.is c.two.ensures

pub returns-in-Yielded : goal.returns-in-Yielded
unfolding want_by
returns-in-Yielded c = rw c.in-Yielded.is c.one-in-Yielded.ensures

pub returns-in-Returned : goal.returns-in-Returned
unfolding want_by
returns-in-Returned c = rw c.in-Returned.is c.returned.ensures

pub returns-in-Every : goal.returns-in-Every
unfolding want_by
returns-in-Every c = rw (c.in-Every.is, c.every.ensures, c.common.ensures)

pub returns-in-Ordered : goal.returns-in-Ordered
unfolding want_by
returns-in-Ordered c = rw (c.in-Ordered.is, c.every-in-Ordered.ensures, c.common-in-Ordered.ensures)

pub returns-in-Same : goal.returns-in-Same
unfolding want_by
returns-in-Same c = rw c.in-Same.is c.same.ensures

pub returns-in-Stored : goal.returns-in-Stored
unfolding want_by
returns-in-Stored c = rw c.in-Stored.is c.stored.ensures

pub returns-in-PartOf : goal.returns-in-PartOf
unfolding want_by
returns-in-PartOf c = rw c.in-PartOf.is c.part_of.ensures

pub returns-in-Never : goal.returns-in-Never
unfolding want_by
returns-in-Never c = rw c.in-Never.is c.never.ensures
