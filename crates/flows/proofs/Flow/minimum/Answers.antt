-- `flows::Flow::minimum` meets its contract.
use borrow.Author.Tests.{ne_eqb}
use Rattle.flows.specs.Flow.{minimum_of}
use Rattle.flows.proofs.Flow.minimum.Goals as goal

pub returns-in-256 : goal.returns-in-256
unfolding minimum_of
returns-in-256 c = rw c.in-256.is c.minimum.ensures

pub returns-in-512 : goal.returns-in-512
unfolding minimum_of
returns-in-512 c = rw c.in-512.is c.minimum-in-512.ensures

pub returns-in-1024 : goal.returns-in-1024
unfolding minimum_of
returns-in-1024 c = rw c.in-1024.is c.minimum-in-1024.ensures

pub returns-in-2048 : goal.returns-in-2048
unfolding minimum_of
returns-in-2048 c = rw c.in-2048.is c.minimum-in-2048.ensures

pub returns-in_default : goal.returns-in_default
unfolding minimum_of
returns-in_default c = rw (ne_eqb _ _ c.in_default.in_default-own.rest.0.0.0.1, ne_eqb _ _ c.in_default.in_default-own.rest.0.0.1, ne_eqb _ _ c.in_default.in_default-own.rest.0.1, ne_eqb _ _ c.in_default.in_default-own.rest.1)
