-- `ways::ways_of` meets its contract.
use native.Mathlib.Numerals.{add-one}
use Rattle.definition.specs.Ways.{ways_of}
use Rattle.ways.proofs.ways_of.Goals as goal

pub returns-in-Next : goal.returns-in-Next
unfolding ways_of
returns-in-Next c = rw (c.in-Next.is, add-one)

pub returns-in-Stops : goal.returns-in-Stops
unfolding ways_of
returns-in-Stops c = rw c.in-Stops.is

pub returns-in-Jumps : goal.returns-in-Jumps
unfolding ways_of
returns-in-Jumps c = rw c.in-Jumps.is

pub returns-in-Ifs : goal.returns-in-Ifs
unfolding ways_of
returns-in-Ifs c = rw (c.in-Ifs.is, ← add-one c.args.at) c.branch-condition.ensures

pub returns-in-Breaks : goal.returns-in-Breaks
unfolding ways_of
returns-in-Breaks c = rw (c.in-Breaks.is, ← add-one c.args.at) c.branch-condition-in-Breaks.ensures

pub returns-in-Restarts : goal.returns-in-Restarts
unfolding ways_of
returns-in-Restarts c = rw c.in-Restarts.is
