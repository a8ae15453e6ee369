-- `ways::exit_of` meets its contract.
use native.Mathlib.Numerals.{add-one}
use mathlib.Core.Path.{sym, ap}
use borrow.Author.Tests.{eq-eqb, ne_eqb}
use mathlib.Core.Bool.{Bool, cond}
use Rattle.ops.specs.declared.Exit.TheVariants.{Next, Ifs, Breaks}
use Rattle.definition.specs.Ways.{exit_of}
use Rattle.ways.proofs.exit_of.Goals as goal

pub returns-in-Next : goal.returns-in-Next
unfolding exit_of
returns-in-Next c = rw c.in-Next.is

pub returns-in-Stops : goal.returns-in-Stops
unfolding exit_of
returns-in-Stops c = rw c.in-Stops.is

pub returns-in-Jumps : goal.returns-in-Jumps
unfolding exit_of
returns-in-Jumps c = rw c.in-Jumps.is

pub returns-then-to_next : goal.returns-then-to_next
unfolding exit_of
returns-then-to_next c = rw (c.in-Ifs.is, ← add-one c.args.at) (sym (ap (λ (b : Bool). cond b Next Ifs) (eq-eqb _ _ c.if-to_next.true)))

pub returns-else-to_next : goal.returns-else-to_next
unfolding exit_of
returns-else-to_next c = rw (c.in-Ifs.is, ← add-one c.args.at) (sym (ap (λ (b : Bool). cond b Next Ifs) (ne_eqb _ _ c.if-to_next.false)))

pub returns-then-to_next-2 : goal.returns-then-to_next-2
unfolding exit_of
returns-then-to_next-2 c = rw (c.in-Breaks.is, ← add-one c.args.at) (sym (ap (λ (b : Bool). cond b Next Breaks) (eq-eqb _ _ c.if-to_next-2.true)))

pub returns-else-to_next-2 : goal.returns-else-to_next-2
unfolding exit_of
returns-else-to_next-2 c = rw (c.in-Breaks.is, ← add-one c.args.at) (sym (ap (λ (b : Bool). cond b Next Breaks) (ne_eqb _ _ c.if-to_next-2.false)))

pub returns-in-Restarts : goal.returns-in-Restarts
unfolding exit_of
returns-in-Restarts c = rw c.in-Restarts.is
