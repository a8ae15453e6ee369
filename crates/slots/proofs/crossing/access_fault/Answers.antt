-- `slots::crossing::access_fault` meets its contract.
use native.Mathlib.Omega.{arith}
use mathlib.Core.Path.{sym, ◌∙◌}
use borrow.Author.Tests.{lt-ltb, le-ltb}
use Rattle.definition.specs.Module.{module_of}
use Rattle.layout.proofs.Read.{slots-are}
use Rattle.slots.specs.Slots.{access_fault}
use Rattle.slots.proofs.crossing.access_fault.Goals as goal

pub returns-then-t-r : goal.returns-then-t-r
unfolding access_fault
returns-then-t-r c =
    let a = c.args in
    rw (lt-ltb (module_of a.s.now).slots a.r.end (omega (arith, c.if-t-r.true, slots-are a.s.now a.t c.requires.t_value)))

pub returns-then-crosses : goal.returns-then-crosses
unfolding access_fault
returns-then-crosses c =
    let a = c.args in
    rw (
      le-ltb (module_of a.s.now).slots a.r.end (omega (arith, c.if-t-r.false, slots-are a.s.now a.t c.requires.t_value)),
      sym c.crosses.ensures ∙ c.if-crosses.true,
    )

pub returns-then-fine : goal.returns-then-fine
unfolding access_fault
returns-then-fine c =
    let a = c.args in
    rw (
      le-ltb (module_of a.s.now).slots a.r.end (omega (arith, c.if-t-r.false, slots-are a.s.now a.t c.requires.t_value)),
      sym c.crosses.ensures ∙ c.if-crosses.false,
      c.if-fine.true,
    )

pub returns : goal.returns
unfolding access_fault
returns c =
    let a = c.args in
    rw (
      le-ltb (module_of a.s.now).slots a.r.end (omega (arith, c.if-t-r.false, slots-are a.s.now a.t c.requires.t_value)),
      sym c.crosses.ensures ∙ c.if-crosses.false,
      c.if-fine.false,
    )
