-- `slots::slot_allows` meets its contract.
use borrow.Author.Tests.{lt-ltb, le-ltb}
use lib.ListN.{length}
use Rattle.definition.specs.Module.{module_of}
use Rattle.layout.proofs.Read.{shared-are}
use native.Mathlib.Omega.{arith}
use mathlib.Core.Path.{sym, ◌∙◌}
use Rattle.definition.specs.Data.{slot_allows}
use Rattle.slots.proofs.slot_allows.Goals as goal

pub returns-then-slot_placed : goal.returns-then-slot_placed
unfolding slot_allows
returns-then-slot_placed c = rw (sym c.slot_placed.ensures ∙ c.if-slot_placed.true)

pub returns-then-n-t : goal.returns-then-n-t
unfolding slot_allows
returns-then-n-t c =
    let a = c.args in
    let sh = length (module_of a.s.now).shared in
    rw (
      sym c.slot_placed.ensures ∙ c.if-slot_placed.false,
      lt-ltb a.n sh (omega (arith, c.if-n-t.true, shared-are a.s.now a.t c.requires.t_value)),
    )
    c.slot_mask.ensures

pub returns : goal.returns
unfolding slot_allows
returns c =
    let a = c.args in
    let sh = length (module_of a.s.now).shared in
    rw (
      sym c.slot_placed.ensures ∙ c.if-slot_placed.false,
      le-ltb a.n sh (omega (arith, c.if-n-t.false, shared-are a.s.now a.t c.requires.t_value)),
    )
