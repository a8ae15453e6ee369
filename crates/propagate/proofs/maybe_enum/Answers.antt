-- `propagate::maybe_enum` meets its contract: a local is read in the row; past the locals there is none.
use mathlib.Core.Path.{◌∙◌}
use Rattle.propagate.proofs.Cuts.{may-there, may_none}
use Rattle.propagate.proofs.maybe_enum.Goals as goal

pub returns-then-local-ch : goal.returns-then-local-ch
returns-then-local-ch c =
    let a = c.args in
    c.has.ensures
    ∙ rw (c.mask_at-m.ensures, c.local_at.ensures)
    (may-there a.ws.now a.ch a.v a.local c.if-local-ch.true)

pub returns : goal.returns
returns c =
    let a = c.args in
    may_none a.ws.now a.ch a.v a.local c.if-local-ch.false
