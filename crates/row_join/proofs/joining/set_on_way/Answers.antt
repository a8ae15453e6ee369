-- `rows::set_on_way` meets its contract, by whether a local is narrowed.
use lib.ListN.{length}
use Rattle.row_join.proofs.joining.Left.{narrow-room, set-as-given, set-on-way}
use mathlib.Core.Path.{refl}
use Rattle.layout.specs.Layout.{locals_at}
use Rattle.row_join.proofs.joining.set_on_way.Goals as goal

pub returns-then-w-eq-NO_LOCAL : goal.returns-then-w-eq-NO_LOCAL
returns-then-w-eq-NO_LOCAL c = set-as-given _ _ _ c.if-w-eq-NO_LOCAL.true

pub load-c-requires : goal.load-c-requires
load-c-requires c =
    let a = c.args in
    narrow-room a.w.from a.ch.stack a.ch.locals a.w.narrow (length a.ws.now) c.requires.ch_in_bounds c.if-w-eq-NO_LOCAL.false c.requires.fact

pub returns : goal.returns
returns c =
    let a = c.args in
    set-on-way a.set _ a.w.narrow (locals_at a.w.from a.ch.stack) a.ch.locals a.ws.now c.load-c.result c.if-w-eq-NO_LOCAL.false c.requires.fact c.load-c.ensures refl c.narrow_enum.ensures
