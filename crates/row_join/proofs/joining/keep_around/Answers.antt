-- `rows::keep_around` meets its contract: the locals before the one that is given, it, and those behind.
use Rattle.row_join.proofs.places.Laws.{places-first, places_behind}
use Rattle.row_join.proofs.joining.Left.{locals-around}
use mathlib.Core.Path.{◌∙◌}
use native.Mathlib.Omega.{arith}
use Rattle.row_join.proofs.joining.keep_around.Goals as goal

pub keep_all-low-requires : goal.keep_all-low-requires
keep_all-low-requires c =
    let a = c.args in
    places-first _ a.from a.to a.n a.set.local c.requires.places_apart (omega (arith, c.requires.local_lt_n))

pub keep_all-high-requires : goal.keep_all-high-requires
keep_all-high-requires c =
    let a = c.args in
    places_behind a.ws.now _ a.from a.to a.n a.set.local c.requires.places_apart c.requires.local_lt_n (c.join_one-one.auto.ws ∙ c.keep_all-low.auto.ws)

pub returns : goal.returns
returns c =
    let a = c.args in
    locals-around a.set a.forget a.from a.to a.n a.fresh a.ws.now _ _ _ _ _ _ c.requires.places_apart c.requires.local_lt_n c.keep_all-low.ensures c.join_one-one.ensures c.keep_all-high.ensures
