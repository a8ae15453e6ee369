-- What no mode accepts, read off the row of a visit.
use Rattle.std.specs.Prelude.{Bool, ◌&&◌, ◌||◌, eqb, ltb}
use Rattle.definition.specs.Leaves.{hopeless, is_return}
use Rattle.visit.specs.declared.RowVisit.{RowVisit}

unfoldable pub never_proven : RowVisit → Bool
never_proven v = ltb v.height v.ins.taken || (hopeless v.rule.asks v.ins.a || (is_return v.rule.acts && eqb v.start 0))
