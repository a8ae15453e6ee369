use Rattle.index_fill.proofs.Walking.{shifted, float_fits}
use Rattle.index_fill.specs.model.Model.{first_tables}
use native.Mathlib.Omega.{arith}
use Rattle.index_fill.proofs.first_tables.Goals as goal

pub overflow_shl-result : goal.overflow_shl-result
overflow_shl-result c = omega (arith, float_fits _ _ _ c.requires c.header_at-h.ensures)

pub returns : goal.returns
unfolding first_tables
returns c = rw (shifted _ (float_fits _ _ _ c.requires c.header_at-h.ensures), c.header_at-h.ensures)
