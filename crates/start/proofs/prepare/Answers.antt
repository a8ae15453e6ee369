-- `start::prepare` meets its contract.
use Rattle.start.proofs.Settled.{sites-suspend, all_settled}
use native.Mathlib.Omega.{arith}
use Rattle.layout.proofs.Kept.{indexed-steady}
use Rattle.start.proofs.prepare.Goals as goal

pub rebuild-requires : goal.rebuild-requires
rebuild-requires c = let d = c.declare.ensures in record { indexed = indexed-steady _ _ _ d.steady c.requires.indexed; sites_suspend = sites-suspend _ _ _ c.requires.fresh d; s_in_bounds = omega (arith, c.requires.s_in_bounds, d.outside.length); t_value = c.requires.t_value; s_value = c.requires.s_value }

pub returns : goal.returns
returns c = all_settled _ _ _ _ _ c.requires.indexed c.requires.fresh c.declare.ensures c.rebuild.ensures
