use Rattle.index_fill.specs.model.Model.{instr_work, instr_words}
use mathlib.Core.Path.{refl}
use native.Mathlib.Omega.{arith}
use lib.ListN.{length-set}
use Rattle.index_fill.proofs.fill_instr.Goals as goal

pub bounds-ws-count : goal.bounds-ws-count
bounds-ws-count c = simp length-set (omega arith)

pub returns : goal.returns
unfolding instr_work instr_words
returns c = (refl, refl)
