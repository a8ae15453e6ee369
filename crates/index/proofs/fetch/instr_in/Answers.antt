-- `index::fetch::instr_in` meets its contract.
use Rattle.le.specs.Le.{at8}
use Rattle.description.specs.Fields.{instr_of}
use Rattle.index.proofs.fetch.instr_in.Goals as goal

pub returns : goal.returns
unfolding instr_of at8
returns c = cc
