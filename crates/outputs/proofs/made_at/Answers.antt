-- `outputs::made_at` meets its contract.
use Rattle.outputs.proofs.First.{made-is}
use Rattle.outputs.proofs.made_at.Goals as goal

pub returns : goal.returns
returns c = rw (c.second_output.ensures, c.rest_output.ensures) (made-is _ _ _ c.requires.looking _ c.requires.t_value _ c.first_output-first.ensures)
