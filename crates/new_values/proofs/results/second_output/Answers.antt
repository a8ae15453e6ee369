-- `new_values::results::second_output` meets its contract.
use Rattle.definition.specs.Outputs.{second_output}
use Rattle.new_values.proofs.results.second_output.Goals as goal

pub returns-in-Unknowns : goal.returns-in-Unknowns
unfolding second_output
returns-in-Unknowns c = rw c.in-Unknowns.is c.made.ensures

pub returns-in-Words : goal.returns-in-Words
unfolding second_output
returns-in-Words c = rw c.in-Words.is c.made-in-Words.ensures

pub returns-in-Checked : goal.returns-in-Checked
unfolding second_output
returns-in-Checked c = rw c.in-Checked.is c.made-in-Checked.ensures

pub returns-in-Copies : goal.returns-in-Copies
unfolding second_output
returns-in-Copies c = rw c.in-Copies.is

pub returns-in-Tested : goal.returns-in-Tested
unfolding second_output
returns-in-Tested c = rw c.in-Tested.is c.tested.ensures

pub returns-in-Status : goal.returns-in-Status
unfolding second_output
returns-in-Status c = rw (c.in-Status.is, c.made-in-Status.ensures, c.status_mask.ensures)
