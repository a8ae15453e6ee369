-- `new_values::results::rest_output` meets its contract.
use Rattle.definition.specs.Outputs.{rest_output}
use Rattle.new_values.proofs.results.rest_output.Goals as goal

pub returns-in-Unknowns : goal.returns-in-Unknowns
unfolding rest_output
returns-in-Unknowns c = rw c.in-Unknowns.is c.made.ensures

pub returns-in-Words : goal.returns-in-Words
unfolding rest_output
returns-in-Words c = rw c.in-Words.is c.made-in-Words.ensures

pub returns-in-Checked : goal.returns-in-Checked
unfolding rest_output
returns-in-Checked c = rw c.in-Checked.is c.made-in-Checked.ensures

pub returns-in-Copies : goal.returns-in-Copies
unfolding rest_output
returns-in-Copies c = rw c.in-Copies.is

pub returns-in-Tested : goal.returns-in-Tested
unfolding rest_output
returns-in-Tested c = rw c.in-Tested.is c.made-in-Tested.ensures

pub returns-in-Status : goal.returns-in-Status
unfolding rest_output
returns-in-Status c = rw c.in-Status.is c.made-in-Status.ensures
