-- `form::check_form` meets its contract: a reader that has just begun stands before all of the description.
use Rattle.description.specs.reader.Reading.{left}
use Rattle.form.proofs.check_form.Goals as goal

pub returns : goal.returns
unfolding left
returns c = rw (c.start.ensures.0, c.start.ensures.1) at c.scan.ensures
