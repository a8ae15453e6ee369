-- `description::shapes::site_yielded` meets its contract.
use Rattle.description.specs.Fields.{yielded_of}
use Rattle.description.proofs.shapes.site_yielded.Goals as goal

pub returns : goal.returns
unfolding yielded_of
returns c = cc
