-- `description::shapes::site_reply` meets its contract.
use Rattle.description.specs.Fields.{reply_of}
use Rattle.description.proofs.shapes.site_reply.Goals as goal

pub returns : goal.returns
unfolding reply_of
returns c = cc
