-- `description::has_site` meets its contract.
use Rattle.description.specs.Fields.{has_site}
use Rattle.description.proofs.has_site.Goals as goal

pub returns : goal.returns
unfolding has_site
returns c = cc
