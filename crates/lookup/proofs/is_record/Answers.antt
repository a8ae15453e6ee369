-- `lookup::is_record` meets its contract.
use Rattle.lookup.specs.Find.{is_record}
use Rattle.description.specs.Fields.{tag_at, len_at}
use Rattle.lookup.proofs.is_record.Goals as goal

pub returns : goal.returns
unfolding is_record tag_at len_at
returns c = cc
