-- `extents::BodyExtent::with` meets its contract.
use Rattle.extents.proofs.BodyExtent.with.Goals as goal

pub returns-in-Absent-other : goal.returns-in-Absent-other
returns-in-Absent-other c = cc

pub returns-in-Range-other : goal.returns-in-Range-other
returns-in-Range-other c = cc
