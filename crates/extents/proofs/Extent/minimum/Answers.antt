-- `extents::Extent::minimum` meets its contract.
use Rattle.extents.proofs.Extent.minimum.Goals as goal

pub returns-in-Range : goal.returns-in-Range
returns-in-Range c = rw c.in-Range.is
