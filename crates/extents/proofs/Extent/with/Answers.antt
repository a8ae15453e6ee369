-- `extents::Extent::with` meets its contract.
use Rattle.extents.proofs.Extent.with.Goals as goal

pub returns : goal.returns
returns c = cc
