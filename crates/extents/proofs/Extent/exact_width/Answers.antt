-- `extents::Extent::exact_width` meets its contract.
use Rattle.extents.proofs.Extent.exact_width.Goals as goal

pub returns-in-Some : goal.returns-in-Some
returns-in-Some c = cc
