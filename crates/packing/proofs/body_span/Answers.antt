-- `packing::body_span` meets its contract.
use Rattle.packing.proofs.body_span.Goals as goal

pub returns-in-Range : goal.returns-in-Range
returns-in-Range c = rw c.in-Range.is c.span_with.ensures
