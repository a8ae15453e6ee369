-- `packing::scalar_span` meets its contract.
use Rattle.packing.specs.Packing.{scalar_span}
use Rattle.packing.proofs.scalar_span.Goals as goal

pub returns : goal.returns
unfolding scalar_span
returns c = rw (c.span_with.ensures, c.has-7.ensures, c.span_with-s-6.ensures, c.has-6.ensures, c.span_with-s-5.ensures, c.has-5.ensures, c.span_with-s-4.ensures, c.has-4.ensures, c.span_with-s-3.ensures, c.has-3.ensures, c.span_with-s-2.ensures, c.has-2.ensures, c.span_with-s.ensures, c.has.ensures)
