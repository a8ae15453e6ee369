use Rattle.index_fill.specs.model.Model.{numbers_of}
use native.Mathlib.Omega.{arith}
use Rattle.index_fill.proofs.numbers_of.Goals as goal

pub returns : goal.returns
unfolding numbers_of
returns c = (
  rw (c.chunk_head_at-h.ensures, c.from-params.ensures, c.params_in.ensures),
  record {
    at = omega (arith, c.requires);
    rows = omega (arith, c.requires, c.from-params.ensures, c.params_in.ensures);
    count = omega arith;
    locals = omega (arith, c.chunk_head_at-h.type_inv);
    stack = omega (arith, c.chunk_head_at-h.type_inv);
    inputs = omega (arith, c.requires);
    params = omega (arith, c.requires, c.from-params.ensures, c.params_in.ensures);
  },
)
