use native.Mathlib.Omega.{arith}
use Rattle.words.proofs.Cells.{encoded, fits}
use Rattle.words.proofs.cell.words_of.Goals as goal

pub returns : goal.returns
returns c = (
  encoded c.args.c _ _ _ _ _ c.two_of-w.ensures.0 c.four_of-x.ensures.0 c.origin_words-o.ensures.0 c.predicate_words-p.ensures.0 c.owned_bits.ensures.0,
  fits c.args.c _ _ (omega arith) c.four_of-x.ensures.1 c.origin_words-o.ensures.0 c.origin_words-o.ensures.2 c.predicate_words-p.ensures.0 c.predicate_words-p.ensures.2,
)
