use Rattle.std.proofs.Common.{eqb, ap}
use Rattle.mark.specs.Marks.{the_mark, marked}
use Rattle.mark.proofs.is_marked.Goals as goal

pub returns : goal.returns
unfolding marked
returns c = ap (λ s. eqb s the_mark) c.sum_of.ensures
