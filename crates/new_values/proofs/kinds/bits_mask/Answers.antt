-- `new_values::kinds::bits_mask` meets its contract.
use Rattle.definition.specs.Outputs.{bits_mask}
use Rattle.new_values.proofs.kinds.bits_mask.Goals as goal

pub returns-then-one_kind : goal.returns-then-one_kind
unfolding bits_mask
returns-then-one_kind c = rw (← c.common-word.ensures, ← c.one_kind.ensures, c.if-one_kind.true)

pub returns : goal.returns
unfolding bits_mask
returns c = rw (← c.common-word.ensures, ← c.one_kind.ensures, c.if-one_kind.false) c.kind.ensures
