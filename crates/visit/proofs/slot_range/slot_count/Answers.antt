use Rattle.definition.specs.Data.{slot_count}
use borrow.Author.Rules.{rules}
use Rattle.visit.proofs.slot_range.slot_count.Goals as goal

pub returns-in-NoSlot : goal.returns-in-NoSlot
unfolding slot_count
returns-in-NoSlot c = search rules

pub returns-in-OneSlot : goal.returns-in-OneSlot
unfolding slot_count
returns-in-OneSlot c = search rules

pub returns-in-ManySlots : goal.returns-in-ManySlots
unfolding slot_count
returns-in-ManySlots c = search rules
