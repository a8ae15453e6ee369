use Rattle.index_fill.specs.model.Model.{unmarked_words}
use mathlib.Core.Path.{◌≡◌}
use Rattle.index_fill.proofs.unmark.Given as goal

abbrev pub invariant-loop-slot : goal.invariant-loop-slot
invariant-loop-slot l = l.ws ≡ unmarked_words l.t l.slot l.initial.ws
