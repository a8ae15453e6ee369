use mathlib.Core.Path.{◌≡◌}
use Rattle.definition.specs.Wants.{all_proven}
use Rattle.checks.specs.asked.Proving.{asked_from, asked_in}
use Rattle.checks.proofs.validation.places_proven.Given as goal

abbrev pub invariant-loop-p : goal.invariant-loop-p
invariant-loop-p l =
    all_proven (asked_from l.s l.ws l.v l.want l.p l.p-end) ≡ all_proven (asked_in l.s l.ws l.v l.want)
