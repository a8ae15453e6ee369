-- `checks::asked::places_asked` meets its contract.
use mathlib.Core.Path.{refl, ◌≡◌}
use mathlib.Core.List.{[], ◌∷◌}
use native.Mathlib.Omega.{arith}
use borrow.Enum.Refused.{opened}
use types.Run.{OneOf, miss}
use denote.Enum.Declared.{tag_of}
use Rattle.definition.specs.contracts.Ask.{the_type}
use Rattle.definition.specs.declared.Ask.{Ask}
use Rattle.definition.specs.declared.Ask.TheVariants.{Nothing, First, Both, Every, Below, Writes, WritesIndexed, Never}
use Rattle.visit.specs.declared.RowVisit.{RowVisit}
use Rattle.checks.specs.declared.asked.Places.{Places}
use Rattle.checks.specs.asked.Proving.{places_by}
use Rattle.checks.proofs.asked.places_asked.Goals as goal

the-operands : (v : RowVisit) (a : Ask) → OneOf (0 ∷ 1 ∷ 2 ∷ 3 ∷ 5 ∷ 6 ∷ 7 ∷ []) (tag_of the_type a) → ◌≡◌ {A = Places} (record { from = v.start; end = v.height }) (places_by v a)
unfolding places_by
the-operands v Nothing h = refl
the-operands v First h = refl
the-operands v Both h = refl
the-operands v Every h = refl
the-operands v Below h = absurd (miss (0 ∷ 1 ∷ 2 ∷ 3 ∷ 5 ∷ 6 ∷ 7 ∷ []) 4 tt h)
the-operands v Writes h = refl
the-operands v WritesIndexed h = refl
the-operands v Never h = refl

pub overflow_sub-result : goal.overflow_sub-result
overflow_sub-result c = omega (arith, c.requires c.in-Below.is)

pub returns-in-Below : goal.returns-in-Below
unfolding places_by
returns-in-Below c = rw c.in-Below.is

pub returns-in_default : goal.returns-in_default
returns-in_default c = the-operands c.args.v c.args.want.ask (opened c.in_default.in_default-own.keys2)
