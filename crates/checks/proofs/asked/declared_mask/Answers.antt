-- `checks::asked::declared_mask` meets its contract.
use mathlib.Core.Path.{◌≡◌, refl}
use mathlib.Core.List.{[], ◌∷◌}
use borrow.Enum.Refused.{opened}
use types.Run.{OneOf, miss}
use denote.Enum.Declared.{tag_of}
use Rattle.ops.specs.contracts.Asks.{the_type}
use Rattle.ops.specs.declared.Asks.{Asks}
use Rattle.ops.specs.declared.Asks.TheVariants.{Free, First, Both, Yielded, Returned, Every, Ordered, Same, Stored, PartOf, Never}
use Rattle.masks.specs.declared.Mask.{Mask}
use Rattle.masks.specs.Names.{NONE}
use Rattle.definition.specs.Wants.{declared_kinds}
use Rattle.checks.proofs.asked.declared_mask.Goals as goal

none-declared : (a : Asks) (y r : Mask) → OneOf (0 ∷ 1 ∷ 2 ∷ 5 ∷ 6 ∷ 7 ∷ 8 ∷ 9 ∷ 10 ∷ []) (tag_of the_type a) → NONE ≡ declared_kinds a y r
unfolding declared_kinds
none-declared Free y r h = refl
none-declared (First m) y r h = refl
none-declared (Both m n) y r h = refl
none-declared Yielded y r h = absurd (miss (0 ∷ 1 ∷ 2 ∷ 5 ∷ 6 ∷ 7 ∷ 8 ∷ 9 ∷ 10 ∷ []) 3 tt h)
none-declared Returned y r h = absurd (miss (0 ∷ 1 ∷ 2 ∷ 5 ∷ 6 ∷ 7 ∷ 8 ∷ 9 ∷ 10 ∷ []) 4 tt h)
none-declared (Every m) y r h = refl
none-declared Ordered y r h = refl
none-declared (Same k) y r h = refl
none-declared Stored y r h = refl
none-declared (PartOf k) y r h = refl
none-declared Never y r h = refl

pub returns-in-Yielded : goal.returns-in-Yielded
unfolding declared_kinds
returns-in-Yielded c = rw c.in-Yielded.is c.yielded_mask.ensures

pub returns-in-Returned : goal.returns-in-Returned
unfolding declared_kinds
returns-in-Returned c = rw c.in-Returned.is c.result_mask.ensures

pub returns-in_default : goal.returns-in_default
returns-in_default c = none-declared c.args.v.rule.asks _ _ (opened c.in_default.in_default-own.keys3)
