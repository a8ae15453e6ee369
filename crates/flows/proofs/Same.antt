-- What the derived `==` of flows answers.
use Rattle.std.specs.Prelude.{Option, None, Some, ℕ, nat_eq}
use Rattle.std.specs.Option.{option_eq}
use mathlib.Core.Path.{◌≡◌, refl}
use mathlib.Core.Bool.{Bool, true, false, beq, ◌&&◌}
use Rattle.extents.proofs.Same.{bodies-same}
use Rattle.flows.specs.declared.Predicate.{Predicate}
use Rattle.flows.specs.declared.Predicate.TheVariants.{Nothing, Tests}
use Rattle.flows.specs.declared.Flow.{Flow}
use Rattle.flows.specs.Flow.{same_bool, same_owned, same_origin, same_predicate, same_flow}
use Rattle.flows.specs.contracts.PredicatePartialEq.TheImpl as predicate
use Rattle.flows.specs.contracts.FlowPartialEq.TheImpl as flow

pub bool-same : (x y : Bool) → beq x y ≡ same_bool x y
bool-same true true = refl
bool-same true false = refl
bool-same false true = refl
bool-same false false = refl

owned-same : (x y : Bool) → beq x y ≡ same_owned x y
owned-same true true = refl
owned-same true false = refl
owned-same false true = refl
owned-same false false = refl

origin-same : (x y : Option ℕ) → option_eq nat_eq x y ≡ same_origin x y
origin-same None None = refl
origin-same None (Some b) = refl
origin-same (Some a) None = refl
origin-same (Some a) (Some b) = refl

predicate-same : (x y : Predicate) → predicate.ghosts.eq x y ≡ same_predicate x y
predicate-same Nothing Nothing = refl
predicate-same Nothing (Tests b y) = refl
predicate-same (Tests a x) Nothing = refl
predicate-same (Tests a x) (Tests b y) = λ i. nat_eq a b && bool-same x y i

pub flow-same : (x y : Flow) → flow.ghosts.eq x y ≡ same_flow x y
unfolding same_flow
flow-same x y =
    λ i. bodies-same x.bodies y.bodies i
    && (owned-same x.owned y.owned i
    && (origin-same x.origin y.origin i
    && predicate-same x.predicate y.predicate i))
