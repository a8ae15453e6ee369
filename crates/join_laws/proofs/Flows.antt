-- The laws of flows and their parts.
use Rattle.std.specs.Prelude.{ℕ, Option, None, Some}
use mathlib.Core.Path.{◌≡◌, refl, ap, ap₂}
use mathlib.Core.Bool.{Bool, true, false}
use lib.Dec.{eqb}
use borrow.Author.Tests.{eq-eqb, eqb-true}
use Rattle.masks.proofs.Both.{both, never}
use Rattle.extents.specs.Extent.{same_bodies}
use Rattle.flows.specs.Flow.{same_bool, join_owned, same_owned, join_origin, same_origin, join_predicate, same_predicate, join_flow, same_flow, joined_flow}
use Rattle.flows.specs.declared.Predicate.{Predicate}
use Rattle.flows.specs.declared.Predicate.TheVariants.{Nothing as Untested, Tests}
use Rattle.flows.specs.declared.Flow.{Flow}
use Rattle.join_laws.specs.Join.{Joins, Equals, Takes}
use Rattle.join_laws.proofs.Join.{unchanged, still}
use Rattle.join_laws.proofs.Flat.{flat-joins}
use Rattle.join_laws.proofs.Extents.{bodies-joins, bodies-equals}

-- ---- owned
owned-idem : (x : Bool) → join_owned x x ≡ x
owned-idem true = refl
owned-idem false = refl

owned-comm : (x y : Bool) → join_owned x y ≡ join_owned y x
owned-comm true true = refl
owned-comm true false = refl
owned-comm false true = refl
owned-comm false false = refl

owned-assoc : (x y z : Bool) → join_owned (join_owned x y) z ≡ join_owned x (join_owned y z)
owned-assoc true y z = refl
owned-assoc false y z = refl

pub owned-joins : Joins join_owned
owned-joins = record { idem = owned-idem; comm = owned-comm; assoc = owned-assoc }

owned-sound : (x y : Bool) → same_owned x y ≡ true → x ≡ y
owned-sound true true h = refl
owned-sound true false h = never h
owned-sound false true h = never h
owned-sound false false h = refl

owned-whole : (x : Bool) → same_owned x x ≡ true
owned-whole true = refl
owned-whole false = refl

pub owned-equals : Equals same_owned
owned-equals = record { sound = owned-sound; whole = owned-whole }

-- ---- origin
origin-sound : (x y : Option ℕ) → same_origin x y ≡ true → x ≡ y
origin-sound None None h = refl
origin-sound None (Some b) h = never h
origin-sound (Some a) None h = never h
origin-sound (Some a) (Some b) h = ap Some (eqb-true a b h)

origin-whole : (x : Option ℕ) → same_origin x x ≡ true
origin-whole None = refl
origin-whole (Some a) = eq-eqb a a refl

pub origin-equals : Equals same_origin
origin-equals = record { sound = origin-sound; whole = origin-whole }

pub origin-joins : Joins join_origin
origin-joins = flat-joins same_origin None origin-equals

-- ---- predicate
pub bool-sound : (x y : Bool) → same_bool x y ≡ true → x ≡ y
bool-sound true true h = refl
bool-sound true false h = never h
bool-sound false true h = never h
bool-sound false false h = refl

bool-whole : (x : Bool) → same_bool x x ≡ true
bool-whole true = refl
bool-whole false = refl

predicate-sound : (x y : Predicate) → same_predicate x y ≡ true → x ≡ y
predicate-sound Untested Untested h = refl
predicate-sound Untested (Tests b y) h = never h
predicate-sound (Tests a x) Untested h = never h
predicate-sound (Tests a x) (Tests b y) h =
    let (p, q) = both (eqb a b) (same_bool x y) h in ap₂ Tests (eqb-true a b p) (bool-sound x y q)

predicate-whole : (x : Predicate) → same_predicate x x ≡ true
predicate-whole Untested = refl
predicate-whole (Tests a x) = rw (eq-eqb a a refl) (bool-whole x)

pub predicate-equals : Equals same_predicate
predicate-equals = record { sound = predicate-sound; whole = predicate-whole }

pub predicate-joins : Joins join_predicate
predicate-joins = flat-joins same_predicate Untested predicate-equals

-- ---- flows
pub flow-eq : (x y : Flow) → x.bodies ≡ y.bodies → x.owned ≡ y.owned → x.origin ≡ y.origin → x.predicate ≡ y.predicate → x ≡ y
flow-eq x y b w o p = λ i. record { bodies = b i; owned = w i; origin = o i; predicate = p i }

flow-idem : (x : Flow) → join_flow x x ≡ x
unfolding join_flow
flow-idem x =
    flow-eq _ _ (bodies-joins.idem x.bodies) (owned-joins.idem x.owned) (origin-joins.idem x.origin)
    (predicate-joins.idem x.predicate)

flow-comm : (x y : Flow) → join_flow x y ≡ join_flow y x
unfolding join_flow
flow-comm x y =
    flow-eq _ _ (bodies-joins.comm x.bodies y.bodies) (owned-joins.comm x.owned y.owned)
    (origin-joins.comm x.origin y.origin)
    (predicate-joins.comm x.predicate y.predicate)

flow-assoc : (x y z : Flow) → join_flow (join_flow x y) z ≡ join_flow x (join_flow y z)
unfolding join_flow
flow-assoc x y z =
    flow-eq _ _ (bodies-joins.assoc x.bodies y.bodies z.bodies) (owned-joins.assoc x.owned y.owned z.owned)
    (origin-joins.assoc x.origin y.origin z.origin)
    (predicate-joins.assoc x.predicate y.predicate z.predicate)

pub flow-joins : Joins join_flow
flow-joins = record { idem = flow-idem; comm = flow-comm; assoc = flow-assoc }

flow-sound : (x y : Flow) → same_flow x y ≡ true → x ≡ y
unfolding same_flow
flow-sound x y h =
    let (b, h1) = both (same_bodies x.bodies y.bodies) _ h in
    let (w, h2) = both (same_owned x.owned y.owned) _ h1 in
    let (o, p) = both (same_origin x.origin y.origin) _ h2 in
    flow-eq x y (bodies-equals.sound _ _ b) (owned-sound _ _ w) (origin-sound _ _ o) (predicate-sound _ _ p)

flow-whole : (x : Flow) → same_flow x x ≡ true
unfolding same_flow
flow-whole x =
    rw (bodies-equals.whole x.bodies, owned-whole x.owned, origin-whole x.origin) (predicate-whole x.predicate)

pub flow-equals : Equals same_flow
flow-equals = record { sound = flow-sound; whole = flow-whole }

pub flow-unchanged : (x y : Flow) → (joined_flow x y).changed ≡ false → Takes join_flow x y
flow-unchanged = unchanged join_flow flow-equals

pub flow-still : (x y : Flow) → Takes join_flow x y → (joined_flow x y).changed ≡ false
flow-still = still join_flow flow-equals
