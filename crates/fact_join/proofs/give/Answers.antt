-- `fact_join::give` meets its contract, by what the rule does: what the definition's visit gives is what the called function took in, or nothing.
use Rattle.ops.specs.contracts.Acts.{the_type as acts_type}
use Rattle.definition.specs.Outputs.{Visit as DefinedVisit}
use Prim.Native.Nat.{ℕ, ◌<◌}
use mathlib.Core.Logic.{inl, inr}
use mathlib.Core.List.{[], ◌∷◌}
use mathlib.Core.Path.{◌≡◌, refl, sym, ◌∙◌}
use native.Mathlib.Omega.{arith}
use denote.Enum.Declared.{tag_of}
use borrow.Enum.Refused.{opened}
use types.Run.{OneOf}
use Rattle.fact_join.proofs.Gifts.{taken-there, value_there, slots-there, gives-arguments, gives-writes, gives-result, gives_none, gives-still, taken_in, nothing-taken}
use Rattle.visit.specs.Held.{visit_in}
use Rattle.definition.specs.State.{nothing}
use Rattle.ops.specs.declared.Acts.TheVariants.{Still, SetsLocal, Yields, Calls, Returns, Resets, Stores}
use Rattle.ops.specs.declared.Acts.{Acts}
use Rattle.fact_join.proofs.Cells.{result-taken}
use Rattle.visit.proofs.Visits.{looking-standing}
use Rattle.layout.proofs.Read.{result-is}
use Rattle.layout.proofs.Apart.{result-in}
use Rattle.definition.specs.Leaves.{gives_by}
use Rattle.definition.specs.Module.{module_of}
use Rattle.fact_join.proofs.give.Goals as goal

none : (k : ℕ) → 2 < k → (k ≡ 5 → ⊥) → OneOf (0 ∷ 1 ∷ 2 ∷ 5 ∷ []) k → ⊥
none k l d (inl e) = omega arith
none k l d (inr (inl e)) = omega arith
none k l d (inr (inr (inl e))) = omega arith
none k l d (inr (inr (inr e))) = d e

still : (u : DefinedVisit) (a : Acts) → OneOf (0 ∷ 1 ∷ 2 ∷ 5 ∷ []) (tag_of acts_type a) → gives_by u a ≡ nothing
unfolding gives_by
still u Still h = refl
still u SetsLocal h = refl
still u Yields h = refl
still u Resets h = refl
still u Calls h = absurd (none 3 (omega arith) (λ e. omega arith) h)
still u Returns h = absurd (none 4 (omega arith) (λ e. omega arith) h)
still u Stores h = absurd (none 6 (omega arith) (λ e. omega arith) h)

pub give_writes-requires : goal.give_writes-requires
give_writes-requires c =
    let a = c.args in
    record { looking = c.requires.looking; t_value = c.requires.t_value; slots_value = slots-there a.s.now a.ws.now a.v c.requires.looking c.requires.v_value }

pub give_arguments-requires : goal.give_arguments-requires
give_arguments-requires c =
    let a = c.args in
    record { looking = c.requires.looking; acts_value = c.in-Calls.is; taken_le_height = taken-there a.s.now a.ws.now a.v c.requires.looking c.requires.v_value }

pub give_result-requires : goal.give_result-requires
give_result-requires c =
    let a = c.args in
    let r = looking-standing a.s.now a.ws.now a.v c.requires.looking in record { start_nonzero = value_there a.s.now a.ws.now a.v c.requires.looking c.requires.v_value c.in-Returns.is; start_in_bounds = omega arith; params_in_bounds = omega (arith, result-is a.s.now a.ws.now a.v.chunk a.ch c.requires.ch_value, result-in (module_of a.s.now) a.v.chunk c.requires.looking.chunk, c.requires.looking.indexed.room) }

pub returns-in-Stores : goal.returns-in-Stores
returns-in-Stores c =
    let a = c.args in
    taken_in a.s.now a.ws.now a.changed _ _ _ _ (gives-writes a.s.now a.ws.now a.v c.requires.looking c.in-Stores.is) c.give_writes.ensures

pub returns-in-Calls : goal.returns-in-Calls
returns-in-Calls c =
    let a = c.args in
    taken_in a.s.now a.ws.now a.changed _ _ _ _ (gives-arguments a.s.now a.ws.now a.v c.requires.looking c.in-Calls.is) c.give_arguments.ensures

pub returns-then-entry : goal.returns-then-entry
returns-then-entry c =
    let a = c.args in
    nothing-taken a.s.now a.ws.now a.changed _
    (gives_none a.s.now a.ws.now a.v c.requires.looking c.in-Returns.is (sym c.requires.value ∙ c.if-entry.true))

pub returns-else-entry : goal.returns-else-entry
returns-else-entry c =
    let a = c.args in
    let e = c.in-Returns.is in
    taken_in a.s.now a.ws.now a.changed _ _ _ _
    (gives-result a.s.now a.ws.now a.v c.requires.looking e (sym c.requires.value ∙ c.if-entry.false) (value_there a.s.now a.ws.now a.v c.requires.looking c.requires.v_value e))
    (result-taken a.s.now a.ws.now _ a.v.chunk _ a.changed _ c.requires.looking.indexed c.requires.chunk_bound
    (rw (result-is a.s.now a.ws.now a.v.chunk a.ch c.requires.ch_value) at c.give_result.ensures))

pub returns-in_default : goal.returns-in_default
returns-in_default c =
    let a = c.args in
    nothing-taken a.s.now a.ws.now a.changed _
    (gives-still a.s.now a.ws.now a.v c.requires.looking a.v.rule.acts refl (still (visit_in a.s.now a.ws.now a.v) a.v.rule.acts (opened c.in_default.in_default-own.keys4)))
