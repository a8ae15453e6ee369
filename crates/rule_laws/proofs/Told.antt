-- Which instruction makes, asks or does what only one does: seen at each line of the table. A case is told from the others by its place
-- among them, so a new case of a rule wants no line here.
use Prim.Native.Nat.{ℕ}
use mathlib.Core.Path.{◌≡◌, refl}
use mathlib.Core.Bool.{Bool, true, false, cond}
use lib.Dec.{eqb}
use borrow.Author.Tests.{eqb-true}
use denote.Enum.Declared.{tag_of}
use Rattle.ops.specs.contracts.Makes.{the_type as makes_type}
use Rattle.ops.specs.contracts.Asks.{the_type as asks_type}
use Rattle.ops.specs.contracts.Acts.{the_type as acts_type}
use Rattle.ops.specs.declared.Makes.{Makes}
use Rattle.ops.specs.declared.Makes.TheVariants.{Local, Reply, Result, Slots}
use Rattle.ops.specs.declared.Asks.{Asks}
use Rattle.ops.specs.declared.Asks.TheVariants.{Yielded, Returned, Stored}
use Rattle.ops.specs.declared.Acts.{Acts}
use Rattle.ops.specs.declared.Acts.TheVariants.{SetsLocal, Yields, Calls, Returns}
use Rattle.ops.specs.declared.Data.{Data}
use Rattle.ops.specs.declared.Data.TheVariants.{NoSlot, OneSlot, ManySlots}
use Rattle.ops.specs.Numbers.{op_get_local, op_set_local, op_call, op_return, op_yield}
use Rattle.ops.specs.Ops.{rules, rule_of}
use Rattle.definition.specs.Form.{local, callee, fits, fit_of}
use Rattle.rule_laws.proofs.Table.{every-rule}

abbrev pub names_slots : Data → Bool
names_slots NoSlot = false
names_slots OneSlot = true
names_slots ManySlots = true

abbrev makes : Makes → Makes → Bool
makes a b = eqb (tag_of makes_type a) (tag_of makes_type b)

abbrev asks : Asks → Asks → Bool
asks a b = eqb (tag_of asks_type a) (tag_of asks_type b)

abbrev does : Acts → Acts → Bool
does a b = eqb (tag_of acts_type a) (tag_of acts_type b)

-- a local, a reply and a result are made by one instruction each; what reads slots names some
abbrev maker : Makes → Data → ℕ → Bool
maker m d op =
    cond (makes m Local) (eqb op op_get_local)
    (cond (makes m Reply) (eqb op op_yield)
    (cond (makes m Result) (eqb op op_call)
    (cond (makes m Slots) (names_slots d) true)))

abbrev doer : Acts → ℕ → Bool
doer x op = cond (does x SetsLocal) (eqb op op_set_local) (cond (does x Yields) (eqb op op_yield) (cond (does x Calls) (eqb op op_call) true))

-- one instruction asks of what is yielded, one of the value below; what asks of writes names slots
abbrev asker : Asks → Data → ℕ → Bool
asker a d op = cond (asks a Yielded) (eqb op op_yield) (cond (asks a Returned) (eqb op op_return) (cond (asks a Stored) (names_slots d) true))

return-acts : (rule_of op_return).acts ≡ Returns
unfolding rule_of rules
return-acts = refl

module _ (op : ℕ) where
  made_by : maker (rule_of op).makes (rule_of op).slots op ≡ true
  unfolding rules
  made_by = every-rule (λ n r. maker r.makes r.slots n) (λ n l. refl) refl op

  done-by : doer (rule_of op).acts op ≡ true
  unfolding rules
  done-by = every-rule (λ n r. doer r.acts n) (λ n l. refl) refl op

  asked_by : asker (rule_of op).asks (rule_of op).slots op ≡ true
  unfolding rules
  asked_by = every-rule (λ n r. asker r.asks r.slots n) (λ n l. refl) refl op

  pub makes-local : (rule_of op).makes ≡ Local → op ≡ op_get_local
  makes-local e = eqb-true op op_get_local (rw e at made_by)

  pub makes-reply : (rule_of op).makes ≡ Reply → op ≡ op_yield
  makes-reply e = eqb-true op op_yield (rw e at made_by)

  pub makes-result : (rule_of op).makes ≡ Result → op ≡ op_call
  makes-result e = eqb-true op op_call (rw e at made_by)

  pub makes-slots : (rule_of op).makes ≡ Slots → names_slots (rule_of op).slots ≡ true
  makes-slots e = rw e at made_by

  pub sets_local : (rule_of op).acts ≡ SetsLocal → op ≡ op_set_local
  sets_local e = eqb-true op op_set_local (rw e at done-by)

  pub yields : (rule_of op).acts ≡ Yields → op ≡ op_yield
  yields e = eqb-true op op_yield (rw e at done-by)

  pub call-is : (rule_of op).acts ≡ Calls → op ≡ op_call
  call-is e = eqb-true op op_call (rw e at done-by)

  pub asks-yielded : (rule_of op).asks ≡ Yielded → op ≡ op_yield
  asks-yielded e = eqb-true op op_yield (rw e at asked_by)

  pub asks-stored : (rule_of op).asks ≡ Stored → names_slots (rule_of op).slots ≡ true
  asks-stored e = rw e at asked_by

  pub asks-returned : (rule_of op).asks ≡ Returned → (rule_of op).acts ≡ Returns
  asks-returned e = rw (eqb-true op op_return (rw e at asked_by)) return-acts

  -- a `Call` names its callee, a `GetLocal` its local
  pub call-callee : op ≡ op_call → (fit_of op).meaning ≡ callee
  unfolding fit_of fits
  call-callee e = rw e

  pub get_local : op ≡ op_get_local → (fit_of op).meaning ≡ local
  unfolding fit_of fits
  get_local e = rw e
