-- `checks::validation::unpacked` meets its contract.
use Rattle.checks.proofs.asked.Checked.{unpacked-flat, unpacked-boxed}
use mathlib.Core.Path.{◌≡◌, refl, sym, ap, ◌∙◌}
use mathlib.Core.Bool.{false}
use mathlib.Core.List.{[], ◌∷◌}
use borrow.Enum.Refused.{opened}
use types.Run.{OneOf, miss}
use denote.Enum.Declared.{tag_of}
use Rattle.ops.specs.contracts.Makes.{the_type}
use Rattle.ops.specs.declared.Makes.{Makes}
use Rattle.ops.specs.declared.Makes.TheVariants.{Anything, Constant, Immediate, Local, Operand, OperandMask, Reply, Result, Common, Kind, Negation, OneKind, Slots, Composite, Part, NativeValue}
use Rattle.description.specs.declared.Instr.{Instr}
use Rattle.extents.specs.declared.Extent.{Extent}
use Rattle.definition.specs.Outputs.{Visit}
use Rattle.definition.specs.Wants.{is_unknown, unpacked}
use Rattle.visit.specs.Held.{visit_in}
use Rattle.visit.proofs.operands.Parts.{ins-is}
use Rattle.checks.proofs.validation.unpacked.Goals as goal

no-composite : (v : Visit) (a : Makes) → OneOf (0 ∷ 1 ∷ 2 ∷ 3 ∷ 4 ∷ 5 ∷ 6 ∷ 7 ∷ 8 ∷ 9 ∷ 10 ∷ 11 ∷ 12 ∷ 14 ∷ 15 ∷ []) (tag_of the_type a) → false ≡ unpacked v a
unfolding unpacked
no-composite v Anything h = refl
no-composite v Constant h = refl
no-composite v Immediate h = refl
no-composite v Local h = refl
no-composite v Operand h = refl
no-composite v OperandMask h = refl
no-composite v Reply h = refl
no-composite v Result h = refl
no-composite v (Common m) h = refl
no-composite v (Kind m) h = refl
no-composite v Negation h = refl
no-composite v OneKind h = refl
no-composite v Slots h = refl
no-composite v Composite h = absurd (miss (0 ∷ 1 ∷ 2 ∷ 3 ∷ 4 ∷ 5 ∷ 6 ∷ 7 ∷ 8 ∷ 9 ∷ 10 ∷ 11 ∷ 12 ∷ 14 ∷ 15 ∷ []) 13 tt h)
no-composite v Part h = refl
no-composite v NativeValue h = refl

pub returns-then-ins-eq0 : goal.returns-then-ins-eq0
returns-then-ins-eq0 c =
    let a = c.args in
    let v = visit_in a.s.now a.ws.now a.v in
    let i = ap (λ (x : Instr). x.a) (ins-is a.s.now a.ws.now a.v c.requires.looking) in
    c.unbounded.ensures ∙ ap (λ (e : Extent). is_unknown e.body) c.constructed_at.ensures
    ∙ sym (unpacked-flat v (sym i ∙ c.if-ins-eq0.true)) ∙ ap (unpacked v) (sym c.in-Composite.is)

pub returns-else-ins-eq0 : goal.returns-else-ins-eq0
returns-else-ins-eq0 c =
    let a = c.args in
    let v = visit_in a.s.now a.ws.now a.v in
    let i = ap (λ (x : Instr). x.a) (ins-is a.s.now a.ws.now a.v c.requires.looking) in
    sym (unpacked-boxed v (λ z. c.if-ins-eq0.false (i ∙ z))) ∙ ap (unpacked v) (sym c.in-Composite.is)

pub returns-in_default : goal.returns-in_default
returns-in_default c = no-composite (visit_in c.args.s.now c.args.ws.now c.args.v) c.args.v.rule.makes (opened c.in_default.in_default-own.keys2)
