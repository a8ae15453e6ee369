-- `outputs::first_output` meets its contract.
use native.Mathlib.Omega.{arith}
use mathlib.Core.Path.{sym, ap, ◌∙◌}
use Rattle.definition.specs.Outputs.{first_output}
use Rattle.visit.proofs.Visits.{looking-standing}
use Rattle.outputs.proofs.Parts.{field_room, callee-in, callee-made, named_in, local-room, local-small}
use Rattle.outputs.proofs.First.{first-anything, first-constant, first-immediate, first-local, first-operand, first-operand-mask, first-reply, first-result, first-common, first_kind, first-negation, first-one-kind, first-slots, first-composite, first_part, first-native, slots-there}
use Rattle.outputs.proofs.first_output.Goals as goal

pub local_cell-requires : goal.local_cell-requires
local_cell-requires c =
    let h = named_in _ _ _ c.requires.looking _ c.requires.ch_value c.in-Local.is in
    record { a_in_bounds = local-room _ _ _ c.requires.looking _ c.requires.ch_value _ h; a_bound = omega (arith, local-small _ _ _ c.requires.looking _ c.requires.ch_value _ h) }

pub operand-requires : goal.operand-requires
operand-requires c = record { standing = looking-standing _ _ _ c.requires.looking; k_bound = omega arith }

pub operand_mask-requires : goal.operand_mask-requires
operand_mask-requires c = record { standing = looking-standing _ _ _ c.requires.looking; k_bound = omega arith }

pub reply_cell-requires : goal.reply_cell-requires
reply_cell-requires c = omega (arith, field_room _ _ _ c.requires.looking)

pub result_cell-requires : goal.result_cell-requires
result_cell-requires c = record { indexed = c.requires.looking.indexed; a_in_bounds = callee-in _ _ _ c.requires.looking (callee-made _ _ _ c.requires.looking c.in-Result.is) }

pub common_kinds-requires : goal.common_kinds-requires
common_kinds-requires c = looking-standing _ _ _ c.requires.looking

pub operand-requires-in-Negation : goal.operand-requires-in-Negation
operand-requires-in-Negation c = record { standing = looking-standing _ _ _ c.requires.looking; k_bound = omega arith }

pub operand_mask-requires-in-OneKind : goal.operand_mask-requires-in-OneKind
operand_mask-requires-in-OneKind c = record { standing = looking-standing _ _ _ c.requires.looking; k_bound = omega arith }

pub common_kinds-requires-in-OneKind : goal.common_kinds-requires-in-OneKind
common_kinds-requires-in-OneKind c = looking-standing _ _ _ c.requires.looking

pub slots_cell-requires : goal.slots_cell-requires
slots_cell-requires c = record { indexed = c.requires.looking.indexed; t_value = c.requires.t_value; slots_bound = slots-there _ _ _ c.requires.looking _ c.requires.t_value c.in-Slots.is c.requires.v_value }

pub operand-requires-in-Part : goal.operand-requires-in-Part
operand-requires-in-Part c = record { standing = looking-standing _ _ _ c.requires.looking; k_bound = omega arith }

pub returns-in-Anything : goal.returns-in-Anything
returns-in-Anything c = rw c.made.ensures (first-anything _ _ _ c.requires.looking _ c.requires.t_value ∙ ap (first_output _) (sym c.in-Anything.is))

pub returns-in-Constant : goal.returns-in-Constant
returns-in-Constant c = rw c.constant_cell.ensures (first-constant _ _ _ c.requires.looking _ c.requires.t_value ∙ ap (first_output _) (sym c.in-Constant.is))

pub returns-in-Immediate : goal.returns-in-Immediate
returns-in-Immediate c = rw (c.made-in-Immediate.ensures, c.immediate.ensures) (first-immediate _ _ _ c.requires.looking _ c.requires.t_value ∙ ap (first_output _) (sym c.in-Immediate.is))

pub returns-in-Local : goal.returns-in-Local
returns-in-Local c = rw c.local_cell.ensures (first-local _ _ _ c.requires.looking _ c.requires.t_value _ c.requires.ch_value c.in-Local.is ∙ ap (first_output _) (sym c.in-Local.is))

pub returns-in-Operand : goal.returns-in-Operand
returns-in-Operand c = rw c.operand.ensures (first-operand _ _ _ c.requires.looking _ c.requires.t_value ∙ ap (first_output _) (sym c.in-Operand.is))

pub returns-in-OperandMask : goal.returns-in-OperandMask
returns-in-OperandMask c = rw (c.made-in-OperandMask.ensures, c.operand_mask.ensures) (first-operand-mask _ _ _ c.requires.looking _ c.requires.t_value ∙ ap (first_output _) (sym c.in-OperandMask.is))

pub returns-in-Reply : goal.returns-in-Reply
returns-in-Reply c = rw c.reply_cell.ensures (first-reply _ _ _ c.requires.looking _ c.requires.t_value c.in-Reply.is ∙ ap (first_output _) (sym c.in-Reply.is))

pub returns-in-Result : goal.returns-in-Result
returns-in-Result c = rw c.result_cell.ensures (first-result _ _ _ c.requires.looking _ c.requires.t_value c.in-Result.is ∙ ap (first_output _) (sym c.in-Result.is))

pub returns-in-Common : goal.returns-in-Common
returns-in-Common c = rw (c.made-in-Common.ensures, c.common.ensures, c.common_kinds.ensures) (first-common _ _ _ c.requires.looking _ c.requires.t_value _ ∙ ap (first_output _) (sym c.in-Common.is))

pub returns-in-Kind : goal.returns-in-Kind
returns-in-Kind c = rw c.made-in-Kind.ensures (first_kind _ _ _ c.requires.looking _ c.requires.t_value _ ∙ ap (first_output _) (sym c.in-Kind.is))

pub returns-in-Negation : goal.returns-in-Negation
returns-in-Negation c = rw (c.negated_cell.ensures, c.operand-in-Negation.ensures) (first-negation _ _ _ c.requires.looking _ c.requires.t_value ∙ ap (first_output _) (sym c.in-Negation.is))

pub returns-in-OneKind : goal.returns-in-OneKind
returns-in-OneKind c = rw (c.made-in-OneKind.ensures, c.bits_mask.ensures, c.common_kinds-in-OneKind.ensures, c.operand_mask-in-OneKind.ensures) (first-one-kind _ _ _ c.requires.looking _ c.requires.t_value ∙ ap (first_output _) (sym c.in-OneKind.is))

pub returns-in-Slots : goal.returns-in-Slots
returns-in-Slots c = rw c.slots_cell.ensures (first-slots _ _ _ c.requires.looking _ c.requires.t_value ∙ ap (first_output _) (sym c.in-Slots.is))

pub returns-in-Composite : goal.returns-in-Composite
returns-in-Composite c = rw c.composite_cell.ensures (first-composite _ _ _ c.requires.looking _ c.requires.t_value ∙ ap (first_output _) (sym c.in-Composite.is))

pub returns-in-Part : goal.returns-in-Part
returns-in-Part c = rw (c.field_cell.ensures, c.owned_in.ensures, c.operand-in-Part.ensures) (first_part _ _ _ c.requires.looking _ c.requires.t_value ∙ ap (first_output _) (sym c.in-Part.is))

pub returns-in-NativeValue : goal.returns-in-NativeValue
returns-in-NativeValue c = rw c.native_at.ensures (first-native _ _ _ c.requires.looking _ c.requires.t_value ∙ ap (first_output _) (sym c.in-NativeValue.is))
