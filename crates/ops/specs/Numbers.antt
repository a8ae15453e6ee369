-- The places in Op of the instructions that a rule or a proof names; bytecode.rs has them all, and Ops.antt a line for each.
use Rattle.std.specs.Prelude.{ℕ}

abbrev pub op_get_local : ℕ
op_get_local = 1

abbrev pub op_set_local : ℕ
op_set_local = 2

abbrev pub op_if : ℕ
op_if = 21

abbrev pub op_break_if : ℕ
op_break_if = 27

abbrev pub op_call : ℕ
op_call = 30

abbrev pub op_return : ℕ
op_return = 31

abbrev pub op_yield : ℕ
op_yield = 32

abbrev pub op_is_enum : ℕ
op_is_enum = 40

abbrev pub op_is_struct : ℕ
op_is_struct = 41
