-- What good form says of calls, and of reads of locals.
use Rattle.std.specs.Prelude.{ℕ, ◌<◌, ◌≤◌, ◌≡◌, length, get_or}
use mathlib.Core.List.{[], Memᴰ}
use Rattle.definition.specs.Module.{Module, Chunk}
use Rattle.definition.specs.Leaves.{line_at}
use Rattle.definition.specs.Start.{first_facts}
use Rattle.ops.specs.declared.Makes.TheVariants.{Local as NamedLocal}
use Rattle.ops.specs.Ops.{rule_of}
use Rattle.ops.specs.Numbers.{op_call}

-- a call takes no more than its callee's parameters
abbrev pub CallsFit : Module → Type 0
CallsFit m =
    (c : Chunk) → Memᴰ c m.chunks → (i : ℕ) → (line_at c i).instr.op ≡ op_call
    → (line_at c i).instr.taken ≤ length (get_or (first_facts m).inputs (line_at c i).instr.a [])

-- a value is read from a local that the chunk has
abbrev pub LocalsFit : Module → Type 0
LocalsFit m =
    (c : Chunk) → Memᴰ c m.chunks → (i : ℕ) → i < length c.code → (rule_of (line_at c i).instr.op).makes ≡ NamedLocal
    → (line_at c i).instr.a < c.locals
