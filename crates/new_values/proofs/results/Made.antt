-- A visit's outputs by values are the definition's of any visit.
use Rattle.std.specs.Prelude.{Some}
use Prim.Native.Nat.{◌%◌, ◌<◌}
use mathlib.Core.Path.{◌≡◌}
use native.Mathlib.Nat.{mod-eq_of_lt}
use native.Mathlib.Omega.{arith}
use lib.ListN.{get_or}
use borrow.Author.Tests.{lt-ltb}
use Rattle.cells.specs.declared.Cell.{Cell}
use Rattle.ops.specs.declared.Makes.TheVariants.{Local as NamedLocal}
use Rattle.definition.specs.Outputs.{Visit, no_cell, instr, with_origin, origin_at, first_output, second_output, rest_output, made_from, outputs}

-- the outputs, from the first
pub outputs-by : (v : Visit) (first : Cell) → first ≡ first_output v v.rule.makes
    → outputs v
    ≡ record {
      first = first;
      second = second_output v.rule.others (instr v) first v.code.float;
      rest = rest_output v.rule.others first v.code.float;
    }
unfolding outputs made_from
outputs-by v first h = rw (← h)

-- the first output in the cases that the code of this crate makes
-- a local that an instruction of good form names
pub first-local : (v : Visit) → (instr v).a < 65535
    → first_output v NamedLocal ≡ with_origin (get_or v.locals (instr v).a no_cell) (Some ((instr v).a % 65536))
unfolding first_output origin_at
first-local v h = let l : (instr v).a < 65536 = omega arith in rw (lt-ltb _ _ h, mod-eq_of_lt l)
