-- The ways that leave an instruction, and what leaves along each.
-- Of types.rs: the successors (lines 1236 to 1255) and the narrowing on each way (1256 to 1266), `narrow_enum` and `invalidate` of `Facts`
-- (342 to 363); the state that leaves (1233 to 1235), with what is forgotten where a local is set (1152 to 1192), and after `Reset` (987 to
-- 994, 1067 to 1074, 1203 to 1210). Of document 01: "Passes" in "Steps and passes". Of document 02: Four (`exit_of`).
-- Where it differs: a test whose target is the very next instruction has a single way there, without narrowing and never cut. types.rs has
-- two equal ways, and narrows or cuts both. Reading, what types.rs does: D8 narrowing keeps the other extents.
-- Left open: whether a target lies in the chunk. Targets past the end stand in the list too; the machine drops them (`put_in` in
-- Machine.antt), as types.rs does at 1267, after the narrowing. Recursion goes along lists (ways, cells).
use Rattle.std.specs.Prelude.{ℕ, suc, Bool, true, false, not, cond, List, [], ◌∷◌, ◌++◌, map, eqb, get_or, set, Option as Maybe, None, Some}
use Rattle.std.proofs.Math.Option.{Option, none, some}
use Rattle.masks.specs.declared.Mask.{Mask}
use Rattle.masks.specs.Mask.{has}
use Rattle.masks.specs.Mask.{same as same_mask}
use Rattle.masks.specs.Names.{FALSE, TRUE, ENUM}
use Rattle.flows.specs.declared.Predicate.{Predicate}
use Rattle.flows.specs.declared.Predicate.TheVariants.{Nothing as Untested, Tests}
use Rattle.flows.specs.Flow.{same_bool}
use Rattle.cells.specs.declared.Cell.{Cell}
use Rattle.cells.specs.Cell.{invalidated_cell, narrow_enum, unit_cell}
use Rattle.ops.specs.declared.Exit.{Exit}
use Rattle.ops.specs.declared.Exit.TheVariants.{Next, Stops, Jumps, Ifs, Breaks, Restarts}
use Rattle.ops.specs.declared.Acts.{Acts}
use Rattle.ops.specs.declared.Acts.TheVariants.{Still, SetsLocal, Yields, Calls, Returns, Resets, Stores}
use Rattle.definition.specs.declared.Made.{Made}
use Rattle.definition.specs.Module.{row}
use Rattle.definition.specs.State.{State}
use Rattle.definition.specs.Outputs.{Visit, Setting, arg, instr, no_cell, output, outputs, setting}

-- how control leaves the instruction i: a test whose target is the next instruction decides nothing, so it goes on as one that tests nothing
unfoldable pub exit_of : Exit → ℕ → ℕ → Exit
exit_of Next i target = Next
exit_of Stops i target = Stops
exit_of Jumps i target = Jumps
exit_of Ifs i target = cond (eqb target (suc i)) Next Ifs
exit_of Breaks i target = cond (eqb target (suc i)) Next Breaks
exit_of Restarts i target = Restarts

-- a condition that is exactly one Bool keeps one way: `jumps` goes to the target, `stays` on
unfoldable pub branch : Mask → Mask → Mask → ℕ → ℕ → List ℕ
branch condition jumps stays next target =
    cond (same_mask condition jumps) (target ∷ [])
    (cond (same_mask condition stays) (next ∷ [])
    (next ∷ target ∷ []))

-- the instructions that control may pass to from the instruction i
unfoldable pub ways_of : Exit → ℕ → ℕ → Mask → List ℕ
ways_of Next i target condition = suc i ∷ []
ways_of Stops i target condition = []
ways_of Jumps i target condition = target ∷ []
ways_of Ifs i target condition = branch condition FALSE TRUE (suc i) target
ways_of Breaks i target condition = branch condition TRUE FALSE (suc i) target
ways_of Restarts i target condition = 1 ∷ []

-- the receiver of a predicate that holds where the way counts as `counted`
unfoldable pub receiver_on : Predicate → Bool → Option ℕ
receiver_on Untested counted = none
receiver_on (Tests r when) counted = cond (same_bool when counted) (some r) none

-- a way of a test counts as true when "it goes to the target" and "this is `BreakIf`" agree
unfoldable pub narrowing : Exit → Predicate → ℕ → ℕ → Option ℕ
narrowing Next p target to = none
narrowing Stops p target to = none
narrowing Jumps p target to = none
narrowing Ifs p target to = receiver_on p (not (eqb to target))
narrowing Breaks p target to = receiver_on p (eqb to target)
narrowing Restarts p target to = none

unfoldable pub is_from : Maybe ℕ → ℕ → Bool
is_from None r = false
is_from (Some l) r = eqb l r

-- a stack cell that still equals the receiver is narrowed with it
unfoldable pub narrow_stack : ℕ → Cell → Cell
narrow_stack r c = cond (is_from c.flow.origin r) (narrow_enum c) c

unfoldable pub narrowed : State → ℕ → State
narrowed x r =
    record { stack = map (narrow_stack r) x.stack; locals = set x.locals r (narrow_enum (get_or x.locals r no_cell)) }

-- `narrow_enum`: none where the receiver can't be an enum, so the way is cut
unfoldable pub along : State → Option ℕ → Option State
along x none = some x
along x (some r) = cond (has (get_or x.locals r no_cell).mask ENUM) (some (narrowed x r)) none

-- the local that is set is forgotten in every other cell
unfoldable pub forget : Option Setting → Cell → Cell
forget none c = c
forget (some x) c = invalidated_cell c x.local

unfoldable pub set_locals : Option Setting → List Cell → List Cell
set_locals none ls = ls
set_locals (some x) ls = set (map (λ c. invalidated_cell c x.local) ls) x.local x.cell

unfoldable pub output_list : Made → ℕ → List Cell
output_list m n = row (output m) 0 n

unfoldable pub kept : Visit → Made → Option Setting → State
kept v m x =
    record { stack = map (forget x) v.below ++ output_list m (instr v).given; locals = set_locals x v.locals }

-- the first local of a streaming entry is the reply, all others are Unit
unfoldable pub reset_first : Bool → Cell → List Cell → List Cell
reset_first streams reply [] = []
reset_first streams reply (c ∷ cs) = cond streams reply unit_cell ∷ map (λ x. unit_cell) cs

unfoldable pub is_reset : Acts → Bool
is_reset Resets = true
is_reset Still = false
is_reset SetsLocal = false
is_reset Yields = false
is_reset Calls = false
is_reset Returns = false
is_reset Stores = false

unfoldable pub reset : Visit → Made → State
reset v m = record { stack = output_list m (instr v).given; locals = reset_first v.streams v.reply v.locals }

-- the state after the visit, before a way is taken
unfoldable pub after : Visit → State
after v = cond (is_reset v.rule.acts) (reset v (outputs v)) (kept v (outputs v) (setting v v.rule.acts))

unfoldable pub on_way : ℕ → Option State → List (ℕ × State) → List (ℕ × State)
on_way to none ws = ws
on_way to (some x) ws = (to, x) ∷ ws

-- how control leaves a visit
abbrev pub exit_from : Visit → Exit
exit_from v = exit_of v.rule.exit v.at (instr v).a

-- the local that is narrowed on the way to `to`
abbrev pub narrowed_on : Visit → ℕ → Option ℕ
narrowed_on v to = narrowing (exit_from v) (arg v 0).flow.predicate (instr v).a to

-- what leaves along each way that is not cut
unfoldable pub leaving_by : Visit → State → List ℕ → List (ℕ × State)
leaving_by v x [] = []
leaving_by v x (to ∷ tos) = on_way to (along x (narrowed_on v to)) (leaving_by v x tos)

unfoldable pub leaving : Visit → List (ℕ × State)
leaving v = leaving_by v (after v) (ways_of (exit_from v) v.at (instr v).a (arg v 0).mask)
