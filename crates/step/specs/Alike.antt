-- The code's visit of a row beside the definition's visit: what has to agree.
use Rattle.std.specs.Prelude.{ℕ, ◌+◌, ◌<◌, ◌≡◌, cond, List, length}
use Rattle.ops.specs.Ops.{rule_of}
use Rattle.words.specs.Layout.{cell_at}
use Rattle.words.specs.Rows.{cells_at}
use Rattle.definition.specs.Outputs.{Visit, instr, outputs, setting}
use Rattle.definition.specs.Ways.{is_reset}
use Rattle.layout.specs.declared.Chunk.{Chunk}
use Rattle.row_join.specs.places.Arrive.{no_local}
use Rattle.row_join.specs.declared.joining.Leaving.{Leaving}
use Rattle.row_join.specs.joining.Met.{SetAs}
use Rattle.visit.specs.declared.RowVisit.{RowVisit}
use Rattle.visit.specs.Held.{args_in}
use Rattle.propagate.specs.Passing.{locals_of}
use Rattle.layout.specs.Layout.{stack_at}

-- ---- the code's visit of a row is the definition's visit
pub record Alike (ws : List ℕ) (ch : Chunk) (v : RowVisit) (x : Visit) (l : Leaving) : Type 0 where
  pub rule : v.rule ≡ x.rule
  pub table : x.rule ≡ rule_of (instr x).op
  pub at : v.at ≡ x.at
  pub ins : v.ins ≡ instr x
  pub args : args_in ws v ≡ x.args
  pub below : cells_at ws (stack_at v.row) v.start ≡ x.below
  pub locals : locals_of ws ch v ≡ x.locals
  pub few : length x.locals < no_local
  pub streams : ch.streams ≡ x.streams
  pub reply : cell_at ws 0 ≡ x.reply
  pub made : l.made ≡ outputs x
  pub sets : SetAs (setting x x.rule.acts) l.set
  pub resets : l.resets ≡ is_reset x.rule.acts
  pub height : l.height ≡ cond (is_reset x.rule.acts) (instr x).given (length x.below + (instr x).given)
