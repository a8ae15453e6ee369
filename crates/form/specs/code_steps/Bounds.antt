-- What the walk over the fields keeps: no sum of a scan overflows.
use Rattle.std.specs.Prelude.{ℕ, ◌*◌, ◌≤◌}
use Rattle.definition.specs.declared.Scan.{Scan}
use Rattle.definition.specs.Bounds.{most_chunks, most_locals, most_stack, most_instrs}

-- n is the place of the field that comes next; t.place is the tag of the field before it, 0 before the header. So `unseen` and `uncoded` say
-- that before the header no chunk and no instruction was seen
pub record Bounded (t : Scan) (n : ℕ) : Type 0 where
  pub chunks : t.chunks ≤ most_chunks
  pub signatures : t.signatures ≤ most_chunks
  pub seen : t.seen ≤ t.chunks
  -- before the header, where the place is 0, no chunk and no instruction is seen
  pub unseen : t.seen ≤ most_chunks * t.place
  pub instrs : t.instrs ≤ most_instrs
  pub uncoded : t.instrs ≤ most_instrs * t.place
  pub locals : t.locals ≤ most_locals
  pub stack : t.stack ≤ most_stack
  pub count : t.count ≤ n
  pub cells : t.cells ≤ 58 * n
