-- The walk over a description's fields: what each can add to the report, and the chunk that it stands in.
use Rattle.std.specs.Prelude.{ℕ, ◌+◌, Bool, true, cond, ◌&&◌, List, eqb, ltb}
use Rattle.description.specs.declared.Header.{Header}
use Rattle.description.specs.declared.Instr.{Instr}
use Rattle.description.specs.Fields.{tag_at, chunk_of, instr_of}
use Rattle.definition.specs.Module.{flag, signed_params}
use Rattle.report_bound.specs.declared.Within.{Within}
use Rattle.report_bound.specs.Most.{goes_on, height_after, instr_most, signature_most}

-- the chunk whose field is at p, after so many
unfoldable pub chunk_within : List ℕ → ℕ → Header → ℕ → Within
chunk_within s p h seen =
    record {
      seen = seen + 1;
      reachable = flag (chunk_of s p).reachable;
      entry = eqb seen h.entry;
      locals = (chunk_of s p).locals;
      stack = (chunk_of s p).stack;
      straight = true;
      height = 0;
    }

-- the same chunk after one of its instructions
unfoldable pub instr_within : Instr → Within → Within
instr_within i w =
    let on = w.straight && goes_on i in
    record {
      seen = w.seen;
      reachable = w.reachable;
      entry = w.entry;
      locals = w.locals;
      stack = w.stack;
      straight = on;
      height = height_after on w.stack w.height i;
    }

unfoldable pub within_after : List ℕ → ℕ → Header → Within → Within
within_after s p h w =
    cond (eqb (tag_at s p) 2) (chunk_within s p h w.seen)
    (cond (eqb (tag_at s p) 3) (instr_within (instr_of s p) w) w)

unfoldable pub field_most : List ℕ → ℕ → Header → Within → ℕ
field_most s p h w =
    cond (eqb (tag_at s p) 2) (signature_most (signed_params s p (ltb w.seen h.signatures)) (ltb w.seen h.signatures))
    (cond (eqb (tag_at s p) 3 && w.reachable) (instr_most w.locals w.stack w.height w.entry (instr_of s p)) 0)
