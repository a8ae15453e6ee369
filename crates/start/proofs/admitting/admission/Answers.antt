-- `start::admitting::admission` meets its contract.
use Rattle.start.proofs.admitting.Chunks.{at_small, admission-missing, admission-agrees, least-is}
use native.Mathlib.Omega.{arith}
use Rattle.start.proofs.admitting.admission.Goals as goal

pub chunk_head_at-h-requires : goal.chunk_head_at-h-requires
chunk_head_at-h-requires c = omega (arith, at_small _ _ c.requires.c_in_bounds _ c.requires.good _ c.requires.numbers_of)

pub returns-then-t-c : goal.returns-then-t-c
returns-then-t-c c = admission-missing _ _ c.requires.good _ c.requires.t_value _ c.requires.c_in_bounds _ c.requires.numbers_of _ c.chunk_head_at-h.ensures c.if-t-c.true

pub all_agree-requires : goal.all_agree-requires
all_agree-requires c =
    record { good = c.requires.good; c_in_bounds = c.requires.c_in_bounds; numbers_of = c.requires.numbers_of; least = least-is _ _ c.requires.good _ c.requires.t_value _ c.requires.c_in_bounds _ c.requires.numbers_of _ c.chunk_head_at-h.ensures _ c.smaller.ensures }

pub returns-then-all_agree : goal.returns-then-all_agree
returns-then-all_agree c =
    rw c.if-all_agree.true at (admission-agrees _ _ c.requires.good _ c.requires.t_value _ c.requires.c_in_bounds _ c.requires.numbers_of _ c.chunk_head_at-h.ensures c.if-t-c.false _ c.all_agree.ensures)

pub returns : goal.returns
returns c =
    rw c.if-all_agree.false at (admission-agrees _ _ c.requires.good _ c.requires.t_value _ c.requires.c_in_bounds _ c.requires.numbers_of _ c.chunk_head_at-h.ensures c.if-t-c.false _ c.all_agree.ensures)
