-- `start::admitting::agrees` meets its contract.
use Rattle.form_laws.specs.Good.{chunk_no}
use Rattle.definition.specs.Module.{module_of}
use mathlib.Core.Path.{◌≡◌}
use lib.ListN.{get_or}
use Rattle.description.specs.Fields.{tags_at}
use native.Mathlib.Omega.{arith}
use Rattle.start.proofs.admitting.Chunks.{at_small, tag_is}
use Rattle.start.proofs.admitting.agrees.Goals as goal

pub tags_at-requires : goal.tags_at-requires
tags_at-requires c = omega (arith, at_small _ _ c.requires.c_in_bounds _ c.requires.good _ c.requires.numbers_of)

pub overflow_add-tags_at : goal.overflow_add-tags_at
unfolding tags_at
overflow_add-tags_at c = omega (arith, at_small _ _ c.requires.c_in_bounds _ c.requires.good _ c.requires.numbers_of, (c.requires.good.each_chunk _ c.requires.c_in_bounds).params, c.tags_at.ensures)

pub returns : goal.returns
returns c =
    let a = c.args in
    let t : c.u8_at-tag.result ≡ get_or (chunk_no (module_of a.s.now) a.c).tags a.k 0
    = cc (tag_is a.s.now a.c c.requires.c_in_bounds a.k c.requires.k_in_bounds.0, c.requires.numbers_of.at) in
    rw (← t) (cc)
