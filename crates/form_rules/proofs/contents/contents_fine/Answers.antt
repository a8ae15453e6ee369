-- `form_rules::contents::contents_fine` meets its contract.
use Rattle.description.specs.Fields.{tags_at}
use native.Mathlib.Omega.{arith}
use Rattle.form_rules.proofs.contents.contents_fine.Goals as goal

pub tags_fine-tagged-requires : goal.tags_fine-tagged-requires
unfolding tags_at
tags_fine-tagged-requires c = (omega arith, omega arith)

pub returns : goal.returns
returns c = cc
