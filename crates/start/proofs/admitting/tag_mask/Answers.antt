-- `start::admitting::tag_mask` meets its contract.
use Rattle.start.proofs.admitting.Chunks.{tag-other}
use Rattle.definition.specs.Start.{tag_mask}
use Rattle.start.proofs.admitting.tag_mask.Goals as goal

pub returns-in-1 : goal.returns-in-1
unfolding tag_mask
returns-in-1 c = rw c.in-1.is

pub returns-in-2 : goal.returns-in-2
unfolding tag_mask
returns-in-2 c = rw c.in-2.is

pub returns-in-3 : goal.returns-in-3
unfolding tag_mask
returns-in-3 c = rw c.in-3.is

pub returns-in-4 : goal.returns-in-4
unfolding tag_mask
returns-in-4 c = rw c.in-4.is

pub returns-in-5 : goal.returns-in-5
unfolding tag_mask
returns-in-5 c = rw c.in-5.is

pub returns-in-6 : goal.returns-in-6
unfolding tag_mask
returns-in-6 c = rw c.in-6.is

pub returns-in-7 : goal.returns-in-7
unfolding tag_mask
returns-in-7 c = rw c.in-7.is

pub returns-in_default : goal.returns-in_default
unfolding tag_mask
returns-in_default c = let r = c.in_default.in_default-own.rest in tag-other _ r.0.0.0.0.0.0.1 r.0.0.0.0.0.1 r.0.0.0.0.1 r.0.0.0.1 r.0.0.1 r.0.1 r.1
